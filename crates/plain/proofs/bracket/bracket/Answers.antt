-- `plain::bracket::bracket` meets its contract: the bytes move one place on. Assumes nothing.
use Rattle.plain.proofs.Moving.{bracket_puts}
use Rattle.plain.proofs.bracket.bracket.Goals as goal

pub returns : goal.returns
returns c = bracket_puts _ _ _ c.copy_within.ensures.after c.requires
