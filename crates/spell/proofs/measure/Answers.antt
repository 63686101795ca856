-- `spell::measure` meets its contract: the plain spelling is never longer than its source. Assumes nothing.
use Rattle.spell.proofs.Spelling.{measure_room, measure_long}
use native.Mathlib.Omega.{arith}
use lib.ListN.{length-take, length-replicate}
use borrow.Author.Rules.{rules}
use Rattle.spell.proofs.measure.Goals as goal

pub write_text-requires : goal.write_text-requires
write_text-requires c = measure_room _ _ c.requires (simp (length-take, length-replicate) (omega (arith, c.len.ensures.length, c.len.ensures.most)))

pub returns : goal.returns
returns c = search (measure_long, rules)
