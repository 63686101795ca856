-- `plain::bracket::bracket_join` meets its contract: each branch is a case of the definition. Assumes nothing.
use Rattle.plain.proofs.Moving.{join_room, join_puts, no_join_puts}
use borrow.Author.Rules.{rules}
use Rattle.plain.proofs.bracket.bracket_join.Goals as goal

pub returns : goal.returns
returns c = search (no_join_puts, rules)
