-- `syntax::read_member` meets its contract. Assumes nothing.
use borrow.Author.Rules.{rules}
use Rattle.syntax.proofs.Structure.{after_close_lem, after_nothing}
use Rattle.syntax.proofs.Places.{close_within}
use Rattle.syntax.proofs.read_member.Goals as goal

pub read_dotted-requires : goal.read_dotted-requires
read_dotted-requires c = search (close_within, rules)

pub returns : goal.returns
returns c = search (after_close_lem, rules)

pub returns-in_err-after : goal.returns-in_err-after
returns-in_err-after c = search (after_nothing, rules)
