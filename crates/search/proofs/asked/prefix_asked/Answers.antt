-- `search::asked::prefix_asked` meets its contract: the operator read at the beginning is the prefix, if it is one. Assumes nothing.
use borrow.Author.Rules.{rules}
use Rattle.search.proofs.Prefixes.{prefix_is, other_operator, no_operator}
use Rattle.search.proofs.asked.prefix_asked.Goals as goal

pub returns-in-Some : goal.returns-in-Some
returns-in-Some c = search (prefix_is, rules)

pub returns-in_default : goal.returns-in_default
returns-in_default c = search (other_operator, rules)

pub returns-in_default-2 : goal.returns-in_default-2
returns-in_default-2 c = search (no_operator, rules)
