-- `number::at_most` meets its contract: the order of exact values is that of billionths. Assumes nothing.
use borrow.Author.Rules.{rules}
use Rattle.number.proofs.Exact.{at_most-found}
use Rattle.number.proofs.at_most.Goals as goal

pub returns : goal.returns
returns c = search (at_most-found, rules)
