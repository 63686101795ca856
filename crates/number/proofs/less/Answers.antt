-- `number::less` meets its contract: the order of exact values is that of billionths. Assumes nothing.
use borrow.Author.Rules.{rules}
use Rattle.number.proofs.Exact.{less-found}
use Rattle.number.proofs.less.Goals as goal

pub returns : goal.returns
returns c = search (less-found, rules)
