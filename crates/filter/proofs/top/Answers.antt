-- `filter::top` meets its contract. Assumes nothing.
use borrow.Author.Rules.{rules}
use Rattle.filter.proofs.Walk.{top_is}
use Rattle.filter.proofs.top.Goals as goal

pub returns : goal.returns
returns c = search (top_is, rules)
