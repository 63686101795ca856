-- `report::rows::index_of` meets its contract: a remainder. Assumes nothing.
use borrow.Author.Rules.{rules}
use Rattle.report.proofs.Steps.{index_none, index_some}
use Rattle.report.proofs.tallies.index_of.Goals as goal

pub returns-then-n-eq0 : goal.returns-then-n-eq0
returns-then-n-eq0 c = search (index_none, rules)

pub returns : goal.returns
returns c = search (index_some, rules)
