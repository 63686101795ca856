-- `report::rows::raised_by` meets its contract: a card without a value leaves the row. Assumes nothing.
use borrow.Author.Rules.{rules}
use Rattle.report.proofs.Values.{raise_none, raise_some}
use Rattle.report.proofs.tallies.raised_by.Goals as goal

pub returns-then-values-eq0 : goal.returns-then-values-eq0
returns-then-values-eq0 c = search (raise_none, rules)

pub returns : goal.returns
returns c = search (raise_some, rules)
