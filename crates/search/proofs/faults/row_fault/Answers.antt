-- `search::faults::row_fault` meets its contract: a row keeps the name and the text of its alternative. Assumes nothing.
use borrow.Author.Rules.{rules}
use Rattle.search.proofs.Judging.{row_faulted}
use Rattle.search.proofs.faults.row_fault.Goals as goal

pub returns : goal.returns
returns c = search (row_faulted, rules)
