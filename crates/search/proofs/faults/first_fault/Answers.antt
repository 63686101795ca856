-- `search::faults::first_fault` meets its contract. The loop's invariant: the rows to come decide. Assumes nothing.
use borrow.Author.Rules.{rules}
use Rattle.std.proofs.lemmas.Result.{err_from_is_err_and}
use Rattle.search.proofs.Judging.{facing_starts, facing_row, facing_fault, facing_next, facing_ends}
use Rattle.search.proofs.faults.first_fault.Goals as goal

pub loop-row-init : goal.loop-row-init
loop-row-init c = search (facing_starts, rules)

pub row_fault-requires : goal.row_fault-requires
row_fault-requires c = search (facing_row, rules)

pub returns-in_err-row_fault : goal.returns-in_err-row_fault
returns-in_err-row_fault c = let p = err_from_is_err_and c.from_residual.result c.from_residual.ensures.1 in rw (p.1, p.2) (search (facing_fault, c.in_err-row_fault.was, rules))

pub loop-row-preserved : goal.loop-row-preserved
loop-row-preserved c = search (facing_next, c.in_ok-row_fault.was, rules)

pub returns : goal.returns
returns c = search (facing_ends, rules)
