-- `search::faults::first_fault` meets its contract. The loop's invariant: the rows to come decide. Assumes nothing.
use lib.ListN.{length}
use Rattle.sheet.specs.Sheet.{parameters_of}
use Rattle.search.proofs.Judging.{Facing}
use Rattle.search.proofs.faults.first_fault.Given as goal

abbrev pub invariant-loop-row : goal.invariant-loop-row
invariant-loop-row l = Facing (length l.fn.asked.bytes.now) (parameters_of l.sheet) l.fn.asked.bytes.now l.fn.asked.rows.now l.row-index
