-- `block::columns::column_at` meets its contract: the rows from the last up are summed, and both sums have 16 bits. Assumes nothing.
use Rattle.block.proofs.Invariants.{RowsSummed}
use Rattle.block.proofs.columns.column_at.Given as goal

abbrev pub invariant-loop-row : goal.invariant-loop-row
invariant-loop-row l = RowsSummed l.block l.j l.sum l.rows l.row
