-- `block::columns::columns_of` meets its contract: the cells before `j` hold the sums of the columns before it. Assumes nothing.
use Rattle.block.specs.Columns.{ColumnsTo}
use Rattle.block.proofs.columns.columns_of.Given as goal

abbrev pub invariant-loop-j : goal.invariant-loop-j
invariant-loop-j l = ColumnsTo l.block l.sums l.rows l.j
