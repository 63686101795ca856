-- `block::columns::check_sum` meets its contract: the total so far and the columns that are left are the sum over all 512 bytes.
-- Assumes nothing.
use Rattle.block.proofs.Invariants.{Summed}
use Rattle.block.proofs.columns.check_sum.Given as goal

abbrev pub invariant-loop-j : goal.invariant-loop-j
invariant-loop-j l = Summed l.block 16 l.total l.j
