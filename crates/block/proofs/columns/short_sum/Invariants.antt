-- `block::columns::short_sum` meets its contract: the total so far and the columns that are left are the sum over the rows. Assumes nothing.
use Rattle.block.proofs.Invariants.{Summed}
use Rattle.block.proofs.columns.short_sum.Given as goal

abbrev pub invariant-loop-j : goal.invariant-loop-j
invariant-loop-j l = Summed l.block 4 l.total l.j
