-- `row_judge::asks::keep_tests` meets its contract: the parameters of the rows so far are kept. Assumes nothing.
use Rattle.row_judge.proofs.Asking.{KeptTo}
use Rattle.row_judge.proofs.asks.keep_tests.Given as goal

abbrev pub invariant-loop-cell : goal.invariant-loop-cell
invariant-loop-cell l = KeptTo l.rows l.initial.kept l.kept l.cell-index
