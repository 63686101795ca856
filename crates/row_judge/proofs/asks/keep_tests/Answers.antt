-- `row_judge::asks::keep_tests` meets its contract: the parameters of the rows so far are kept. Assumes nothing.
use borrow.Author.Rules.{rules}
use Rattle.rows.proofs.Cells.{test_index}
use Rattle.row_judge.proofs.Asking.{kept_start, kept_test, kept_none, kept_end}
use Rattle.row_judge.proofs.asks.keep_tests.Goals as goal
use Rattle.row_judge.proofs.asks.keep_tests.Goals.{in-Test, in_default}

pub loop-cell-init : goal.loop-cell-init
loop-cell-init c = search (kept_start, rules)

pub keep-requires : goal.keep-requires
keep-requires c = search (test_index, rules)

pub loop-cell-preserved : goal.loop-cell-preserved
loop-cell-preserved c = elim c.match-row_of.branch [ in-Test w ↦ rw w.kept-is (kept_test _ _ _ _ c.loop-cell.invariant _ c.row_of.ensures _ _ w.in-Test.is w.keep.ensures) | in_default w ↦ search (kept_none, rules) ]

pub returns : goal.returns
returns c = search (kept_end, rules)
