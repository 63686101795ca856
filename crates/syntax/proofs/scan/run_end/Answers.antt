-- `syntax::scan::run_end` meets its contract. The loop's invariant: what is left decides where the run ends. Assumes nothing.
use native.Mathlib.Omega.{arith}
use Rattle.base.proofs.Runs.{scan_on, scan_stops, scan_ends}
use Rattle.syntax.proofs.scan.run_end.Goals as goal
use Rattle.syntax.proofs.scan.run_end.Goals.{then-loop-i-test+else-part, else-loop-i-test}

pub loop-i-preserved : goal.loop-i-preserved
loop-i-preserved g c = (omega arith, λ p h. scan_on p _ _ _ (c.loop-i.invariant.1 p h) _ (h _ _ c.part.ensures) c.if-part.true c.loop-i-test.true)

pub returns : goal.returns
returns g c =
    λ p h. elim c.loop-i-test.branch [
      | then-loop-i-test+else-part w ↦ scan_stops p _ _ _ (c.loop-i.invariant.1 p h) _ (h _ _ w.part.ensures) w.if-part.false w.loop-i-test.true
      | else-loop-i-test w ↦ scan_ends p _ _ _ (c.loop-i.invariant.1 p h) w.loop-i-test.false
    ]
