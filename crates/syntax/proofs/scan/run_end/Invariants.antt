-- `syntax::scan::run_end` meets its contract. The loop's invariant: what is left decides where the run ends. Assumes nothing.
use Prim.Native.Nat.{ℕ, ◌-◌, ◌≤◌}
use mathlib.Core.Bool.{Bool}
use mathlib.Core.Path.{◌≡◌}
use lib.ListN.{length}
use Rattle.base.proofs.Runs.{Scanned}
use Rattle.syntax.proofs.scan.run_end.Given as goal

abbrev pub invariant-loop-i : goal.invariant-loop-i
invariant-loop-i g l = (l.i ≤ length l.s) × ((p : ℕ → Bool) → ((b : ℕ) (r : Bool) → goal.F-post g l.part b r → r ≡ p b) → Scanned p l.s l.at l.i)

abbrev pub decreases-loop-i : goal.decreases-loop-i
decreases-loop-i g l = length l.s - l.i
