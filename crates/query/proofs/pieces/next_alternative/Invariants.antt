-- `query::pieces::next_alternative` meets its contract. The loop's invariant: what was written and the signs that are left make the alternative. Assumes nothing.
use Prim.Native.Nat.{◌-◌}
use mathlib.Core.Path.{◌≡◌}
use lib.ListN.{length}
use Rattle.query.proofs.Gathering.{Gathering}
use Rattle.query.proofs.pieces.next_alternative.Given as goal

abbrev pub invariant-loop-i : goal.invariant-loop-i
invariant-loop-i l = Gathering l.s l.at l.out l.i l.n l.split × (length l.out ≡ length l.initial.out)

abbrev pub decreases-loop-i : goal.decreases-loop-i
decreases-loop-i l = length l.s - l.i
