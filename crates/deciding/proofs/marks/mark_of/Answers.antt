-- `deciding::marks::mark_of` meets its contract: the rows are few. Assumes nothing.
use Prim.Native.Nat.{ℕ}
use native.Mathlib.Omega.{arith}
use mathlib.Core.Path.{ap}
use mathlib.Core.List.{List}
use lib.ListN.{length}
use Rattle.deciding.proofs.marks.mark_of.Goals as goal

pub mark_from-whole-requires : goal.mark_from-whole-requires
mark_from-whole-requires c = omega (arith, c.rows.invariant.1, ap (λ (n : List ℕ). length n) c.rows.view_is)
