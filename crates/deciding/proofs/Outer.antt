-- The outer tests of an expression: how many they are, and their verdicts.
-- Assumes nothing.
use Prim.Native.Nat.{ℕ, ◌≤◌, ◌<◌}
use native.Mathlib.Omega.{arith}
use mathlib.Core.Path.{◌≡◌, refl}
use mathlib.Core.List.{List}
use lib.ListN.{length, length-append}
use Rattle.card.specs.Card.{Entry}
use Rattle.rows.specs.Expression.{Expression, probing, choosing, joining, negating, test_count}
use Rattle.rows.specs.Stated.{tree_of}
use Rattle.deciding.specs.Deciding.{outer_count}
use Rattle.deciding.specs.Rows.{outline, outer_verdicts}

pub outer_tests_lem : (e : Expression) → (0 < outer_count (outline e)) × (outer_count (outline e) ≤ test_count e)
unfolding tree_of outer_count test_count
outer_tests_lem (probing p) = (omega arith, omega arith)
outer_tests_lem (choosing e p) = (omega arith, omega arith)
outer_tests_lem (joining c e f) = let a = outer_tests_lem e in let b = outer_tests_lem f in (omega (arith, a.0), omega (arith, a.1, b.1))
outer_tests_lem (negating e) = outer_tests_lem e

pub verdicts-size : (kinds xs : List ℕ) (es : List Entry) (e : Expression) → length (outer_verdicts kinds xs es e) ≡ outer_count (outline e)
unfolding outer_verdicts outer_count tree_of
verdicts-size kinds xs es (probing p) = refl
verdicts-size kinds xs es (choosing e p) = refl
verdicts-size kinds xs es (joining k e f) = omega (arith, length-append (outer_verdicts kinds xs es e) (outer_verdicts kinds xs es f), verdicts-size kinds xs es e, verdicts-size kinds xs es f)
verdicts-size kinds xs es (negating e) = verdicts-size kinds xs es e
