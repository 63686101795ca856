-- Laws of the test that a number lies between two bounds. Assumes nothing.
use Prim.Native.Nat.{ℕ, ◌≤◌}
use mathlib.Core.Path.{◌≡◌}
use mathlib.Core.Bool.{true}
use lib.Dec.{leb}
use borrow.Author.Tests.{le-leb, leb-true}
use Rattle.base.specs.Between.{between}
use Rattle.base.proofs.Tests.{and_left, and_right, and_both}

pub between_low : (low high n : ℕ) → between low high n ≡ true → low ≤ n
unfolding between
between_low low high n h = leb-true low n (and_left (leb low n) (leb n high) h)

pub between_high : (low high n : ℕ) → between low high n ≡ true → n ≤ high
unfolding between
between_high low high n h = leb-true n high (and_right (leb low n) (leb n high) h)

pub between-passes : {low high n : ℕ} → low ≤ n → n ≤ high → between low high n ≡ true
unfolding between
between-passes {low} {high} {n} p q = and_both (leb low n) (leb n high) (le-leb low n p) (le-leb n high q)
