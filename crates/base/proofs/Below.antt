-- Laws of tests at every number below a bound: a rule over a few numbers is computed once and looked up at each.
-- Assumes nothing.
use Prim.Native.Nat.{ℕ, zero, suc, ◌<◌}
use mathlib.Core.Bool.{Bool, true}
use mathlib.Core.Path.{◌≡◌, subst, sym}
use native.Mathlib.Decide.{ℕ_discrete}
use native.Mathlib.Omega.{arith}
use lib.Dec.{eqb}
use borrow.Author.Tests.{eqb-true}
use Rattle.base.specs.Below.{passes}
use Rattle.base.proofs.Tests.{and_left, and_right}

passes_last : (p : ℕ → Bool) {n k : ℕ} → Dec (k ≡ n) → k < suc n → p n ≡ true → (k < n → p k ≡ true) → p k ≡ true
passes_last p (yes e) h last below = subst (λ (j : ℕ). p j ≡ true) (sym e) last
passes_last p (no e) h last below = below (omega arith)

pub passes_at : (p : ℕ → Bool) (n : ℕ) → passes p n ≡ true → (k : ℕ) → k < n → p k ≡ true
passes_at p zero t k h = let z : ⊥ = omega arith in absurd z
passes_at p (suc n) t k h =
    passes_last p (ℕ_discrete k n) h (and_left (p n) (passes p n) t)
    (λ (g : k < n). passes_at p n (and_right (p n) (passes p n) t) k g)

-- two functions that agree at every number below n
pub passes_same : (f g : ℕ → ℕ) (n : ℕ) → passes (λ (k : ℕ). eqb (f k) (g k)) n ≡ true → (k : ℕ) → k < n → f k ≡ g k
passes_same f g n t k h = eqb-true (f k) (g k) (passes_at (λ (j : ℕ). eqb (f j) (g j)) n t k h)
