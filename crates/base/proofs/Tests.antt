-- Laws of Boolean tests.
-- Assumes nothing.
use Prim.Native.Nat.{ℕ}
use mathlib.Core.Path.{◌≡◌, refl, sym, ap, ◌∙◌}
use mathlib.Core.Bool.{Bool, true, false, ◌&&◌, ◌||◌, cond, or-true, true≢false, false≢true}
use mathlib.Core.Logic.{◌⊎◌, inl, inr}
use lib.Dec.{eqb}
use borrow.Author.Tests.{ne_eqb}

-- ---- conjunction

pub and_left : (a b : Bool) → (a && b) ≡ true → a ≡ true
and_left true b h = refl
and_left false b h = h

pub and_right : (a b : Bool) → (a && b) ≡ true → b ≡ true
and_right true b h = h
and_right false b h = absurd (false≢true h)

pub and_both : (a b : Bool) → a ≡ true → b ≡ true → (a && b) ≡ true
and_both a b p q = rw (p, q)

pub and_true : (b : Bool) → (b && true) ≡ b
and_true true = refl
and_true false = refl

pub and_false : (b : Bool) → (b && false) ≡ false
and_false true = refl
and_false false = refl

pub and_holds : (a b r : Bool) → a ≡ true → r ≡ b → r ≡ (a && b)
and_holds a b r h e = rw h e

pub and_fails : (a b : Bool) → a ≡ false → false ≡ (a && b)
and_fails a b h = rw h

-- ---- disjunction

pub or_either : (a b : Bool) → (a || b) ≡ true → (a ≡ true) ⊎ (b ≡ true)
or_either true b h = inl refl
or_either false b h = inr h

pub or_left : (a b : Bool) → a ≡ true → (a || b) ≡ true
or_left a b p = rw p

pub or_right : (a b : Bool) → b ≡ true → (a || b) ≡ true
or_right a b p = rw p (or-true a)

-- ---- equal tests

-- a test is true or false
pub decided : (a : Bool) → (a ≡ true) ⊎ (a ≡ false)
decided true = inl refl
decided false = inr refl

-- no test is both
pub both_ways : {X : Type 0} {a : Bool} → a ≡ true → a ≡ false → X
both_ways {X} {a} p q = let z : ◌≡◌ {A = Bool} true false = cc in absurd (true≢false z)

-- two tests that imply each other are equal
pub same_test : (a b : Bool) → (a ≡ true → b ≡ true) → (b ≡ true → a ≡ true) → a ≡ b
same_test true b f g = sym (f refl)
same_test false true f g = g refl
same_test false false f g = refl

-- two numbers that a test tells apart are not equal
pub apart : (test : ℕ → Bool) (x y : ℕ) → test x ≡ true → test y ≡ false → eqb x y ≡ false
apart test x y p q = ne_eqb x y (λ e. both_ways p (ap test e ∙ q))

-- ---- choices

-- what holds of both sides of a choice, each where its test sends there, holds of the choice
pub cond-elim {ℓ} : {A : Type ℓ} (P : A → Type 0) (t : Bool) {x y : A} → (t ≡ true → P x) → (t ≡ false → P y) → P (cond t x y)
cond-elim P true f g = f refl
cond-elim P false f g = g refl

-- a choice came by one of its two ways
pub cond_either {ℓ} : {A : Type ℓ} (t : Bool) (x y : A) {v : A} → cond t x y ≡ v → ((t ≡ true) × (x ≡ v)) ⊎ ((t ≡ false) × (y ≡ v))
cond_either true x y e = inl (refl, e)
cond_either false x y e = inr (refl, e)

-- by the first, where the second is something else
pub cond-first {ℓ} : {A : Type ℓ} (t : Bool) (x y : A) {v : A} → (y ≡ v → ⊥) → cond t x y ≡ v → (t ≡ true) × (x ≡ v)
cond-first true x y other e = (refl, e)
cond-first false x y other e = absurd (other e)

-- ---- calls in code: p and q are what the calls answered

pub answered : {a p : Bool} → p ≡ a → p ≡ true → a ≡ true
answered e h = sym e ∙ h

pub and_on : {a b p q : Bool} → p ≡ a → p ≡ true → q ≡ b → q ≡ (a && b)
and_on e h f = rw (← e, h) f

pub and_off : {a p : Bool} (b : Bool) → p ≡ a → p ≡ false → p ≡ (a && b)
and_off b e h = rw (← e, h)

pub or_on : {a p : Bool} (b : Bool) → p ≡ a → p ≡ true → p ≡ (a || b)
or_on b e h = rw (← e, h)

pub or_off : {a b p q : Bool} → p ≡ a → p ≡ false → q ≡ b → q ≡ (a || b)
or_off e h f = rw (← e, h) f
