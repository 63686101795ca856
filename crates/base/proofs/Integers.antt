-- Laws of integers: their size, and their order.
-- Assumes nothing.
use Prim.Native.Nat.{ℕ, zero, suc, ◌+◌, ◌-◌, ◌≤◌, ◌<◌}
use mathlib.Core.Bool.{Bool, true, false, not}
use mathlib.Core.Path.{◌≡◌, refl, sym, subst}
use mathlib.Core.Logic.{◌↔◌, ⊎_elim}
use native.Mathlib.Nat.{le_of_lt}
use native.Mathlib.Omega.{arith}
use lib.Dec.{T, ltb, le→leb, ltb→lt}
use lib.IntN.{ℤ, pos, negsuc, neg_ℤ, nat_abs, sub_ℕ, ◌+ℤ◌, ◌-ℤ◌}
use lib.Signed.{lt_z, le_z, mag, ◌≤ℤ◌, ◌<ℤ◌, lt_z_no, <ℤ-≤ℤ_trans, clash_ℤ}
use borrow.Author.Tests.{ltb-true, ltb-false, lt-ltb}
use Rattle.base.proofs.Tests.{cond-elim, decided}

-- ---- size: an i64 holds z where `mag z`, which is n for n and for -(n + 1), is below 2^63

pub nat_abs_neg : (x : ℤ) → nat_abs (neg_ℤ x) ≡ nat_abs x
nat_abs_neg (pos zero) = refl
nat_abs_neg (pos (suc n)) = refl
nat_abs_neg (negsuc n) = refl

pub mag_nat_abs : (x : ℤ) {k : ℕ} → nat_abs x < k → mag x < k
mag_nat_abs (pos n) p = p
mag_nat_abs (negsuc n) p = omega arith

mag_sub : (a b : ℕ) {h k : ℕ} → a < h → b ≤ k → mag (sub_ℕ a b) < h + k
mag_sub a b {h} {k} p q =
    cond-elim (λ (x : ℤ). mag x < h + k) (ltb a b) (λ e. omega (arith, ltb-true a b e)) (λ e. omega arith)

mag_add : (x y : ℤ) {h k : ℕ} → mag x < h → mag y < k → mag (x +ℤ y) < h + k
mag_add (pos a) (pos b) p q = omega arith
mag_add (pos a) (negsuc b) p q = mag_sub a (suc b) p q
mag_add (negsuc a) (pos b) {h} {k} p q = omega (arith, mag_sub b (suc a) q p)
mag_add (negsuc a) (negsuc b) p q = omega arith

-- a difference
pub mag_less : (x y : ℤ) {h k : ℕ} → mag x < h → nat_abs y < k → mag (x -ℤ y) < h + k
mag_less x y p q = mag_add x (neg_ℤ y) p (mag_nat_abs (neg_ℤ y) (rw (nat_abs_neg y) q))

-- ---- order

passed : (t : Bool) → T t → t ≡ true
passed true h = refl
passed false h = absurd h

-- the tests of order are the order
module _ (a b : ℤ) where
  pub le_z_iff : (le_z a b ≡ true) ↔ (a ≤ℤ b)
  le_z_iff = ((λ h. record { le = subst T (sym h) tt }), (λ h. passed (le_z a b) h.le))

  pub lt_z_iff : (lt_z a b ≡ true) ↔ (a <ℤ b)
  lt_z_iff = ((λ h. record { lt = subst T (sym h) tt }), (λ h. passed (lt_z a b) h.lt))

  pub lt_z_false : lt_z a b ≡ false → b ≤ℤ a
  lt_z_false h = lt_z_no (subst (λ (t : Bool). T (not t)) (sym h) tt)

lt-le : (a b : ℤ) → T (lt_z a b) → T (le_z a b)
lt-le (pos a) (pos b) h = le→leb a b (le_of_lt (ltb→lt a b h))
lt-le (pos a) (negsuc b) h = h
lt-le (negsuc a) (pos b) h = tt
lt-le (negsuc a) (negsuc b) h = le→leb b a (le_of_lt (ltb→lt b a h))

pub <ℤ-≤ℤ : {a b : ℤ} → a <ℤ b → a ≤ℤ b
<ℤ-≤ℤ {a} {b} h = record { le = lt-le a b h.lt }

pub ≤ℤ-trans : {a b c : ℤ} → a ≤ℤ b → b ≤ℤ c → a ≤ℤ c
≤ℤ-trans {a} {b} {c} h k =
    ⊎_elim (λ e. clash_ℤ (<ℤ-≤ℤ_trans ((lt_z_iff c a).0 e) h) k) (λ e. lt_z_false c a e) (decided (lt_z c a))

-- two numbers keep their order when the same integer is added to both
module _ (a b c : ℕ) (h : a < b) where
  low_order : ltb a (suc c) ≡ true → lt_z (negsuc (suc c - suc a)) (sub_ℕ b (suc c)) ≡ true
  low_order p =
      cond-elim (λ (y : ℤ). lt_z (negsuc (suc c - suc a)) y ≡ true) (ltb b (suc c))
      (λ q. lt-ltb (suc c - suc b) (suc c - suc a) (omega (arith, ltb-true b (suc c) q)))
      (λ q. refl)

  high_order : ltb a (suc c) ≡ false → lt_z (pos (a - suc c)) (sub_ℕ b (suc c)) ≡ true
  high_order p =
      cond-elim (λ (y : ℤ). lt_z (pos (a - suc c)) y ≡ true) (ltb b (suc c))
      (λ q. let z : ⊥ = omega (arith, ltb-false a (suc c) p, ltb-true b (suc c) q) in absurd z)
      (λ q. lt-ltb (a - suc c) (b - suc c) (omega (arith, ltb-false a (suc c) p)))

pub lt_z_add : (a b : ℕ) (k : ℤ) → a < b → lt_z (pos a +ℤ k) (pos b +ℤ k) ≡ true
lt_z_add a b (pos c) h = lt-ltb (a + c) (b + c) (omega arith)
lt_z_add a b (negsuc c) h =
    cond-elim (λ (x : ℤ). lt_z x (sub_ℕ b (suc c)) ≡ true) (ltb a (suc c)) (low_order a b c h) (high_order a b c h)
