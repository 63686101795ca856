-- Laws of the numbers that digits write.
-- Assumes nothing.
use mathlib.Core.Path.{◌≡◌, refl, sym, ◌∙◌}
use Prim.Native.Nat.{ℕ, suc, ◌+◌, ◌*◌, ◌-◌, ◌^◌, ◌≤◌, ◌<◌}
use native.Mathlib.Nat.{zero-add, add-zero, add-suc, pow-succ', pow-le-pow_right}
use native.Mathlib.Numerals.{add-one}
use native.Mathlib.Omega.{arith}
use mathlib.Core.Bool.{true, ◌&&◌}
use mathlib.Core.List.{List, [], ◌∷◌, ◌++◌}
use lib.Dec.{lit<}
use lib.ListN.{length, get_or, drop, drop_of_length-le}
use lib.Seq.{drop-cons}
use Rattle.base.specs.Digits.{is_digit}
use Rattle.base.specs.Lists.{every}
use Rattle.base.proofs.Tests.{and_left, and_right}
use Rattle.base.proofs.Digits.{digit_low, digit_high}
use Rattle.number.specs.Reading.{DigitText, value_from}

-- ---- the number that digits write

pub value-append : (before : ℕ) (w f : List ℕ) → value_from before (w ++ f) ≡ value_from (value_from before w) f
unfolding value_from
value-append before [] f = refl
value-append before (x ∷ w) f = value-append (before * 10 + (x - 48)) w f

pub value_bound : (s : List ℕ) (before k : ℕ) → before < 10 ^ k → every is_digit s ≡ true → value_from before s < 10 ^ (k + length s)
unfolding value_from every
value_bound [] before k h d = rw add-zero h
value_bound (x ∷ xs) before k h d =
    let high : x ≤ 57 = digit_high x (and_left (is_digit x) (every is_digit xs) d) in
    let p : 10 ^ suc k ≡ 10 * 10 ^ k = pow-succ' 10 k in
    let next : before * 10 + (x - 48) < 10 ^ suc k = rw p (omega arith) in
    let e : suc k + length xs ≡ k + suc (length xs) = omega arith in
    rw e at (value_bound xs (before * 10 + (x - 48)) (suc k) next (and_right (is_digit x) (every is_digit xs) d))

pub value_short : (s : List ℕ) → every is_digit s ≡ true → length s ≤ 8 → value_from 0 s < 10 ^ 8
value_short s d h =
    let few : 0 + length s ≤ 8 = rw zero-add h in
    let most : 10 ^ (0 + length s) ≤ 10 ^ 8 = pow-le-pow_right (lit< tt) few in
    omega (arith, value_bound s 0 0 (lit< tt) d)

-- the loop of `value_from` before its turn i
pub record Accumulated (before : ℕ) (s : List ℕ) (value i : ℕ) : Type 0 where
  pub within : i ≤ length s
  pub short : length s ≤ 9
  pub digits : every is_digit (drop i s) ≡ true
  pub room : value < 10 ^ (8 + i)
  pub left : value_from before s ≡ value_from value (drop i s)

pub value-starts : (before : ℕ) (s : List ℕ) → before < 10 ^ 8 → DigitText s → Accumulated before s before 0
value-starts before s h t = record { within = omega arith; short = t.short; digits = t.digits; room = h; left = refl }

room_for_digit : (before : ℕ) (s : List ℕ) (value i : ℕ) → Accumulated before s value i → i < length s → value * 10 + 9 < 2 ^ 64
room_for_digit before s value i a h =
    let few : 8 + i ≤ 16 = omega (arith, a.short) in
    let p : 10 ^ (8 + i) ≤ 10 ^ 16 = pow-le-pow_right (lit< tt) few in
    omega (arith, a.room)

pub value_times_ten : (before : ℕ) (s : List ℕ) (value i : ℕ) → Accumulated before s value i → i < length s → value * 10 < 2 ^ 64
value_times_ten before s value i a h = omega (arith, room_for_digit before s value i a h)

module _ (before : ℕ) (s : List ℕ) (value i w : ℕ) (a : Accumulated before s value i) (h : i < length s) (e : w ≡ get_or s i 0) where
  digits-next : (is_digit w && every is_digit (drop (i + 1) s)) ≡ true
  unfolding every
  digits-next = rw (e, add-one) (rw (drop-cons s i 0) at a.digits)

  pub value-digit_low : 48 ≤ w
  value-digit_low = digit_low w (and_left (is_digit w) (every is_digit (drop (i + 1) s)) digits-next)

  value-digit_high : w ≤ 57
  value-digit_high = digit_high w (and_left (is_digit w) (every is_digit (drop (i + 1) s)) digits-next)

  module _ (d : ℕ) (is : d ≡ w - 48) where
    pub value_room : value * 10 + d < 2 ^ 64
    value_room = omega (arith, room_for_digit before s value i a h, value-digit_high)

    pub value-next : Accumulated before s (value * 10 + d) (i + 1)
    unfolding value_from
    value-next =
        let p : 10 ^ (8 + (i + 1)) ≡ 10 * 10 ^ (8 + i) = rw (add-one, add-suc) (pow-succ' 10 (8 + i)) in
        record {
          within = omega arith;
          short = a.short;
          digits = and_right (is_digit w) (every is_digit (drop (i + 1) s)) digits-next;
          room = rw p (omega (arith, a.room, value-digit_high));
          left = a.left ∙ rw (is, e, add-one, drop-cons s i 0);
        }

pub value-ends : (before : ℕ) (s : List ℕ) (value i : ℕ) → Accumulated before s value i → length s ≤ i → value ≡ value_from before s
unfolding value_from
value-ends before s value i a h = sym (a.left ∙ rw (drop_of_length-le s h))
