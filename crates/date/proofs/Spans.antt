-- Laws of spans: the signed arithmetic of instants, their size and their order.
-- Assumes nothing.
use Prim.Native.Nat.{ℕ, suc, ◌+◌, ◌*◌, ◌^◌, ◌<◌}
use mathlib.Core.Bool.{true}
use mathlib.Core.Path.{◌≡◌, refl, sym, ap, ◌∙◌}
use native.Mathlib.Omega.{arith}
use lib.Dec.{lit<}
use lib.IntN.{ℤ, pos, negsuc, neg_ℤ, nat_abs, ◌+ℤ◌, ◌-ℤ◌, ◌*ℤ◌, +ℤ_assoc}
use lib.Signed.{lt_z, mag}
use mir.Syntax.{w64}
use mir.Val.{SFits, to_z, of_z}
use mir.ValLaws.{to_z-of_z, to_z_pos}
use Rattle.base.proofs.Integers.{nat_abs_neg, mag_nat_abs, mag_less, lt_z_add}
use Rattle.date.specs.Calendar.{leap_year, year_length, month_length, days_before_month, days_of_years, day_number}
use Rattle.date.specs.Fields.{ValidOffset}
use Rattle.date.specs.Spans.{epoch, instant, date_of, second_from}
use Rattle.date.specs.declared.Date.{Date}

-- ---- zone offsets

-- an offset of at most 14:00 either way is read back from the bits of an i64
pub offset_back : (z : ℤ) → ValidOffset z → to_z w64 (of_z w64 z) ≡ z
offset_back z q = to_z-of_z w64 z (record { sfits = omega (arith, mag_nat_abs z {k = 841} (omega arith)) })

-- in seconds
offset_seconds : (z : ℤ) → ValidOffset z → nat_abs (z *ℤ pos 60) < 50401
offset_seconds (pos a) q = omega arith
offset_seconds (negsuc a) q = rw (nat_abs_neg (pos (suc a * 60))) (omega arith)

-- ---- instants

epoch_is : epoch ≡ 62135596800
unfolding epoch day_number days_of_years year_length days_before_month month_length leap_year
epoch_is = refl

-- the instant with the epoch's number
instant-epoch : (n : ℕ) (z : ℤ) → pos n -ℤ pos 62135596800 -ℤ z *ℤ pos 60 ≡ instant n z
unfolding instant
instant-epoch n z = ap (λ (e : ℕ). pos n -ℤ pos e -ℤ z *ℤ pos 60) (sym epoch_is)

module _ (n : ℕ) (z : ℤ) (p : n < 2 ^ 40) (q : ValidOffset z) where
  since_mag : mag (pos n -ℤ pos 62135596800) < 2 ^ 40 + 2 ^ 40
  since_mag = mag_less (pos n) (pos 62135596800) {k = 2 ^ 40} p (lit< tt)

  exact_mag : mag (pos n -ℤ pos 62135596800 -ℤ z *ℤ pos 60) < 2 ^ 42
  exact_mag = omega (arith, mag_less (pos n -ℤ pos 62135596800) (z *ℤ pos 60) since_mag (offset_seconds z q))

  pub instant_mag : mag (instant n z) < 2 ^ 42
  instant_mag = rw (← instant-epoch n z) exact_mag

  -- each operation of the code fits, and is read back from its bits
  pub since_fits : SFits w64 (to_z w64 n -ℤ pos 62135596800)
  since_fits = rw (to_z_pos w64 n (omega arith)) (record { sfits = omega (arith, since_mag) })

  since_back : to_z w64 (of_z w64 (to_z w64 n -ℤ pos 62135596800)) ≡ pos n -ℤ pos 62135596800
  since_back = to_z-of_z w64 _ since_fits ∙ ap (λ (x : ℤ). x -ℤ pos 62135596800) (to_z_pos w64 n (omega arith))

  pub seconds_fits : SFits w64 (to_z w64 (of_z w64 z) *ℤ pos 60)
  seconds_fits =
      rw (offset_back z q) (record { sfits = omega (arith, mag_nat_abs (z *ℤ pos 60) (offset_seconds z q)) })

  seconds_back : to_z w64 (of_z w64 (to_z w64 (of_z w64 z) *ℤ pos 60)) ≡ z *ℤ pos 60
  seconds_back = to_z-of_z w64 _ seconds_fits ∙ ap (λ (x : ℤ). x *ℤ pos 60) (offset_back z q)

  difference_back : to_z w64 (of_z w64 (to_z w64 n -ℤ pos 62135596800)) -ℤ to_z w64 (of_z w64 (to_z w64 (of_z w64 z) *ℤ pos 60)) ≡ pos n -ℤ pos 62135596800 -ℤ z *ℤ pos 60
  difference_back = rw (since_back, seconds_back)

  pub instant-fits : SFits w64 (to_z w64 (of_z w64 (to_z w64 n -ℤ pos 62135596800)) -ℤ to_z w64 (of_z w64 (to_z w64 (of_z w64 z) *ℤ pos 60)))
  instant-fits = rw difference_back (record { sfits = omega (arith, exact_mag) })

  pub instant_is : to_z w64 (of_z w64 (to_z w64 (of_z w64 (to_z w64 n -ℤ pos 62135596800)) -ℤ to_z w64 (of_z w64 (to_z w64 (of_z w64 z) *ℤ pos 60)))) ≡ instant n z
  instant_is = to_z-of_z w64 _ instant-fits ∙ difference_back ∙ instant-epoch n z

-- two instants at one offset are in the order of their local seconds
pub instant_order : (a b : ℕ) (z : ℤ) → a < b → lt_z (instant a z) (instant b z) ≡ true
unfolding instant
instant_order a b z h =
    rw (+ℤ_assoc (pos a) (neg_ℤ (pos epoch)) (neg_ℤ (z *ℤ pos 60)), +ℤ_assoc (pos b) (neg_ℤ (pos epoch)) (neg_ℤ (z *ℤ pos 60)))
    (lt_z_add a b (neg_ℤ (pos epoch) +ℤ neg_ℤ (z *ℤ pos 60)) h)

-- ---- dates, as the code stores them

-- a date whose signed numbers are read back from their bits
abbrev stored : ℤ → ℤ → Date
stored from to = record { start = to_z w64 (of_z w64 from); end = to_z w64 (of_z w64 to) }

pub date_of_is : (from to : ℕ) {x y z : ℤ} → x ≡ instant from (to_z w64 (of_z w64 z)) → y ≡ instant to (to_z w64 (of_z w64 z)) → SFits w64 x → SFits w64 y → SFits w64 z → stored x y ≡ date_of from to z
unfolding date_of
date_of_is from to {x} {y} {z} e f a b c =
    rw (to_z-of_z w64 x a, to_z-of_z w64 y b, e, f, to_z-of_z w64 z c)

pub second-from_is : (day second : ℕ) {x : Date} {z : ℤ} → x ≡ date_of (day * 86400 + second) (day * 86400 + second + 1) (to_z w64 (of_z w64 z)) → SFits w64 z → x ≡ second_from day second z
unfolding second_from
second-from_is day second {z = z} e a = rw (← to_z-of_z w64 z a) e
