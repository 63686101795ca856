-- Laws of reading: each way through the code gives what the definition says.
-- One law for each way through the code, over plain variables: it takes the facts that the code has found there (a digit or none, a length,
-- a mark) and rewrites the definition by them; there is no induction. Beside these laws stand the bounds that machine words ask for: two
-- digits read to at most 100 (`two_most`), and an offset that was read is at most 840 minutes either way (`zone_within`, by the cases of
-- the reading).
-- Assumes nothing.
use Rattle.std.specs.Prelude.{Option, Some, None}
use Prim.Native.Nat.{ℕ, ◌+◌, ◌*◌, ◌-◌, ◌≤◌, ◌<◌}
use mathlib.Core.Bool.{Bool, true, false}
use mathlib.Core.Path.{◌≡◌, refl, sym, ap, ◌∙◌}
use mathlib.Core.List.{List}
use native.Mathlib.Nat.{le_refl, le_trans, le_of_lt, mul-le-mul, mul-le-mul_right, suc-mul}
use native.Mathlib.Omega.{arith}
use lib.Dec.{eqb, ltb, lit<, lit≤}
use lib.ListN.{length, get_or}
use lib.IntN.{ℤ, pos, neg_ℤ, ◌-ℤ◌, +ℤ_idl}
use mir.Syntax.{w64}
use mir.Val.{Fits, SFits, to_z, of_z}
use mir.ValLaws.{to_z-of_z, to_z_pos}
use borrow.Author.Tests.{eq-eqb, ne_eqb, lt-ltb, le-ltb, le-leb, lt-leb, ltb-true}
use Rattle.base.specs.Digits.{is_digit}
use Rattle.base.proofs.Integers.{mag_less}
use Rattle.base.proofs.Tests.{cond-elim}
use Rattle.date.specs.Calendar.{leap_year, year_length, month_length, day_number}
use Rattle.date.specs.Fields.{valid_year, valid_month, valid_day, valid_time, valid_zone}
use Rattle.date.specs.Spans.{days_from, second_of_day, second_from, year_date, month_date, day_date, second_date}
use Rattle.date.specs.Marks.{hyphen, colon, plus, letter_t, letter_z}
use Rattle.date.specs.Texts.{digit_of, pair, two_at, four_at, field_at, signed, zone_at, read_year, read_month, read_day, read_local, zoned, read}
use Rattle.date.specs.declared.Date.{Date}

-- ---- digits

module _ (b : ℕ) {p : Bool} (e : p ≡ is_digit b) where
  module _ {n : ℕ} (h : p ≡ true) (f : n ≡ b) where
    pub digit_value : n - 48 ≡ digit_of b
    unfolding digit_of
    digit_value = rw (← e, h, f)

  pub digit_missing : p ≡ false → 10 ≡ digit_of b
  unfolding digit_of
  digit_missing h = rw (← e, h)

-- ---- pairs

product_bound : {radix a : ℕ} → radix ≤ 100 → a ≤ radix → a * radix ≤ 10000
product_bound h p = le_trans (mul-le-mul (le_trans p h) h) (lit≤ tt)

pub product_fits : (radix a : ℕ) → radix ≤ 100 → a ≤ radix → Fits w64 (a * radix)
product_fits radix a h p = record { fits = omega (arith, product_bound h p) }

pub value-fits : (radix a b : ℕ) → radix ≤ 100 → a < radix → b < radix → Fits w64 (a * radix + b)
value-fits radix a b h p q = record { fits = omega (arith, product_bound h (le_of_lt p)) }

module _ (radix a b : ℕ) where
  pub pair-first : radix ≤ a → radix * radix ≡ pair radix a b
  unfolding pair
  pair-first h = rw (le-ltb a radix h)

  module _ (h : a < radix) where
    pub pair_last : radix ≤ b → radix * radix ≡ pair radix a b
    unfolding pair
    pair_last k = rw (lt-ltb a radix h, le-ltb b radix k)

    pub pair-value : b < radix → a * radix + b ≡ pair radix a b
    unfolding pair
    pair-value k = rw (lt-ltb a radix h, lt-ltb b radix k)

module _ (s : List ℕ) (at : ℕ) {a b n : ℕ} where
  pub two_is : a ≡ digit_of (get_or s at 0) → b ≡ digit_of (get_or s (at + 1) 0) → n ≡ pair 10 a b → n ≡ two_at s at
  unfolding two_at
  two_is e f g = rw (← e, ← f) g

  pub four_is : a ≡ two_at s at → b ≡ two_at s (at + 2) → n ≡ pair 100 a b → n ≡ four_at s at
  unfolding four_at
  four_is e f g = rw (← e, ← f) g

value_most : {radix a b : ℕ} → a < radix → b < radix → a * radix + b ≤ radix * radix
value_most {radix} {a} {b} p q = omega (arith, mul-le-mul_right radix p, suc-mul a radix)

pair_most : (radix a b : ℕ) → pair radix a b ≤ radix * radix
unfolding pair
pair_most radix a b =
    cond-elim (λ (n : ℕ). n ≤ radix * radix) (ltb a radix)
    (λ e. cond-elim (λ (n : ℕ). n ≤ radix * radix) (ltb b radix) (λ f. value_most (ltb-true a radix e) (ltb-true b radix f)) (λ f. le_refl (radix * radix)))
    (λ e. le_refl (radix * radix))

pub two_most : (s : List ℕ) (at : ℕ) {n : ℕ} → n ≡ two_at s at → n ≤ 100
unfolding two_at
two_most s at e = rw e (pair_most 10 (digit_of (get_or s at 0)) (digit_of (get_or s (at + 1) 0)))

-- ---- a field

module _ (s : List ℕ) (at mark : ℕ) where
  pub field_digits : {n : ℕ} → get_or s at 0 ≡ mark → n ≡ two_at s (at + 1) → n ≡ field_at s at mark
  unfolding field_at
  field_digits h e = rw (eq-eqb (get_or s at 0) mark h) e

  pub field_mark : (get_or s at 0 ≡ mark → ⊥) → 100 ≡ field_at s at mark
  unfolding field_at
  field_mark h = rw (ne_eqb (get_or s at 0) mark h)

pub field_most : (s : List ℕ) (at mark : ℕ) {n : ℕ} → n ≡ field_at s at mark → n ≤ 100
unfolding field_at
field_most s at mark e =
    rw e
    (cond-elim (λ (n : ℕ). n ≤ 100) (eqb (get_or s at 0) mark) (λ f. two_most s (at + 1) refl) (λ f. le_refl 100))

-- ---- the zone

module _ (sign h m : ℕ) where
  pub signed_minute : 59 < m → None ≡ signed sign h m
  unfolding signed valid_zone
  signed_minute p = rw (lt-leb m 59 p)

  module _ (p : m ≤ 59) where
    pub signed_most : 840 < h * 60 + m → None ≡ signed sign h m
    unfolding signed valid_zone
    signed_most q = rw (le-leb m 59 p, lt-leb (h * 60 + m) 840 q)

    module _ (q : h * 60 + m ≤ 840) where
      minutes_read : to_z w64 (h * 60 + m) ≡ pos (h * 60 + m)
      minutes_read = to_z_pos w64 (h * 60 + m) (omega arith)

      pub west_fits : SFits w64 (pos 0 -ℤ to_z w64 (h * 60 + m))
      west_fits = rw minutes_read (record { sfits = omega (arith, mag_less (pos 0) (pos (h * 60 + m)) {h = 1} {k = 841} (lit< tt) (omega arith)) })

      pub signed_east : sign ≡ plus → Some (to_z w64 (h * 60 + m)) ≡ signed sign h m
      unfolding signed valid_zone
      signed_east e = rw (le-leb m 59 p, le-leb (h * 60 + m) 840 q, eq-eqb sign plus e, minutes_read)

      module _ (e : sign ≡ plus → ⊥) where
        pub signed_west : sign ≡ hyphen → Some (to_z w64 (of_z w64 (pos 0 -ℤ to_z w64 (h * 60 + m)))) ≡ signed sign h m
        unfolding signed valid_zone
        signed_west f =
            let back : to_z w64 (of_z w64 (pos 0 -ℤ to_z w64 (h * 60 + m))) ≡ neg_ℤ (pos (h * 60 + m)) =
            to_z-of_z w64 _ west_fits ∙ ap (λ (x : ℤ). pos 0 -ℤ x) minutes_read ∙ +ℤ_idl (neg_ℤ (pos (h * 60 + m))) in
            rw (le-leb m 59 p, le-leb (h * 60 + m) 840 q, ne_eqb sign plus e, eq-eqb sign hyphen f) (ap Some back)

        pub signed_neither : (sign ≡ hyphen → ⊥) → None ≡ signed sign h m
        unfolding signed valid_zone
        signed_neither f =
            rw (le-leb m 59 p, le-leb (h * 60 + m) 840 q, ne_eqb sign plus e, ne_eqb sign hyphen f)

module _ (s : List ℕ) (at : ℕ) where
  module _ (h : length s ≡ at + 1) where
    pub zone_utc : get_or s at 0 ≡ letter_z → Some (pos 0) ≡ zone_at s at
    unfolding zone_at
    zone_utc e = rw (eq-eqb _ _ h, eq-eqb _ _ e)

    pub zone_letter : (get_or s at 0 ≡ letter_z → ⊥) → None ≡ zone_at s at
    unfolding zone_at
    zone_letter e = rw (eq-eqb _ _ h, ne_eqb _ _ e)

  module _ (h : length s ≡ at + 1 → ⊥) where
    pub zone_signed : {a b : ℕ} {z : Option ℤ} → length s ≡ at + 6 → a ≡ two_at s (at + 1) → b ≡ field_at s (at + 3) colon → z ≡ signed (get_or s at 0) a b → z ≡ zone_at s at
    unfolding zone_at
    zone_signed k e f g = rw (ne_eqb _ _ h, eq-eqb _ _ k, ← e, ← f) g

    pub zone_length : (length s ≡ at + 6 → ⊥) → None ≡ zone_at s at
    unfolding zone_at
    zone_length k = rw (ne_eqb _ _ h, ne_eqb _ _ k)

-- ---- the spellings

module _ (s : List ℕ) {y : ℕ} {p : Bool} (e : y ≡ four_at s 0) (f : p ≡ valid_year y) where
  pub year_on : {first count : ℕ} {d : Date} → p ≡ true → first ≡ day_number y 1 1 → count ≡ year_length y → d ≡ days_from first count → Some d ≡ read_year s
  unfolding read_year year_date
  year_on t a b g = rw (← e, ← f, t, ← a, ← b) (ap Some g)

  pub year_off : p ≡ false → None ≡ read_year s
  unfolding read_year
  year_off t = rw (← e, ← f, t)

module _ (s : List ℕ) {y m : ℕ} {p : Bool} (e : y ≡ four_at s 0) (i : m ≡ field_at s 4 hyphen) (f : p ≡ valid_month y m) where
  pub month_on : {first count : ℕ} {d : Date} → p ≡ true → first ≡ day_number y m 1 → count ≡ month_length (leap_year y) m → d ≡ days_from first count → Some d ≡ read_month s
  unfolding read_month month_date
  month_on t a b g = rw (← e, ← i, ← f, t, ← a, ← b) (ap Some g)

  pub month_off : p ≡ false → None ≡ read_month s
  unfolding read_month
  month_off t = rw (← e, ← i, ← f, t)

module _ (s : List ℕ) {y m d : ℕ} {p : Bool} (e : y ≡ four_at s 0) (i : m ≡ field_at s 4 hyphen) (j : d ≡ field_at s 7 hyphen) (f : p ≡ valid_day y m d) where
  pub day_on : {first : ℕ} {x : Date} → p ≡ true → first ≡ day_number y m d → x ≡ days_from first 1 → Some x ≡ read_day s
  unfolding read_day day_date
  day_on t a g = rw (← e, ← i, ← j, ← f, t, ← a) (ap Some g)

  pub day_off : p ≡ false → None ≡ read_day s
  unfolding read_day
  day_off t = rw (← e, ← i, ← j, ← f, t)

  pub local_day : (offset : ℤ) → p ≡ false → None ≡ read_local s offset
  unfolding read_local
  local_day offset t = rw (← e, ← i, ← j, ← f, t)

  module _ {hour minute second : ℕ} {q : Bool} (t : p ≡ true) (a : hour ≡ field_at s 10 letter_t) (b : minute ≡ field_at s 13 colon) (c : second ≡ field_at s 16 colon) (g : q ≡ valid_time hour minute second) where
    pub local_time : (offset : ℤ) → q ≡ false → None ≡ read_local s offset
    unfolding read_local
    local_time offset u = rw (← e, ← i, ← j, ← f, t, ← a, ← b, ← c, ← g, u)

    pub local_on : {first from : ℕ} {x : Date} (offset : ℤ) → q ≡ true → first ≡ day_number y m d → from ≡ second_of_day hour minute second → x ≡ second_from first from offset → Some x ≡ read_local s offset
    unfolding read_local second_date
    local_on offset u k l h = rw (← e, ← i, ← j, ← f, t, ← a, ← b, ← c, ← g, u, ← k, ← l) (ap Some h)

-- ---- a text

module _ (s : List ℕ) where
  pub read_year_lem : {r : Option Date} → length s ≡ 4 → r ≡ read_year s → r ≡ read s
  unfolding read
  read_year_lem h e = rw (eq-eqb _ _ h) e

  module _ (not4 : length s ≡ 4 → ⊥) where
    pub read_month_lem : {r : Option Date} → length s ≡ 7 → r ≡ read_month s → r ≡ read s
    unfolding read
    read_month_lem h e = rw (ne_eqb _ _ not4, eq-eqb _ _ h) e

    module _ (not7 : length s ≡ 7 → ⊥) where
      pub read_day_lem : {r : Option Date} → length s ≡ 10 → r ≡ read_day s → r ≡ read s
      unfolding read
      read_day_lem h e = rw (ne_eqb _ _ not4, ne_eqb _ _ not7, eq-eqb _ _ h) e

      module _ (not10 : length s ≡ 10 → ⊥) where
        pub read_short : length s < 20 → None ≡ read s
        unfolding read
        read_short h = rw (ne_eqb _ _ not4, ne_eqb _ _ not7, ne_eqb _ _ not10, lt-ltb _ _ h)

        module _ {zone : Option ℤ} (h : 20 ≤ length s) (e : zone ≡ zone_at s 19) where
          pub read_long : zoned s zone ≡ read s
          unfolding read
          read_long = rw (ne_eqb _ _ not4, ne_eqb _ _ not7, ne_eqb _ _ not10, le-ltb _ _ h, ← e)

          pub read-second : {r : Option Date} {z : ℤ} → zone ≡ Some z → r ≡ read_local s z → r ≡ read s
          unfolding zoned
          read-second f g = g ∙ ap (zoned s) (sym f) ∙ read_long

          pub read_no_zone : zone ≡ None → None ≡ read s
          unfolding zoned
          read_no_zone f = ap (zoned s) (sym f) ∙ read_long
