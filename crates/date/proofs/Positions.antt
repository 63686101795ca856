-- Numbers at a position of a text: what is written there is read, and what is read there is written.
-- Assumes nothing.
use Prim.Native.Nat.{ℕ, ◌+◌, ◌*◌, ◌/◌, ◌%◌, ◌≤◌, ◌<◌}
use mathlib.Core.Path.{◌≡◌, refl, ap, ◌∙◌}
use mathlib.Core.List.{List, ◌∷◌, ◌++◌, append_assoc}
use mathlib.Core.Logic.{⊎_elim}
use native.Mathlib.Nat.{mod-lt, div-add-mod', mul-add-div_right, mul-add-mod_self_right, div-eq_of_lt, mod-eq_of_lt, div-lt_iff_lt-mul}
use native.Mathlib.Omega.{arith}
use lib.Dec.{eqb, ltb, lit<}
use lib.ListN.{length, get_or, drop}
use borrow.Author.Tests.{eq-eqb, eqb-true, eqb-false, lt-ltb, ltb-true, ltb-false}
use Rattle.base.specs.Digits.{is_digit}
use Rattle.base.proofs.Digits.{digit_low, digit_of_lem}
use Rattle.base.proofs.Lists.{drop-next}
use Rattle.base.proofs.Tests.{decided}
use Rattle.date.specs.Texts.{digit_of, pair, two_at, four_at, field_at}
use Rattle.date.specs.Spelling.{two, four}
use Rattle.date.proofs.Texts.{digit_value, digit_missing, pair-first, pair_last, pair-value, field_digits, field_mark}

-- ---- digits: what is read is what is written

digit_reads : (n : ℕ) → n < 10 → digit_of (48 + n) ≡ n
unfolding digit_of
digit_reads n h = rw (digit_of_lem n h) (omega arith)

digit-written : (b : ℕ) → digit_of b < 10 → b ≡ 48 + digit_of b
digit-written b h =
    ⊎_elim
    (λ e. omega (arith, digit_value b refl e refl, digit_low b e))
    (λ e. let z : ⊥ = omega (arith, digit_missing b refl e) in absurd z)
    (decided (is_digit b))

-- ---- pairs

pair_reads : (radix : ℕ) → 0 < radix → (n : ℕ) → n < radix * radix → pair radix (n / radix) (n % radix) ≡ n
unfolding pair
pair_reads radix positive n h =
    rw (lt-ltb (n / radix) radix ((div-lt_iff_lt-mul positive).1 h), lt-ltb (n % radix) radix (mod-lt n positive))
    (div-add-mod' n radix)

module _ (radix a b : ℕ) (h : pair radix a b < radix * radix) where
  pair_high : a < radix
  pair_high =
      ⊎_elim (ltb-true a radix)
      (λ e. let z : ⊥ = omega (arith, pair-first radix a b (ltb-false a radix e)) in absurd z)
      (decided (ltb a radix))

  pair_low : b < radix
  pair_low =
      ⊎_elim (ltb-true b radix)
      (λ e. let z : ⊥ = omega (arith, pair_last radix a b pair_high (ltb-false b radix e)) in absurd z)
      (decided (ltb b radix))

  positive : 0 < radix
  positive = omega (arith, pair_high)

  pair_quotient : a ≡ pair radix a b / radix
  pair_quotient =
      rw (← pair-value radix a b pair_high pair_low, mul-add-div_right positive a b, div-eq_of_lt pair_low) (omega arith)

  pair_remainder : b ≡ pair radix a b % radix
  pair_remainder =
      rw (← pair-value radix a b pair_high pair_low, mul-add-mod_self_right a radix b, mod-eq_of_lt pair_low)

-- ---- fields: a number that is written at a position is read there

pub two_reads : (s : List ℕ) (at n : ℕ) → n < 100 → get_or s at 0 ≡ 48 + n / 10 → get_or s (at + 1) 0 ≡ 48 + n % 10 → two_at s at ≡ n
unfolding two_at
two_reads s at n h e f =
    rw (e, f, digit_reads (n / 10) (omega arith), digit_reads (n % 10) (omega arith)) (pair_reads 10 (lit< tt) n h)

pub field_reads : (s : List ℕ) (at mark n : ℕ) → n < 100 → get_or s at 0 ≡ mark → get_or s (at + 1) 0 ≡ 48 + n / 10 → get_or s (at + 1 + 1) 0 ≡ 48 + n % 10 → field_at s at mark ≡ n
unfolding field_at
field_reads s at mark n h m e f = rw (eq-eqb (get_or s at 0) mark m) (two_reads s (at + 1) n h e f)

pub four_reads : (n : ℕ) (rest : List ℕ) → n < 10000 → four_at (four n ++ rest) 0 ≡ n
unfolding four_at four two
four_reads n rest h =
    let s : List ℕ = four n ++ rest in
    rw (two_reads s 0 (n / 100) (omega arith) refl refl, two_reads s 2 (n % 100) (omega arith) refl refl)
    (pair_reads 100 (lit< tt) n h)

-- ---- parts: a number that is read at a position is written there

pub two-part : (s : List ℕ) (at : ℕ) → at + 2 ≤ length s → two_at s at < 100 → drop at s ≡ two (two_at s at) ++ drop (at + 2) s
unfolding two_at two
two-part s at l h =
    let a : ℕ = digit_of (get_or s at 0) in
    let b : ℕ = digit_of (get_or s (at + 1) 0) in
    let high : get_or s at 0 ≡ 48 + pair 10 a b / 10 =
    digit-written _ (pair_high 10 a b h) ∙ ap (λ (n : ℕ). 48 + n) (pair_quotient 10 a b h) in
    let low : get_or s (at + 1) 0 ≡ 48 + pair 10 a b % 10 =
    digit-written _ (pair_low 10 a b h) ∙ ap (λ (n : ℕ). 48 + n) (pair_remainder 10 a b h) in
    let next : at + 1 + 1 ≡ at + 2 = omega arith in
    rw (← high, ← low, ← next, drop-next s at (omega arith), drop-next s (at + 1) (omega arith))

module _ (s : List ℕ) (at mark : ℕ) (l : at + 3 ≤ length s) where
  field_behind : get_or s at 0 ≡ mark → two_at s (at + 1) < 100 → drop at s ≡ (mark ∷ two (two_at s (at + 1))) ++ drop (at + 3) s
  field_behind m h =
      let next : at + 1 + 2 ≡ at + 3 = omega arith in
      rw (← m, ← next, drop-next s at (omega arith))
      (ap (λ (r : List ℕ). get_or s at 0 ∷ r) (two-part s (at + 1) (omega arith) h))

  pub field_part : field_at s at mark < 100 → drop at s ≡ (mark ∷ two (field_at s at mark)) ++ drop (at + 3) s
  field_part h =
      ⊎_elim
      (λ e. let m : get_or s at 0 ≡ mark = eqb-true (get_or s at 0) mark e in
      let f : two_at s (at + 1) ≡ field_at s at mark = field_digits s at mark m refl in
      rw (← f) (field_behind m (rw f h)))
      (λ e. let z : ⊥ = omega (arith, field_mark s at mark (eqb-false (get_or s at 0) mark e)) in absurd z)
      (decided (eqb (get_or s at 0) mark))

pub four-part : (s : List ℕ) (at : ℕ) → at + 4 ≤ length s → four_at s at < 10000 → drop at s ≡ four (four_at s at) ++ drop (at + 4) s
unfolding four_at four
four-part s at l h =
    let a : ℕ = two_at s at in
    let b : ℕ = two_at s (at + 2) in
    let next : at + 2 + 2 ≡ at + 4 = omega arith in
    rw (← pair_quotient 100 a b h, ← pair_remainder 100 a b h, append_assoc, ← next, ← two-part s (at + 2) (omega arith) (pair_low 100 a b h))
    (two-part s at (omega arith) (pair_high 100 a b h))
