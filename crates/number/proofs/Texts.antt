-- Laws of reading: what each test on a text's digits comes to.
-- Assumes nothing.
use Rattle.std.specs.Prelude.{Option, Some, None}
use mathlib.Core.Path.{◌≡◌, sym, ap, ◌∙◌}
use Prim.Native.Nat.{ℕ, ◌+◌, ◌-◌, ◌^◌, ◌≤◌, ◌<◌}
use native.Mathlib.Omega.{arith}
use mathlib.Core.List.{List}
use lib.Seq.{take_all}
use native.Mathlib.Nat.{le_of_eq}
use lib.ListN.{length, get_or, take, drop, length-take}
use borrow.Author.Tests.{le-leb, lt-leb, eq-eqb, ne_eqb}
use Rattle.base.specs.Digits.{is_digit}
use Rattle.base.specs.Runs.{run}
use Rattle.base.proofs.Lists.{rest}
use Rattle.number.specs.declared.Decimal.{Decimal}
use Rattle.number.specs.Reading.{point, DigitText, value_from, read_fraction, read}
use Rattle.base.proofs.Runs.{run-whole, run_take}
use Rattle.number.proofs.Digits.{value_short}

-- ---- the decimals

module _ (whole : ℕ) (f : List ℕ) where
  pub fraction_empty : length f < 1 → None ≡ read_fraction whole f
  unfolding read_fraction
  fraction_empty h = rw (lt-leb 1 (length f) h)

  pub fraction_long : 9 < length f → None ≡ read_fraction whole f
  unfolding read_fraction
  fraction_long h =
      let one : 1 ≤ length f = omega arith in
      rw (le-leb 1 (length f) one, lt-leb (length f) 9 h)

  pub fraction_no_digits : (k : ℕ) → k ≡ run is_digit f → k < length f → 1 ≤ length f → length f ≤ 9 → None ≡ read_fraction whole f
  unfolding read_fraction
  fraction_no_digits k e h one nine =
      let ne : run is_digit f ≡ length f → ⊥ = λ q. omega arith in
      rw (le-leb 1 (length f) one, le-leb (length f) 9 nine, ne_eqb _ _ ne)

  pub fraction_read : (k value : ℕ) → value ≡ value_from whole f → k ≡ run is_digit f → length f ≤ k → k ≤ length f → 1 ≤ length f → length f ≤ 9 → Some (record { digits = value; decimals = length f }) ≡ read_fraction whole f
  unfolding read_fraction
  fraction_read k value v e h g one nine =
      let q : run is_digit f ≡ length f = omega arith in
      rw (le-leb 1 (length f) one, le-leb (length f) 9 nine, eq-eqb _ _ q, v)

pub fraction_digits : (f : List ℕ) (k : ℕ) → k ≡ run is_digit f → length f ≤ k → length f ≤ 9 → DigitText f
fraction_digits f k e h nine = record { digits = run-whole is_digit f (omega arith); short = nine }

-- ---- the whole text

module _ (s : List ℕ) (k : ℕ) (e : k ≡ run is_digit s) where
  pub read_no_digit : k < 1 → None ≡ read s
  unfolding read
  read_no_digit h = rw (← e, lt-leb 1 k h)

  pub read_long : 8 < k → None ≡ read s
  unfolding read
  read_long h =
      let one : 1 ≤ k = omega arith in
      rw (← e, le-leb 1 k one, lt-leb k 8 h)

  pub read_whole : (value : ℕ) → value ≡ value_from 0 (take k s) → 1 ≤ k → k ≤ 8 → k ≡ length s → Some (record { digits = value; decimals = 0 }) ≡ read s
  unfolding read
  read_whole value v one eight h =
      rw (← e, le-leb 1 k one, le-leb k 8 eight, eq-eqb k (length s) h, v, take_all k s (le_of_eq (sym h)))

  pub read_no_point : 1 ≤ k → k ≤ 8 → (k ≡ length s → ⊥) → (get_or s k 0 ≡ point → ⊥) → None ≡ read s
  unfolding read
  read_no_point one eight h p =
      rw (← e, le-leb 1 k one, le-leb k 8 eight, ne_eqb k (length s) h, ne_eqb (get_or s k 0) point p)

  pub read-point : (r : Option Decimal) (whole : ℕ) → 1 ≤ k → k ≤ 8 → (k ≡ length s → ⊥) → get_or s k 0 ≡ point → whole ≡ value_from 0 (take k s) → r ≡ read_fraction whole (take (length s - (k + 1)) (drop (k + 1) s)) → r ≡ read s
  unfolding read
  read-point r whole one eight h p w q =
      rw (← e, le-leb 1 k one, le-leb k 8 eight, ne_eqb k (length s) h, eq-eqb (get_or s k 0) point p, ← w) (q ∙ ap (read_fraction whole) (rest s (k + 1)))

  pub whole-digits : k ≤ 8 → DigitText (take k s)
  whole-digits h =
      record {
        digits = rw e (run_take is_digit s);
        short = rw length-take (omega arith);
      }

  pub whole_small : (whole : ℕ) → k ≤ 8 → whole ≡ value_from 0 (take k s) → whole < 10 ^ 8
  whole_small whole h w = rw w (value_short (take k s) (rw e (run_take is_digit s)) (rw length-take (omega arith)))
