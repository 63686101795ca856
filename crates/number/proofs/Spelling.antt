-- A text reads to a number exactly when it is a spelling of it, and what is read keeps to the bounds.
-- The reader tests how long the first run of digits is, whether the text ends there or a point comes, and the digits behind it. A text that
-- reads to a number has passed these tests, and what passed them are the parts of a spelling (`read_spelled`; `fraction_inverse` for the
-- digits behind the point). The other way round the run of a spelling's first digits ends at its point, which is no digit, so that the reader
-- cuts the text where the spelling does (`point-read`). The bounds are by how many digits a spelling may have (`spelled_bounded`).
-- Assumes nothing.
use Rattle.std.specs.Prelude.{Option, Some, None, is_some}
use mathlib.Core.Path.{◌≡◌, refl, sym, ap, ◌∙◌}
use Prim.Native.Nat.{ℕ, ◌+◌, ◌-◌, ◌≤◌, ◌<◌}
use native.Mathlib.Nat.{le_of_eq}
use native.Mathlib.Numerals.{add-one}
use native.Mathlib.Omega.{arith}
use mathlib.Core.Bool.{Bool, true, false, cond, false≢true}
use mathlib.Core.List.{List, ◌∷◌, ◌++◌}
use mathlib.Core.Logic.{◌↔◌}
use lib.Dec.{leb, eqb, lit≤}
use lib.ListN.{length, get_or, take, drop, length-append, length-take}
use lib.Seq.{take-append_seam, drop-append-add, get_or-append_seam, split_at, take-length}
use borrow.Author.Tests.{leb-true, eqb-true, eqb-false}
use Rattle.base.specs.Digits.{is_digit}
use Rattle.base.specs.Runs.{run}
use Rattle.base.proofs.Tests.{cond-first}
use Rattle.base.proofs.Runs.{run-whole, run_take, run-within, run-every, run-append}
use Rattle.base.proofs.Lists.{rest, every_all, all_every}
use Rattle.number.specs.declared.Decimal.{Decimal}
use Rattle.number.specs.Value.{Bounded}
use Rattle.number.specs.Reading.{point, value_from, read_fraction, read, readable}
use Rattle.number.specs.Spelling.{Digits, Spells, whole, fraction}
use Rattle.number.proofs.Digits.{value-append, value_bound, value_short}
use Rattle.number.proofs.Texts.{fraction_read, read_whole, read-point}

-- ---- a reading that is a number passed every test

number_same : (a b : Decimal) → Some a ≡ Some b → a ≡ b
number_same a b e = cc

never_number : {d : Decimal} → None ≡ Some d → ⊥
never_number h = let z : ◌≡◌ {A = ℕ} 0 1 = cc in omega arith

pub record FractionRead (before : ℕ) (f : List ℕ) (d : Decimal) : Type 0 where
  pub digits : Digits 1 9 f
  pub value : d ≡ record { digits = value_from before f; decimals = length f }

fraction_inverse : (before : ℕ) (f : List ℕ) (d : Decimal) → read_fraction before f ≡ Some d → FractionRead before f d
unfolding read_fraction
fraction_inverse before f d e =
    let one = cond-first (leb 1 (length f)) _ None never_number e in
    let nine = cond-first (leb (length f) 9) _ None never_number one.1 in
    let all = cond-first (eqb (run is_digit f) (length f)) _ None never_number nine.1 in
    let run : length f ≤ run is_digit f = le_of_eq (sym (eqb-true (run is_digit f) (length f) all.0)) in
    record {
      digits = record { all = every_all is_digit f (run-whole is_digit f run); enough = leb-true 1 (length f) one.0; few = leb-true (length f) 9 nine.0 };
      value = sym (number_same _ d all.1);
    }

-- ---- from the reading to the spelling

module _ (s : List ℕ) (d : Decimal) (one : 1 ≤ run is_digit s) (eight : run is_digit s ≤ 8) where
  whole_spells : run is_digit s ≡ length s → Some (record { digits = value_from 0 s; decimals = 0 }) ≡ Some d → Spells s d
  whole_spells full e =
      whole (record { all = every_all is_digit s (run-whole is_digit s (le_of_eq (sym full))); enough = rw (← full) one; few = rw (← full) eight })
      (sym (number_same _ d e))

  whole_length : length (take (run is_digit s) s) ≡ run is_digit s
  whole_length = rw length-take (omega (arith, run-within is_digit s))

  fraction_spells : (run is_digit s ≡ length s → ⊥) → get_or s (run is_digit s) 0 ≡ point → FractionRead (value_from 0 (take (run is_digit s) s)) (drop (run is_digit s + 1) s) d → Spells s d
  fraction_spells part point r =
      let inside : run is_digit s < length s = omega (arith, run-within is_digit s) in
      let w : List ℕ = take (run is_digit s) s in
      let f : List ℕ = drop (run is_digit s + 1) s in
      fraction w f
      (split_at s (run is_digit s) 0 inside ∙ rw (point, add-one))
      (record { all = every_all is_digit w (run_take is_digit s); enough = rw whole_length one; few = rw whole_length eight })
      r.digits
      (r.value ∙ ap (λ (n : ℕ). record { digits = n; decimals = length f }) (sym (value-append 0 w f)))

read_spelled : (s : List ℕ) (d : Decimal) → read s ≡ Some d → Spells s d
unfolding read
read_spelled s d e =
    let one = cond-first (leb 1 (run is_digit s)) _ None never_number e in
    let eight = cond-first (leb (run is_digit s) 8) _ None never_number one.1 in
    ends (leb-true 1 (run is_digit s) one.0) (leb-true (run is_digit s) 8 eight.0) (eqb (run is_digit s) (length s)) refl eight.1
  where
    ends : 1 ≤ run is_digit s → run is_digit s ≤ 8 → (t : Bool) → eqb (run is_digit s) (length s) ≡ t → cond t (Some (record { digits = value_from 0 s; decimals = 0 })) (cond (eqb (get_or s (run is_digit s) 0) point) (read_fraction (value_from 0 (take (run is_digit s) s)) (drop (run is_digit s + 1) s)) None) ≡ Some d → Spells s d
    ends one eight true t h = whole_spells s d one eight (eqb-true _ _ t) h
    ends one eight false t h =
        let point = cond-first (eqb (get_or s (run is_digit s) 0) point) _ None never_number h in
        fraction_spells s d one eight (eqb-false _ _ t) (eqb-true _ _ point.0) (fraction_inverse _ _ d point.1)

-- ---- from the spelling to the reading

point_no_digit : is_digit point ≡ false
unfolding is_digit
point_no_digit = refl

module _ (w f : List ℕ) (g : Digits 1 8 w) (h : Digits 1 9 f) where
  text : List ℕ
  text = w ++ point ∷ f

  after-point : drop (length w + 1) text ≡ f
  unfolding text
  after-point = drop-append-add w (point ∷ f) 1

  fraction_taken : Some (record { digits = value_from (value_from 0 w) f; decimals = length f }) ≡ read_fraction (value_from 0 w) (take (length text - (length w + 1)) (drop (length w + 1) text))
  fraction_taken =
      let full : run is_digit f ≡ length f = run-every is_digit f (all_every is_digit f h.all) in
      rw (rest text (length w + 1), after-point)
      (fraction_read (value_from 0 w) f (run is_digit f) (value_from (value_from 0 w) f) refl refl (le_of_eq (sym full)) (le_of_eq full) h.enough h.few)

  pub point-read : Some (record { digits = value_from (value_from 0 w) f; decimals = length f }) ≡ read (w ++ point ∷ f)
  unfolding text
  point-read =
      let full : run is_digit text ≡ length w = run-append is_digit w point f (all_every is_digit w g.all) point_no_digit in
      let inside : length w ≡ length text → ⊥ = λ e. omega (arith, length-append w (point ∷ f)) in
      read-point text (length w) (sym full) _ (value_from 0 w) g.enough g.few inside (get_or-append_seam w point f 0)
      (ap (value_from 0) (sym (take-append_seam w (point ∷ f)))) fraction_taken

spelled_read : (s : List ℕ) (d : Decimal) → Spells s d → read s ≡ Some d
spelled_read s d (whole g v) =
    let full : run is_digit s ≡ length s = run-every is_digit s (all_every is_digit s g.all) in
    sym (rw v (read_whole s (length s) (sym full) (value_from 0 s) (ap (value_from 0) (sym (take-length s))) g.enough g.few refl))
spelled_read s d (fraction w f e g h v) = rw (e, v, value-append 0 w f) (sym (point-read w f g h))

-- a text is readable exactly when it is w, or w ++ "." ++ f, of digits, 1 to 8 and 1 to 9 of them; and it reads to what they write
pub read_iff : (s : List ℕ) (d : Decimal) → (read s ≡ Some d) ↔ Spells s d
read_iff s d = (read_spelled s d, spelled_read s d)

spelled_bounded : (s : List ℕ) (d : Decimal) → Spells s d → Bounded d
spelled_bounded s d (whole g v) =
    rw v (record { few_decimals = lit≤ tt; few_digits = value_short s (all_every is_digit s g.all) g.few })
spelled_bounded s d (fraction w f e g h v) =
    rw (v, value-append 0 w f)
    (record {
      few_decimals = h.few;
      few_digits = value_bound f (value_from 0 w) 8 (value_short w (all_every is_digit w g.all) g.few) (all_every is_digit f h.all);
    })

-- what is read keeps to the bounds that the relations ask for
pub read_bounded : (s : List ℕ) (d : Decimal) → read s ≡ Some d → Bounded d
read_bounded s d e = spelled_bounded s d (read_spelled s d e)

-- the same of an answer that was told to be a number
pub number_bounded : (s : List ℕ) (r : Option Decimal) (d : Decimal) → r ≡ read s → r ≡ Some d → Bounded d
number_bounded s r d e h = read_bounded s d (sym e ∙ h)

-- a text is readable exactly where it spells a number
readable_number : (s : List ℕ) (r : Option Decimal) → read s ≡ r → is_some r ≡ true → (d : Decimal) × Spells s d
readable_number s (Some d) e h = (d, read_spelled s d e)
readable_number s None e h = absurd (false≢true h)

spells_readable : (s : List ℕ) → (d : Decimal) × Spells s d → readable s ≡ true
unfolding readable
spells_readable s h = rw (spelled_read s h.0 h.1)

pub readable_iff : (s : List ℕ) → (readable s ≡ true) ↔ ((d : Decimal) × Spells s d)
unfolding readable
readable_iff s = (readable_number s (read s) refl, spells_readable s)
