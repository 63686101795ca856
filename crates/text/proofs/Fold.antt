-- Laws of folding.
-- Assumes nothing.
use mathlib.Core.Path.{◌≡◌, refl, ap}
use Prim.Native.Nat.{ℕ, zero, suc, ◌+◌, ◌%◌, ◌≤◌, ◌<◌}
use Prim.Native.Char.{code}
use native.Mathlib.Omega.{arith}
use mathlib.Core.Bool.{Bool, true, false, cond, not, ◌&&◌, ◌||◌}
use mathlib.Core.List.{List, [], ◌∷◌}
use lib.Dec.{eqb, leb}
use lib.ListN.{length, get_or}
use borrow.Author.Tests.{leb-true, eqb-false, not-true}
use Rattle.base.proofs.Tests.{and_left, and_right}
use Rattle.text.specs.Fold.{is_capital, lead, is_accented, fold_byte, fold_from, fold_text}

fold_from-length : (w : ℕ) (s : List ℕ) → length (fold_from w s) ≡ length s
unfolding fold_from
fold_from-length w [] = refl
fold_from-length w (x ∷ s) = ap suc (fold_from-length x s)

pub fold_text-length : (s : List ℕ) → length (fold_text s) ≡ length s
unfolding fold_text
fold_text-length s = fold_from-length 0 s

-- ---- folding keeps the last five bits of a byte

byte_low : (t : Bool) (x : ℕ) → cond t (x + 32) x % 32 ≡ x % 32
byte_low true x = omega arith
byte_low false x = refl

from_low : (w : ℕ) (s : List ℕ) (i : ℕ) → get_or (fold_from w s) i 0 % 32 ≡ get_or s i 0 % 32
unfolding fold_from fold_byte
from_low w [] i = refl
from_low w (x ∷ s) zero = byte_low (is_capital x || (eqb w lead && is_accented x)) x
from_low w (x ∷ s) (suc i) = from_low x s i

pub fold_low : (s : List ℕ) (i : ℕ) → get_or (fold_text s) i 0 % 32 ≡ get_or s i 0 % 32
unfolding fold_text
fold_low s i = from_low 0 s i

-- ---- what folds

module _ (b : ℕ) where
  pub capital_there : is_capital b ≡ true → (code "A" ≤ b) × (b ≤ code "Z")
  unfolding is_capital
  capital_there t = (
    leb-true (code "A") b (and_left (leb (code "A") b) (leb b (code "Z")) t),
    leb-true b (code "Z") (and_right (leb (code "A") b) (leb b (code "Z")) t),
  )

  pub accented_there : is_accented b ≡ true → (128 ≤ b) × (b ≤ 158) × (b ≡ 151 → ⊥)
  unfolding is_accented
  accented_there t =
      let rest = and_right (leb 128 b) (leb b 158 && not (eqb b 151)) t in (
        leb-true 128 b (and_left (leb 128 b) (leb b 158 && not (eqb b 151)) t),
        leb-true b 158 (and_left (leb b 158) (not (eqb b 151)) rest),
        eqb-false b 151 (not-true (eqb b 151) (and_right (leb b 158) (not (eqb b 151)) rest)),
      )

  pub capital_most : is_capital b ≡ true → b ≤ 90
  capital_most t = (capital_there t).1

  pub accented_most : is_accented b ≡ true → b ≤ 158
  accented_most t = (accented_there t).1

-- ---- the byte at an index, by the byte of the text there and the one before it

folded : (w : ℕ) (s : List ℕ) (i : ℕ) → i < length s → get_or (fold_from w s) i 0 ≡ fold_byte (get_or (w ∷ s) i 0) (get_or s i 0)
unfolding fold_from
folded w [] i h = absurd (omega arith)
folded w (x ∷ s) zero h = refl
folded w (x ∷ s) (suc i) h = folded x s i (omega arith)

pub folded_is : (s : List ℕ) (i : ℕ) → i < length s
    → get_or (fold_text s) i 0 ≡ cond (is_capital (get_or s i 0) || (eqb (get_or (0 ∷ s) i 0) lead && is_accented (get_or s i 0))) (get_or s i 0 + 32) (get_or s i 0)
unfolding fold_text fold_byte
folded_is s i h = folded 0 s i h
