-- Laws of the split at an index; folding and the split at the first bar change places: a token may be folded whole and then split, or split and then folded.
-- Assumes nothing.
use mathlib.Core.Path.{◌≡◌, refl}
use Prim.Native.Nat.{ℕ, ◌+◌, ◌-◌, ◌≤◌, ◌<◌}
use native.Mathlib.Omega.{arith}
use mathlib.Core.List.{List, ◌∷◌, ◌++◌}
use lib.ListN.{length, take, drop, length-append}
use lib.Seq.{take-append_seam, drop-append-add}
use borrow.Author.Tests.{lt-ltb, le-ltb}
use Rattle.base.specs.Split.{first_of, whole, parts, split}
use Rattle.base.proofs.Lists.{rest}
use Rattle.base.proofs.Split.{split-whole, split_at_lem, split_cases}
use Rattle.text.specs.Bar.{bar}
use Rattle.text.specs.Fold.{fold_text}
use Rattle.text.proofs.Folded.{fold_text-bar, fold_text_no_bar}
use Rattle.token.specs.Split.{split_at, fold_parts}

pub split_folded : (t : List ℕ) → split bar (fold_text t) ≡ fold_parts (split bar t)
unfolding fold_parts
split_folded =
    split_cases bar (λ (t : List ℕ). split bar (fold_text t) ≡ fold_parts (split bar t))
    (λ c h. rw (split-whole bar c h, split-whole bar (fold_text c) (fold_text_no_bar h)))
    (λ s c h. rw (split_at_lem bar s c h, fold_text-bar s c, split_at_lem bar (fold_text s) (fold_text c) (fold_text_no_bar h)))

-- ---- at an index, with the parts as slices have them

module _ (t : List ℕ) (i : ℕ) where
  pub split_at_none : length t ≤ i → split_at i t ≡ whole t
  unfolding split_at
  split_at_none h = rw (le-ltb i (length t) h)

  pub split_at_parts : i < length t → split_at i t ≡ parts (take i t) (take (length t - (i + 1)) (drop (i + 1) t))
  unfolding split_at
  split_at_parts h = rw (lt-ltb i (length t) h, rest t (i + 1))

pub split_at_there : (s c : List ℕ) (b : ℕ) → split_at (length s) (s ++ (b ∷ c)) ≡ parts s c
unfolding split_at
split_at_there s c b = rw (lt-ltb (length s) (length (s ++ (b ∷ c))) (omega (arith, length-append s (b ∷ c))), take-append_seam, drop-append-add)

-- the split at the first bar is one at its index
pub split_at-first : (t : List ℕ) → split_at (first_of bar t) t ≡ split bar t
unfolding split_at split
split_at-first t = refl
