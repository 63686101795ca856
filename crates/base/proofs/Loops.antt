-- A loop's start, turns and end, for a test of every element.
-- Assumes nothing.
use Prim.Native.Nat.{ℕ, ◌+◌, ◌≤◌, ◌<◌}
use native.Mathlib.Numerals.{add-one}
use native.Mathlib.Omega.{arith}
use mathlib.Core.Path.{◌≡◌, refl, ap, sym, ◌∙◌}
use mathlib.Core.Bool.{Bool, true, false, ◌&&◌, and-true, and_assoc}
use mathlib.Core.List.{List, [], ◌∷◌}
use lib.ListN.{length, drop, get_or, drop_of_length-le}
use lib.Seq.{drop-cons}
use Rattle.std.specs.List.{fold}
use Rattle.base.specs.Lists.{every}
use Rattle.base.proofs.Invariants.{Passed}

-- ---- a test of every element

module _ (p : ℕ → Bool) (s : List ℕ) where
  pub passed_start : Passed p s 0
  passed_start = record { within = omega arith; left = refl }

  pub passed_next : (i : ℕ) → Passed p s i → i < length s → p (get_or s i 0) ≡ true → Passed p s (i + 1)
  unfolding every
  passed_next i inv h e =
      let left : every p (drop (i + 1) s) ≡ every p (drop i s) = rw (add-one, drop-cons s i 0, e) in
      record { within = omega arith; left = left ∙ inv.left }

  pub passed_not : (i : ℕ) → Passed p s i → i < length s → p (get_or s i 0) ≡ false → false ≡ every p s
  unfolding every
  passed_not i inv h e =
      let left : false ≡ every p (drop i s) = rw (drop-cons s i 0, e) in
      left ∙ inv.left

  pub passed_end : (i : ℕ) → Passed p s i → length s ≤ i → true ≡ every p s
  unfolding every
  passed_end i inv h = ap (every p) (sym (drop_of_length-le s h)) ∙ inv.left

-- ---- the same, by a fold that goes on to the end

pub fold_every : (p : ℕ → Bool) (all : Bool) (s : List ℕ) → fold (λ (a : Bool) (x : ℕ). a && p x) all s ≡ (all && every p s)
unfolding every
fold_every p all [] = sym (and-true all)
fold_every p all (x ∷ xs) = fold_every p (all && p x) xs ∙ and_assoc all (p x) (every p xs)
