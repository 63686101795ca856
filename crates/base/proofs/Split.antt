-- Laws of the split at the first place of a byte: by its index, as the code has the parts, and by how the text is put together.
-- Assumes nothing.
use mathlib.Core.Path.{◌≡◌, refl, sym, ap, subst}
use Prim.Native.Nat.{ℕ, suc, ◌+◌, ◌-◌, ◌≤◌, ◌<◌}
use native.Mathlib.Omega.{arith}
use mathlib.Core.Logic.{⊎_elim}
use mathlib.Core.List.{List, [], ◌∷◌, ◌++◌}
use lib.Dec.{eqb}
use lib.ListN.{length, take, drop, length-append}
use lib.Seq.{take-append_seam, drop-append-add}
use borrow.Author.Tests.{lt-ltb, le-ltb, ne_eqb, eq-eqb, eqb-true, eqb-false}
use Rattle.base.specs.Lists.{all_empty, all_cons}
use Rattle.base.specs.Runs.{run, run_end, differs, RunEnd}
use Rattle.base.specs.Split.{first_of, Without, whole, parts, split}
use Rattle.base.proofs.Lists.{rest}
use Rattle.base.proofs.Tests.{decided}

module _ (x : ℕ) where
  -- the run of other bytes ends at the first
  pub first_place : (s : List ℕ) (r : ℕ) → RunEnd (differs x) s 0 r → (r ≡ first_of x s) × (r ≤ length s)
  unfolding run_end
  first_place s r e = (omega (arith, e.is), e.within)

  -- ---- by the index of the first, with the parts as slices have them

  module _ (t : List ℕ) (i : ℕ) (e : i ≡ first_of x t) where
    pub split_none : length t ≤ i → split x t ≡ whole t
    unfolding split
    split_none h = rw (← e, le-ltb i (length t) h)

    pub split_parts : i < length t → split x t ≡ parts (take i t) (take (length t - (i + 1)) (drop (i + 1) t))
    unfolding split
    split_parts h = rw (← e, lt-ltb i (length t) h, rest t (i + 1))

  -- ---- by how the text is put together

  first_none : (c : List ℕ) → Without x c → first_of x c ≡ length c
  unfolding run
  first_none [] all_empty = refl
  first_none (y ∷ c) (all_cons n h) = rw (ne_eqb y x n) (ap suc (first_none c h))

  first-behind : (s c : List ℕ) → Without x s → first_of x (s ++ (x ∷ c)) ≡ length s
  unfolding run
  first-behind [] c all_empty = rw (eq-eqb x x refl)
  first-behind (y ∷ s) c (all_cons n h) = rw (ne_eqb y x n) (ap suc (first-behind s c h))

  pub split-whole : (c : List ℕ) → Without x c → split x c ≡ whole c
  split-whole c h = split_none c (length c) (sym (first_none c h)) (omega arith)

  pub split_at_lem : (s c : List ℕ) → Without x s → split x (s ++ (x ∷ c)) ≡ parts s c
  unfolding split
  split_at_lem s c h =
      let t = s ++ (x ∷ c) in
      let e : first_of x t ≡ length s = first-behind s c h in
      rw (e, lt-ltb (length s) (length t) (omega (arith, length-append s (x ∷ c))), take-append_seam, drop-append-add)

  -- every text is without the byte or has a first one
  pub split_cases : (P : List ℕ → Type 0) → ((c : List ℕ) → Without x c → P c) → ((s c : List ℕ) → Without x s → P (s ++ (x ∷ c))) → (t : List ℕ) → P t
  split_cases P none found [] = none [] all_empty
  split_cases P none found (y ∷ t) =
      ⊎_elim
      (λ e. subst (λ (z : ℕ). P (z ∷ t)) (sym (eqb-true y x e)) (found [] t all_empty))
      (λ e.
      let n : y ≡ x → ⊥ = eqb-false y x e in
      split_cases (λ (u : List ℕ). P (y ∷ u)) (λ c h. none (y ∷ c) (all_cons n h)) (λ s c h. found (y ∷ s) c (all_cons n h)) t)
      (decided (eqb y x))
