-- Where a list is cut at the first occurrence of a byte.
-- Assumes nothing.
use Prim.Native.Nat.{ℕ, ◌+◌}
use native.Mathlib.Nat.{zero-add}
use native.Mathlib.Omega.{arith}
use mathlib.Core.Path.{◌≡◌, refl, ap, sym, ◌∙◌, subst}
use mathlib.Core.Bool.{true, not}
use mathlib.Core.Logic.{⊎_elim}
use mathlib.Core.List.{List, [], ◌∷◌, ◌++◌, head-eq_of_cons-eq, tail-eq_of_cons-eq}
use lib.Dec.{eqb}
use lib.ListN.{length, drop, length-append}
use lib.Seq.{drop-append-add}
use borrow.Author.Tests.{eq-eqb, ne_eqb, eqb-true, eqb-false}
use Rattle.base.specs.Lists.{all_empty, all_cons, every}
use Rattle.base.specs.Runs.{run, run_end, differs}
use Rattle.base.proofs.Runs.{run-append, run-every}
use Rattle.base.proofs.Lists.{all_every}
use Rattle.base.proofs.All.{all_map}
use Rattle.base.proofs.Tests.{decided}
use Rattle.base.specs.Split.{Without}

pub drop_right : (b : ℕ) (m w : List ℕ) → drop (length m + 1) (m ++ (b ∷ w)) ≡ w
drop_right b m w = drop-append-add m (b ∷ w) 1

pub cut_shorter : (b : ℕ) (m w : List ℕ) → length (m ++ (b ∷ w)) ≡ length m + 1 + length w
cut_shorter b m w = omega (arith, length-append m (b ∷ w))

module _ (b : ℕ) where
  without-every : (s : List ℕ) → Without b s → every (differs b) s ≡ true
  without-every s h = all_every (differs b) s (all_map (λ x n. ap not (ne_eqb x b n)) h)

  pub cut_end : (m w : List ℕ) → Without b m → run_end (differs b) (m ++ (b ∷ w)) 0 ≡ length m
  unfolding run_end
  cut_end m w h = zero-add (run (differs b) (m ++ (b ∷ w))) ∙ run-append (differs b) m b w (without-every m h) (ap not (eq-eqb b b refl))

  pub whole_end : (s : List ℕ) → Without b s → run_end (differs b) s 0 ≡ length s
  unfolding run_end
  whole_end s h = zero-add (run (differs b) s) ∙ run-every (differs b) s (without-every s h)

  -- a list is cut at the byte's first occurrence, or has none
  pub data Cut : List ℕ → Type 0 where
    cut_at : (m w : List ℕ) → Without b m → Cut (m ++ (b ∷ w))
    no_cut : {s : List ℕ} → Without b s → Cut s

  cut_next : (x : ℕ) {s : List ℕ} → (x ≡ b → ⊥) → Cut s → Cut (x ∷ s)
  cut_next x n (cut_at m w h) = cut_at (x ∷ m) w (all_cons n h)
  cut_next x n (no_cut h) = no_cut (all_cons n h)

  pub cut_of : (s : List ℕ) → Cut s
  cut_of [] = no_cut all_empty
  cut_of (x ∷ s) =
      ⊎_elim (λ e. subst (λ (y : ℕ). Cut (y ∷ s)) (sym (eqb-true x b e)) (cut_at [] s all_empty))
      (λ e. cut_next x (eqb-false x b e) (cut_of s)) (decided (eqb x b))

  -- in one way
  pub cut_unique : (m m' w w' : List ℕ) → Without b m → Without b m' → m ++ (b ∷ w) ≡ m' ++ (b ∷ w') → (m ≡ m') × (w ≡ w')
  cut_unique [] [] w w' h h' e = (refl, tail-eq_of_cons-eq e)
  cut_unique [] (y ∷ m') w w' h (all_cons n h') e = absurd (n (sym (head-eq_of_cons-eq e)))
  cut_unique (x ∷ m) [] w w' (all_cons n h) h' e = absurd (n (head-eq_of_cons-eq e))
  cut_unique (x ∷ m) (y ∷ m') w w' (all_cons n h) (all_cons n' h') e =
      let r = cut_unique m m' w w' h h' (tail-eq_of_cons-eq e) in
      let z : x ≡ y = head-eq_of_cons-eq e in
      let r0 : m ≡ m' = r.0 in
      (cc, r.1)

  pub not_both : (m w : List ℕ) → Without b (m ++ (b ∷ w)) → ⊥
  not_both [] w (all_cons n h) = n refl
  not_both (x ∷ m) w (all_cons n h) = not_both m w h
