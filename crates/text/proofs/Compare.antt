-- Laws of the comparisons: what each turn and each answer of the code comes to.
-- Assumes nothing.
use mathlib.Core.Path.{◌≡◌, sym, ap, ◌∙◌}
use Prim.Native.Nat.{ℕ, ◌+◌, ◌-◌, ◌%◌, ◌≤◌, ◌<◌}
use native.Mathlib.Omega.{arith}
use mathlib.Core.Bool.{Bool, true, false}
use mathlib.Core.List.{List}
use lib.Dec.{eqb}
use lib.ListN.{length, get_or, drop}
use Rattle.std.specs.List.{list_all, list_any, range_with_len}
use Rattle.base.proofs.Lists.{equal_not}
use Rattle.text.specs.Fold.{fold_text}
use Rattle.base.specs.Affixes.{has_prefix}
use Rattle.text.specs.Compare.{same, starts, ends, contains}
use Rattle.text.proofs.Fold.{fold_text-length, fold_low}
use Rattle.base.proofs.Affixes.{prefix_all, prefix_differ, prefix_past, prefix_short, prefix_equal, suffix_short, suffix_prefix, infix_found, infix_any, infix_short}

-- ---- `begins_at`: every byte of b, folded, stands where it should

pub begins_all : (a b : List ℕ) (at : ℕ) → at + length b ≤ length a
    → list_all (λ (i : ℕ). eqb (get_or (fold_text a) (at + i) 0) (get_or (fold_text b) i 0)) (range_with_len 0 (length b)) ≡ has_prefix (drop at (fold_text a)) (fold_text b)
begins_all a b at h =
    rw fold_text-length at (prefix_all (fold_text a) (fold_text b) at (simp fold_text-length h))

module _ (a b : List ℕ) where
  -- ---- `same`

  pub same_lengths : (length a ≡ length b → ⊥) → false ≡ same a b
  unfolding same
  same_lengths ne =
      sym (equal_not (fold_text a) (fold_text b) (λ e. ne (sym (fold_text-length a) ∙ ap length e ∙ fold_text-length b)))

  pub same_prefix : (r : Bool) → r ≡ has_prefix (fold_text a) (fold_text b) → length a ≡ length b → r ≡ same a b
  unfolding same
  same_prefix r e h = e ∙ prefix_equal (fold_text a) (fold_text b) (fold_text-length a ∙ h ∙ sym (fold_text-length b))

  -- ---- `starts`

  pub starts_short : length a < length b → false ≡ starts a b
  unfolding starts
  starts_short h = sym (prefix_short (fold_text a) (fold_text b) (simp fold_text-length h))

  -- ---- `ends`

  pub ends_short : length a < length b → false ≡ ends a b
  unfolding ends
  ends_short h = sym (suffix_short (fold_text a) (fold_text b) (simp fold_text-length h))

  pub ends_prefix : (r : Bool) → r ≡ has_prefix (drop (length a - length b) (fold_text a)) (fold_text b) → length b ≤ length a → r ≡ ends a b
  unfolding ends
  ends_prefix r e h = e ∙ simp fold_text-length at (suffix_prefix (fold_text a) (fold_text b) (simp fold_text-length h))

  -- ---- `begins_by`

  pub begins_differ : (at v y : ℕ) → at + length b ≤ length a → 0 < length b → v ≡ get_or a at 0 → y ≡ get_or (fold_text b) 0 0 → (v % 32 ≡ y % 32 → ⊥) → false ≡ has_prefix (drop at (fold_text a)) (fold_text b)
  begins_differ at v y fits more ev ey h =
      sym (prefix_differ (fold_text a) (fold_text b) at 0 (rw fold_text-length (omega arith)) (rw fold_text-length more)
      (λ e. h (ap (λ (n : ℕ). n % 32) ev ∙ sym (fold_low a at) ∙ ap (λ (n : ℕ). n % 32) (e ∙ sym ey))))

  -- ---- `contains`

  pub contains_empty : length b ≡ 0 → true ≡ contains a b
  unfolding contains
  contains_empty h = sym (infix_found (fold_text a) (fold_text b) (prefix_past (fold_text a) (fold_text b) 0 (omega (arith, fold_text-length b, h))))

  pub contains_short : length a < length b → false ≡ contains a b
  unfolding contains
  contains_short h = sym (infix_short (fold_text a) (fold_text b) (simp fold_text-length h))

  pub contains_any : 0 < length b → length b ≤ length a
      → list_any (λ (at : ℕ). has_prefix (drop at (fold_text a)) (fold_text b)) (range_with_len 0 (length a - length b + 1)) ≡ contains a b
  unfolding contains
  contains_any some h =
      simp fold_text-length at (infix_any (fold_text a) (fold_text b) (simp fold_text-length some) (simp fold_text-length h))
