-- What the comparisons say of the folded texts, without recursion.
-- Assumes nothing.
use mathlib.Core.Path.{◌≡◌}
use Prim.Native.Nat.{ℕ}
use mathlib.Core.Bool.{true}
use mathlib.Core.List.{List, ◌++◌}
use mathlib.Core.Logic.{◌↔◌}
use Rattle.base.proofs.Lists.{equal-same, equal_refl}
use Rattle.text.specs.Fold.{fold_text}
use Rattle.text.specs.Compare.{same, starts, ends, contains}
use Rattle.base.proofs.Affixes.{prefix_rest, prefix_append, suffix_rest, suffix_append, infix_rest, infix_append}

module _ (a b : List ℕ) where
  pub same_iff : (same a b ≡ true) ↔ (fold_text a ≡ fold_text b)
  unfolding same
  same_iff = (equal-same (fold_text a) (fold_text b), λ e. rw e (equal_refl (fold_text b)))

  pub starts_iff : (starts a b ≡ true) ↔ ((q : List ℕ) × (fold_text a ≡ fold_text b ++ q))
  unfolding starts
  starts_iff = (prefix_rest (fold_text a) (fold_text b), λ w. rw w.1 (prefix_append (fold_text b) w.0))

  pub ends_iff : (ends a b ≡ true) ↔ ((p : List ℕ) × (fold_text a ≡ p ++ fold_text b))
  unfolding ends
  ends_iff = (suffix_rest (fold_text a) (fold_text b), λ w. rw w.1 (suffix_append w.0 (fold_text b)))

  pub contains_iff : (contains a b ≡ true) ↔ ((p : List ℕ) × (q : List ℕ) × (fold_text a ≡ p ++ (fold_text b ++ q)))
  unfolding contains
  contains_iff = (infix_rest (fold_text a) (fold_text b), λ w. rw w.2 (infix_append w.0 (fold_text b) w.1))
