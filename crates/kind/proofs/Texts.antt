-- Readable texts, as the code decides them: under the kind that a number names, and where it names none.
-- Assumes nothing.
use Prim.Native.Nat.{ℕ}
use mathlib.Core.Path.{◌≡◌, sym, ◌∙◌}
use mathlib.Core.Bool.{Bool, true, false}
use mathlib.Core.List.{List}
use borrow.Author.Tests.{eq-eqb, ne_eqb}
use Rattle.base.specs.Kinds.{kind_number}
use Rattle.base.specs.Operators.{pr}
use Rattle.base.specs.declared.kind.Kind.{Kind as Named}
use Rattle.kind.specs.Table.{Kind}
use Rattle.kind.specs.Readable.{card_readable, filter_readable, is_true, is_false, value_readable}
use Rattle.kind.proofs.Table.{no_column}

module _ (kind : ℕ) (t : List ℕ) where
  pub no_kind_on_card : ((x : Named) → kind_number x ≡ kind → ⊥) → false ≡ card_readable kind t
  unfolding card_readable
  no_kind_on_card n = sym (no_column kind n false (λ (x : Kind). x.on_card t))

  module _ (operator : ℕ) where
    pub present_true : (r : Bool) → operator ≡ pr → r ≡ is_true t → r ≡ true → r ≡ value_readable operator kind t
    unfolding value_readable
    present_true r e h k = rw (eq-eqb operator pr e, sym h ∙ k) k

    pub present_false : (r s : Bool) → operator ≡ pr → r ≡ is_true t → r ≡ false → s ≡ is_false t → s ≡ value_readable operator kind t
    unfolding value_readable
    present_false r s e h k i = rw (eq-eqb operator pr e, sym h ∙ k) i

    module _ (m : operator ≡ pr → ⊥) where
      pub value_of_kind : (r : Bool) → r ≡ filter_readable kind t → r ≡ value_readable operator kind t
      unfolding value_readable
      value_of_kind r h = rw (ne_eqb operator pr m) h

      pub no_kind_in_filter : ((x : Named) → kind_number x ≡ kind → ⊥) → false ≡ value_readable operator kind t
      unfolding value_readable filter_readable
      no_kind_in_filter n = rw (ne_eqb operator pr m) (sym (no_column kind n false (λ (x : Kind). x.in_filter t)))
