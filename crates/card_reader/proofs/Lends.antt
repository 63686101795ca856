-- What is kept, as it is lent for a run.
-- Assumes nothing.
use Prim.Native.Nat.{ℕ, ◌<◌}
use native.Mathlib.Omega.{arith}
use mathlib.Core.Path.{◌≡◌, refl, sym, ◌∙◌, subst}
use mathlib.Core.Bool.{Bool, true, false}
use lib.Dec.{eqb}
use lib.ListN.{set, length-set}
use lib.Seq.{get_or-set_same, get_or-set_other}
use borrow.Author.Tests.{eqb-true, eqb-false}
use Rattle.card_reader.specs.Lists.{Lent, IsKept}
use Rattle.card_reader.specs.Lending.{Keeps}
use Rattle.card_reader.specs.declared.Kept.{Kept}

module _ (before : Kept) (i n : ℕ) (w : Lent before) (low : i < 32) (same : n ≡ i) where
  -- the parameter i is kept too
  abbrev after : Kept
  after = record before { asked = set before.asked n true }

  pub keep_keeps : Keeps i before after
  keep_keeps =
      record {
        lent = record { kind_size = w.kind_size; asked_size = length-set before.asked n true ∙ w.asked_size; last_size = w.last_size; size = w.size };
        kinds_are = refl;
        own = subst (IsKept after) same here;
        others = λ j y. by_place j y (eqb j n) refl;
      }
    where
      here : IsKept after n
      here = get_or-set_same before.asked n true false (omega (arith, low, same, w.asked_size))

      by_place : (j : ℕ) → IsKept before j → (t : Bool) → eqb j n ≡ t → IsKept after j
      by_place j y true q = subst (IsKept after) (sym (eqb-true j n q)) here
      by_place j y false q = get_or-set_other before.asked n j true false (eqb-false j n q) ∙ y
