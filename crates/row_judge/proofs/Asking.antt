-- The parameters that rows ask about are kept: those of the rows before i are, and so they stay. What was opened and read is then ready.
-- Assumes nothing.
use Prim.Native.Nat.{ℕ, ◌+◌, ◌≤◌, ◌<◌}
use native.Mathlib.Omega.{arith}
use mathlib.Core.Path.{◌≡◌, refl, ap, sym, ◌∙◌, subst}
use mathlib.Core.Bool.{Bool, true, false}
use mathlib.Core.List.{List}
use lib.Dec.{eqb}
use lib.ListN.{length, get_or}
use borrow.Author.Tests.{eqb-true, eqb-false}
use Rattle.rows.specs.Cells.{row_of}
use Rattle.rows.specs.declared.Probe.{Probe}
use Rattle.rows.specs.declared.Row.{Row}
use Rattle.card.specs.Card.{entries_of}
use Rattle.judge.specs.Sets.{conforms_to}
use Rattle.card_reader.specs.Lists.{IsKept, BeginsAlike, ReadsCard}
use Rattle.card_reader.specs.declared.Kept.{Kept}
use Rattle.card_reader.specs.Lending.{Lends, Keeps}
use Rattle.row_judge.specs.Asking.{KeepsTests, LentFor}

pub record KeptTo (rows : List ℕ) (before kept : Kept) (i : ℕ) : Type 0 where
  pub kinds_are : kept.kinds ≡ before.kinds
  pub each : (j : ℕ) → j < i → (p : Probe) → row_of (get_or rows j 0) ≡ Row.Test p → IsKept kept p.index

module _ (rows : List ℕ) (before : Kept) where
  pub kept_start : KeptTo rows before before 0
  kept_start = record { kinds_are = refl; each = λ j z. absurd (omega (arith, z)) }

  module _ (kept : Kept) (i : ℕ) (inv : KeptTo rows before kept i) where
    pub kept_end : length rows ≤ i → KeepsTests rows before kept
    kept_end z = record { kinds_are = inv.kinds_are; all_kept = record { each = λ j l. inv.each j (omega (arith, z, l)) } }

    module _ (r : Row) (e : r ≡ row_of (get_or rows i 0)) where
      -- a test
      pub kept_test : (p : Probe) (after : Kept) → r ≡ Row.Test p → Keeps p.index kept after → KeptTo rows before after (i + 1)
      kept_test p after h k =
          record { kinds_are = k.kinds_are ∙ inv.kinds_are; each = λ j z q y. by_place j z q y (eqb j i) refl }
        where
          by_place : (j : ℕ) → j < i + 1 → (q : Probe) → row_of (get_or rows j 0) ≡ Row.Test q → (t : Bool) → eqb j i ≡ t → IsKept after q.index
          by_place j z q y true t =
              let both : Row.Test p ≡ Row.Test q = sym h ∙ e ∙ ap (λ (n : ℕ). row_of (get_or rows n 0)) (sym (eqb-true j i t)) ∙ y in
              let same : p ≡ q = cc in
              subst (λ (x : Probe). IsKept after x.index) same k.own
          by_place j z q y false t = k.others q.index (inv.each j (omega (arith, z, eqb-false j i t)) q y)

      -- a row that is none
      pub kept_none : ((p : Probe) → r ≡ Row.Test p → ⊥) → KeptTo rows before kept (i + 1)
      kept_none n =
          record { kinds_are = inv.kinds_are; each = λ j z q y. by_place j z q y (eqb j i) refl }
        where
          by_place : (j : ℕ) → j < i + 1 → (q : Probe) → row_of (get_or rows j 0) ≡ Row.Test q → (t : Bool) → eqb j i ≡ t → IsKept kept q.index
          by_place j z q y true t = absurd (n q (e ∙ ap (λ (m : ℕ). row_of (get_or rows m 0)) (sym (eqb-true j i t)) ∙ y))
          by_place j z q y false t = inv.each j (omega (arith, z, eqb-false j i t)) q y

-- ---- what is kept in a run

pub lent_for : (kinds rows : List ℕ) (before after : Kept) → Lends kinds before → KeepsTests rows before after → LentFor kinds rows after
lent_for kinds rows before after l k = record { kinds_are = k.kinds_are ∙ l.kinds_are; all_kept = k.all_kept }

-- so it stays from card to card
pub lent-on : (kinds rows : List ℕ) (before kept : Kept) → LentFor kinds rows before → BeginsAlike before kept → LentFor kinds rows kept
lent-on kinds rows before kept l a =
    record {
      kinds_are = a.kinds_are ∙ l.kinds_are;
      all_kept = record { each = λ j z p y. ap (λ (q : List Bool). get_or q p.index false) a.asked_are ∙ l.all_kept.each j z p y };
    }

pub read_conforming : (kinds card : List ℕ) (before kept : Kept) (r : Bool) → ReadsCard kinds card before kept r → conforms_to kinds (entries_of card) ≡ true → r ≡ true
read_conforming kinds card before kept r w h = w.answer ∙ h

pub read-lent : (kinds rows card : List ℕ) (before kept : Kept) (r : Bool) → LentFor kinds rows before → ReadsCard kinds card before kept r → LentFor kinds rows kept
read-lent kinds rows card before kept r l w = lent-on kinds rows before kept l w.begins
