-- What is kept after the store of one entry, and where a card begins.
-- Assumes nothing.
use Prim.Native.Nat.{ℕ, ◌+◌, ◌<◌}
use native.Mathlib.Omega.{arith}
use mathlib.Core.Path.{◌≡◌, refl, ap, sym, ◌∙◌}
use mathlib.Core.Bool.{Bool, false}
use mathlib.Core.List.{List}
use lib.ListN.{length, get_or, replicate, length-set, length-replicate}
use Rattle.std.proofs.lemmas.List.{get_or-replicate}
use lib.Seq.{get_or-set_same, get_or-set_other}
use Rattle.block.specs.declared.walker.Item.{Item}
use Rattle.card_reader.specs.Lists.{Lent, none_kept, IsKept, BeginsAlike}
use Rattle.card_reader.specs.Storing.{kept_of, Stored, Begun}
use Rattle.card_reader.specs.declared.Kept.{Kept}
use Rattle.card_reader.specs.declared.KeptEntry.{KeptEntry}
use Rattle.card_reader.specs.declared.TextReading.{TextReading}

module _ (e : ℕ) (x : Item) (h : TextReading) (before after : Kept) (st : Stored e x h before after) (lent : Lent before) where
  pub stored_head : x.tag < 32 → get_or after.last x.tag 0 ≡ e + 1
  stored_head low = ap (λ (l : List ℕ). get_or l x.tag 0) st.last_is ∙ get_or-set_same before.last x.tag (e + 1) 0 (omega (arith, low, lent.last_size))

  pub stored_heads : (j : ℕ) → (j ≡ x.tag → ⊥) → get_or after.last j 0 ≡ get_or before.last j 0
  stored_heads j n = ap (λ (l : List ℕ). get_or l j 0) st.last_is ∙ get_or-set_other before.last x.tag j (e + 1) 0 n

  pub stored_entry : e < 64 → get_or after.entries e none_kept ≡ kept_of (get_or before.last x.tag 0) x h
  stored_entry few = ap (λ (l : List KeptEntry). get_or l e none_kept) st.entries_are ∙ get_or-set_same before.entries e (kept_of (get_or before.last x.tag 0) x h) none_kept (omega (arith, few, lent.size))

  pub stored_others : (k : ℕ) → (k ≡ e → ⊥) → get_or after.entries k none_kept ≡ get_or before.entries k none_kept
  stored_others k n = ap (λ (l : List KeptEntry). get_or l k none_kept) st.entries_are ∙ get_or-set_other before.entries e k (kept_of (get_or before.last x.tag 0) x h) none_kept n

  pub stored_kept : (j : ℕ) → IsKept after j → IsKept before j
  stored_kept j y = sym (ap (λ (l : List Bool). get_or l j false) st.asked_are) ∙ y

  pub stored_lent : Lent after
  stored_lent =
      record {
        kind_size = ap (λ (l : List ℕ). length l) st.kinds_are ∙ lent.kind_size;
        asked_size = ap (λ (l : List Bool). length l) st.asked_are ∙ lent.asked_size;
        last_size = ap (λ (l : List ℕ). length l) st.last_is ∙ length-set before.last x.tag (e + 1) ∙ lent.last_size;
        size = ap (λ (l : List KeptEntry). length l) st.entries_are ∙ length-set before.entries e (kept_of (get_or before.last x.tag 0) x h) ∙ lent.size;
      }

  pub stored_begins : BeginsAlike before after
  stored_begins = record { kinds_are = st.kinds_are; asked_are = st.asked_are }

-- ---- how a card begins

pub begun_is : (before : Kept) → Begun before (record before { last = replicate 32 0 })
begun_is before = record { kinds_are = refl; asked_are = refl; entries_are = refl; last_size = length-replicate {A = ℕ} 32 0; front = λ i z. get_or-replicate {A = ℕ} 32 i 0 0 z }

pub begun_lent : (before after : Kept) → Lent before → Begun before after → Lent after
begun_lent before after w b =
    record {
      kind_size = ap (λ (l : List ℕ). length l) b.kinds_are ∙ w.kind_size;
      asked_size = ap (λ (l : List Bool). length l) b.asked_are ∙ w.asked_size;
      last_size = b.last_size;
      size = ap (λ (l : List KeptEntry). length l) b.entries_are ∙ w.size;
    }
