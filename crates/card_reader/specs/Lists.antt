-- What is kept of a card: what the texts of its entries read to, and the chains of the entries under each parameter.
-- Assumes nothing.
use Rattle.std.specs.Prelude.{ℕ, ◌+◌, ◌≤◌, ◌<◌, ◌≡◌, Bool, true, false, List, [], length, get_or, Ok}
use Rattle.base.specs.Parts.{part}
use Rattle.card.specs.Card.{Entry, entry, entries_of, entry_count, read_card}
use Rattle.judge.specs.Sets.{conforms_to}
use Rattle.card_reader.specs.Readings.{Serves}
use Rattle.card_reader.specs.declared.Kept.{Kept}
use Rattle.card_reader.specs.declared.KeptEntry.{KeptEntry}
use Rattle.card_reader.specs.declared.TextReading.{TextReading}

-- ---- the lists

-- their sizes
pub record Lent (kept : Kept) : Type 0 where
  pub kind_size : length kept.kinds ≡ 32
  pub asked_size : length kept.asked ≡ 32
  pub last_size : length kept.last ≡ 32
  pub size : length kept.entries ≡ 64

-- what is kept of an entry that is not there
abbrev pub none_kept : KeptEntry
none_kept = record { behind = 0; occurrence = 0; start = 0; end = 0; reading = TextReading.Bytes }

-- ---- the lists of a card

-- an entry that is not there
abbrev pub no_entry : Entry
no_entry = entry 0 0 []

-- of the entry x of the card it is kept
pub record Holds (card : List ℕ) (k : KeptEntry) (x : Entry) : Type 0 where
  pub occurrence : k.occurrence ≡ x.occurrence
  pub order : k.start ≤ k.end
  pub within : k.end ≤ length card
  pub text : x.text ≡ part card k.start k.end
  pub serves : Serves x.text k.reading

-- c is the last of the first n entries that stands under the parameter i, counted from 1; 0 where none does
pub record Last (es : List Entry) (i n c : ℕ) : Type 0 where
  pub within : c ≤ n
  pub under : (e : ℕ) → c ≡ e + 1 → (get_or es e no_entry).index ≡ i
  pub others : (e : ℕ) → c ≤ e → e < n → (get_or es e no_entry).index ≡ i → ⊥

-- the entries under a parameter are kept
abbrev pub IsKept : Kept → ℕ → Type 0
IsKept kept i = get_or kept.asked i false ≡ true

-- the first n entries, of parameters whose entries are kept, are there
pub record HoldsTo (card : List ℕ) (es : List Entry) (kept : Kept) (n : ℕ) : Type 0 where
  pub low : (e : ℕ) → e < n → (get_or es e no_entry).index < 32
  pub each : (e : ℕ) → e < n → IsKept kept (get_or es e no_entry).index → Holds card (get_or kept.entries e none_kept) (get_or es e no_entry)
  pub heads : (i : ℕ) → i < 32 → IsKept kept i → Last es i n (get_or kept.last i 0)
  pub behind : (e : ℕ) → e < n → IsKept kept (get_or es e no_entry).index → Last es (get_or es e no_entry).index e (get_or kept.entries e none_kept).behind

-- what is kept of a well-formed card
pub record KeepsCard (card : List ℕ) (kept : Kept) : Type 0 where
  pub well_formed : read_card card ≡ (Ok tt)
  pub lent : Lent kept
  pub holds : HoldsTo card (entries_of card) kept (entry_count card)

-- the kinds, and of which parameters entries are kept, are the same before and after
pub record BeginsAlike (before after : Kept) : Type 0 where
  pub kinds_are : after.kinds ≡ before.kinds
  pub asked_are : after.asked ≡ before.asked

-- the answer of reading a card's entries, and what is kept where it is yes
pub record ReadsCard (kinds card : List ℕ) (before kept : Kept) (r : Bool) : Type 0 where
  pub answer : r ≡ conforms_to kinds (entries_of card)
  pub lent : Lent kept
  pub begins : BeginsAlike before kept
  pub keeps : r ≡ true → KeepsCard card kept
