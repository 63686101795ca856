-- What one store makes of what is kept.
-- Assumes nothing.
use Rattle.std.specs.Prelude.{ℕ, ◌+◌, ◌≤◌, ◌<◌, ◌≡◌, Bool, true, false, List, length, get_or, set}
use Rattle.base.specs.Parts.{part}
use Rattle.block.specs.Walking.{made}
use Rattle.card.specs.Card.{Entry, entry}
use Rattle.block.specs.declared.walker.Item.{Item}
use Rattle.kind.specs.Readable.{card_readable}
use Rattle.card_reader.specs.Readings.{Serves}
use Rattle.card_reader.specs.Lists.{Lent, no_entry, HoldsTo, BeginsAlike}
use Rattle.card_reader.specs.declared.Kept.{Kept}
use Rattle.card_reader.specs.declared.KeptEntry.{KeptEntry}
use Rattle.card_reader.specs.declared.TextReading.{TextReading}

-- what is kept of an item before b, with what its text reads to
abbrev pub kept_of : ℕ → Item → TextReading → KeptEntry
kept_of b x h = record { behind = b; occurrence = x.mark; start = x.start; end = x.start + length x.text.now; reading = h }

-- an item is kept as the entry e, before the others under its parameter
pub record Stored (e : ℕ) (x : Item) (h : TextReading) (before after : Kept) : Type 0 where
  pub kinds_are : after.kinds ≡ before.kinds
  pub asked_are : after.asked ≡ before.asked
  pub last_is : after.last ≡ set before.last x.tag (e + 1)
  pub entries_are : after.entries ≡ set before.entries e (kept_of (get_or before.last x.tag 0) x h)

-- no parameter has an entry, and all else is as it was
pub record Begun (before after : Kept) : Type 0 where
  pub kinds_are : after.kinds ≡ before.kinds
  pub asked_are : after.asked ≡ before.asked
  pub entries_are : after.entries ≡ before.entries
  pub last_size : length after.last ≡ 32
  pub front : (i : ℕ) → i < 32 → get_or after.last i 0 ≡ 0

-- an item whose text is readable as a kind is kept as the entry e with what it reads to; of any other nothing is
pub record TakesAs (kind e : ℕ) (x : Item) (before after : Kept) (r : Bool) : Type 0 where
  pub answer : r ≡ card_readable kind x.text.now
  pub stored : r ≡ true → (h : TextReading) × (Serves x.text.now h × Stored e x h before after)
  pub stays : r ≡ false → after ≡ before

-- the text of an entry is read, and where it is readable one entry more is kept
pub record Takes (kinds : List ℕ) (e : ℕ) (x : Item) (before after : Kept) (r : Bool) : Type 0 where
  pub answer : r ≡ card_readable (get_or kinds x.tag 0) x.text.now
  pub lent : Lent after
  pub begins : BeginsAlike before after
  pub adds : r ≡ true → (card : List ℕ) (es : List Entry) → HoldsTo card es before e → get_or es e no_entry ≡ made entry x
      → x.text.now ≡ part card x.start (x.start + length x.text.now) → x.start + length x.text.now ≤ length card → HoldsTo card es after (e + 1)
