-- Cards, as they are read: 01's rules, in its order.
-- Assumes nothing.
use Rattle.std.specs.Prelude.{ℕ, List, get_or, Result, ⊤}
use Rattle.block.specs.Words.{word}
use Rattle.block.specs.Seal.{check}
use Rattle.block.specs.Items.{has_either, items}
use Rattle.block.specs.Readings.{reading}
use Rattle.block.specs.declared.Flaw.{Flaw}

-- an entry: the index of its parameter on the sheet (01: place), the number of its occurrence, and the text
pub record Entry : Type 0 where
  pub index : ℕ
  pub occurrence : ℕ
  pub text : List ℕ

-- an entry by its index, occurrence and text
abbrev pub entry : ℕ → ℕ → List ℕ → Entry
entry i o t = record { index = i; occurrence = o; text = t }

-- "bytes 1 to 4 the record number, low byte first"
unfoldable pub record_number : List ℕ → ℕ
record_number b = word b 1

-- "byte 5 the number of entries"
unfoldable pub entry_count : List ℕ → ℕ
entry_count b = get_or b 5 0

-- "from byte 6, for each: parameter place on the sheet (from 0), length 0 to 255, text"; 02: "an occurrence number, a byte between
-- the place and the length", where byte 0 is 0x44, and 0 where it is 0x43
unfoldable pub entries_of : List ℕ → List Entry
entries_of b = items entry (entry_count b) b 6

-- what the bytes are, as a card: "byte 0 is 0x43" or 0x44, and byte 5 says that 0 to 64 entries follow it
unfoldable pub read_card : List ℕ → Result ⊤ Flaw
read_card b = reading (check b) (has_either 0x43 0x44 5 64 b)
