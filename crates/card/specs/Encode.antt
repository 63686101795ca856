-- Cards, as they are written: which there are, and their bytes.
-- Assumes nothing.
use Rattle.std.specs.Prelude.{ℕ, ◌^◌, ◌≤◌, ◌<◌, ◌≡◌, Bool, false, cond, List, ◌∷◌, ◌++◌, length, get_or, Ok}
use Rattle.base.specs.Bytes.{Byte, Bytes}
use Rattle.base.specs.Lists.{All}
use Rattle.block.specs.Words.{word_bytes}
use Rattle.block.specs.Seal.{seal}
use Rattle.block.specs.Items.{marks, join}
use Rattle.card.specs.Card.{Entry, record_number, entries_of, read_card}

-- the first byte of a card without occurrences, and of one with them (02)
abbrev pub card_first : Bool → ℕ
card_first marked = cond marked 0x44 0x43

-- the parameter's index, on a card with occurrences the occurrence, the length of the text, and the text
unfoldable pub entry_bytes : Bool → Entry → List ℕ
entry_bytes marked e = e.index ∷ (marks marked e.occurrence ++ (length e.text ∷ e.text))

-- what stands before the padding: the first byte, the record number, the number of entries, the entries
unfoldable pub card_body : Bool → ℕ → List Entry → List ℕ
card_body marked number entries = card_first marked ∷ (word_bytes number ++ (length entries ∷ join (entry_bytes marked) entries))

-- the 512 bytes of a card
unfoldable pub encode_card : Bool → ℕ → List Entry → List ℕ
encode_card marked number entries = seal (card_body marked number entries)

-- an entry that can be written; without occurrences on the card its occurrence is 0
pub record WellFormedEntry (marked : Bool) (e : Entry) : Type 0 where
  pub index : Byte e.index
  pub occurrence : Byte e.occurrence
  pub plain : marked ≡ false → e.occurrence ≡ 0
  pub size : length e.text ≤ 255
  pub text : Bytes e.text

-- a card that can be written: 0 to 64 entries that end at or before byte 507
pub record WellFormedCard (marked : Bool) (n : ℕ) (es : List Entry) : Type 0 where
  pub number : n < 2 ^ 32
  pub count : length es ≤ 64
  pub entries : All (WellFormedEntry marked) es
  pub room : length (card_body marked n es) ≤ 508

-- the bytes are those of a card that can be written (01: a sound card)
pub record CardBlock (b : List ℕ) : Type 0 where
  pub marked : Bool
  pub number : ℕ
  pub entries : List Entry
  pub well_formed : WellFormedCard marked number entries
  pub encoded : b ≡ encode_card marked number entries

-- the bytes read as a card with or without occurrences, with the number n and the entries es
pub record ReadsAsCard (b : List ℕ) (marked : Bool) (n : ℕ) (es : List Entry) : Type 0 where
  pub first : get_or b 0 0 ≡ card_first marked
  pub bytes : Bytes b
  pub reading : read_card b ≡ (Ok tt)
  pub number : record_number b ≡ n
  pub entries : entries_of b ≡ es
