-- Document 01's table of refusals: when each line holds, and at which place.
-- Assumes nothing.
use Rattle.std.specs.Prelude.{ℕ, ◌+◌, ◌<◌, ◌≡◌, ◌⊎◌, length}
use mathlib.Core.List.{List, Memᴰ}
use Rattle.base.specs.Lists.{Listed}
use Rattle.block.specs.Words.{word}
use Rattle.block.specs.Sum.{check_sum}
use Rattle.sheet.specs.Encode.{SheetBlock}
use Rattle.card.specs.Card.{Entry}
use Rattle.card.specs.Encode.{CardBlock}
use Rattle.syntax.specs.Tree.{Test, Tree, tests_of}
use Rattle.syntax.specs.Grammar.{deepest, most_tests, Spells}
use Rattle.plain.specs.Plain.{plain}
use Rattle.place.specs.Begins.{Begins, Longest, Number}
use Rattle.judge.specs.Rules.{Conforms}
use Rattle.refusal.specs.Answers.{Answer}
use Rattle.answer.specs.Operations.{match_answer}
use Rattle.answer.specs.Numbers.{TestLine}
use Rattle.answer.specs.Selection.{Run, matching_cards}

-- ---- check

-- the lines about the sheet
pub data SheetLine (sheet : List ℕ) : ℕ → ℕ → Type 0 where
  -- "sheet is not 512 bytes"
  line_1 : (length sheet ≡ 512 → ⊥) → SheetLine sheet 1 0
  -- "sheet's check sum is wrong": that of its first 508 bytes is not the number in the last four
  line_2 : (check_sum sheet ≡ word sheet 508 → ⊥) → SheetLine sheet 2 0
  -- "sheet breaks its layout or names": no well-formed sheet has these bytes
  line_3 : (SheetBlock sheet → ⊥) → SheetLine sheet 3 0

-- about the text
pub data TextLine (text : List ℕ) : ℕ → ℕ → Type 0 where
  -- "filter is empty or over 1,024 bytes"
  line_10 : (length text ≡ 0) ⊎ (1024 < length text) → TextLine text 10 0
  -- "text is no filter by the grammar": it spells no tree; 02: 11, 12 or 13, at "the length of the longest beginning of the text
  -- that also begins some filter within both limits"
  line_11 : {n p : ℕ} → ((f : Tree) → Spells text f → ⊥) → Longest (Begins deepest most_tests) text p → Number deepest most_tests text p n → TextLine text n p

-- about its tests
pub data TestsLine (sheet text : List ℕ) : ℕ → ℕ → Type 0 where
  -- 14 to 18, at the "first byte of the test"
  line_of_test : (s : SheetBlock sheet) {f : Tree} {t : Test} {n : ℕ} → Spells text f → Memᴰ t (tests_of f) → TestLine s.parameters t n
      → TestsLine sheet text n t.at

-- every line of check's table
abbrev pub CheckLine : (sheet text : List ℕ) → ℕ → ℕ → Type 0
CheckLine sheet text n p = SheetLine sheet n p ⊎ (TextLine text n p ⊎ TestsLine sheet text n p)

-- ---- match

-- the lines about a card of 512 bytes
pub data CardLine (sheet card : List ℕ) : ℕ → Type 0 where
  -- "card's check sum is wrong"
  line_21 : (check_sum card ≡ word card 508 → ⊥) → CardLine sheet card 21
  -- "card breaks its layout": no well-formed card has these bytes
  line_22 : (CardBlock card → ⊥) → CardLine sheet card 22
  -- "card is sound but doesn't fit"
  line_23 : (s : SheetBlock sheet) → CardBlock card → ((es : List Entry) → Conforms s.parameters card es → ⊥) → CardLine sheet card 23

-- about the card that match is given
pub data OneCardLine (sheet card : List ℕ) : ℕ → ℕ → Type 0 where
  -- "match: card is not 512 bytes"
  line_20_match : (length card ≡ 512 → ⊥) → OneCardLine sheet card 20 0
  line_of_card : {n : ℕ} → CardLine sheet card n → OneCardLine sheet card n 0

-- every line of match's table: check's, and those of its card
abbrev pub MatchLine : (sheet text card : List ℕ) → ℕ → ℕ → Type 0
MatchLine sheet text card n p = CheckLine sheet text n p ⊎ OneCardLine sheet card n p

-- ---- select, into a list of `room` cells

-- the lines about the run
pub data RunLine (cards : List ℕ) : ℕ → ℕ → Type 0 where
  -- "select: no whole number of blocks, or over 128"
  line_20_select : ((bs : List (List ℕ)) → Run cards bs → ⊥) → RunLine cards 20 0

-- about its cards
pub data CardsLine (sheet cards : List ℕ) : ℕ → ℕ → Type 0 where
  -- 21 to 23, at the "card's index"
  line_of_card_at : {bs : List (List ℕ)} {n i : ℕ} {b : List ℕ} → Run cards bs → Listed bs i b → CardLine sheet b n → CardsLine sheet cards n i

-- about the list
pub data RoomLine (match : List ℕ → Answer) (cards : List ℕ) (room : ℕ) : ℕ → ℕ → Type 0 where
  -- "list shorter than the matches", at the "number of matches"
  line_30 : {bs : List (List ℕ)} → Run cards bs → room < length (matching_cards match bs)
      → RoomLine match cards room 30 (length (matching_cards match bs))

-- every line of select's table: check's, those of the run and its cards, and 30
abbrev pub SelectLine : (sheet text cards : List ℕ) → (room : ℕ) → ℕ → ℕ → Type 0
SelectLine sheet text cards room n p =
    CheckLine sheet text n p ⊎ (RunLine cards n p ⊎ (CardsLine sheet cards n p ⊎ RoomLine (match_answer sheet text) cards room n p))

-- ---- spell, into a buffer of `room` bytes from the place `from` on

-- about the buffer
pub data BufferLine (text : List ℕ) (from room : ℕ) : ℕ → ℕ → Type 0 where
  -- 02: "when it would run past the buffer's end, place its length"
  line_32 : {f : Tree} → Spells text f → room < from + length (plain f) → BufferLine text from room 32 (length (plain f))

-- every line of spell's table
abbrev pub SpellLine : (text : List ℕ) → (from room : ℕ) → ℕ → ℕ → Type 0
SpellLine text from room n p = TextLine text n p ⊎ BufferLine text from room n p
