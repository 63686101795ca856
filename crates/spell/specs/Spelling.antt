-- Spelling a text into a buffer from a place on, as a function that computes: the answer, and every byte of the buffer.
-- Assumes nothing.
use Rattle.std.specs.Prelude.{ℕ, ◌+◌, ◌≡◌, cond, ◌||◌, List, ◌++◌, eqb, leb, ltb, length, take, drop, Err, Ok, Result}
use Rattle.std.proofs.Math.Option.{Option, none, some}
use Rattle.syntax.specs.Tree.{Tree}
use Rattle.syntax.specs.Grammar.{deepest, most_tests}
use Rattle.syntax.specs.Reader.{read}
use Rattle.refusal.specs.declared.Reason.{Reason}
use Rattle.place.specs.Machine.{failure}
use Rattle.plain.specs.Plain.{plain}
use Rattle.base.specs.Writing.{Room, Puts}
use Rattle.refusal.specs.declared.Refusal.{Refusal}

-- the text's length is the answer, unless it "would run past the buffer's end"
unfoldable pub placed : List ℕ → (from room : ℕ) → Result ℕ Refusal
placed w from room = cond (leb (from + length w) room) (Ok (length w)) (Err (record { reason = Reason.ShortBuffer; place = length w }))

abbrev pub wrong_size : Result ℕ Refusal
wrong_size = Err (record { reason = Reason.FilterSize; place = 0 })

abbrev pub tree_outcome : List ℕ → (from room : ℕ) → Option Tree → Result ℕ Refusal
tree_outcome text from room (some f) = placed (plain f) from room
tree_outcome text from room none = Err (failure deepest most_tests text)

unfoldable pub outcome : List ℕ → (from room : ℕ) → Result ℕ Refusal
outcome text from room = cond (eqb (length text) 0 || ltb 1024 (length text)) wrong_size (tree_outcome text from room (read text))

-- "the text is put into the buffer from the place the caller names, .. and all other bytes stay"; "buffer as given" where it has no room
unfoldable pub put : List ℕ → ℕ → List ℕ → List ℕ
put w from buffer = cond (leb (from + length w) (length buffer)) (take from buffer ++ (w ++ drop (from + length w) buffer)) buffer

abbrev pub tree_bytes : ℕ → List ℕ → Option Tree → List ℕ
tree_bytes from buffer (some f) = put (plain f) from buffer
tree_bytes from buffer none = buffer

unfoldable pub bytes : List ℕ → ℕ → List ℕ → List ℕ
bytes text from buffer = cond (eqb (length text) 0 || ltb 1024 (length text)) buffer (tree_bytes from buffer (read text))

-- what spelling does on every input
pub record SpellsInto (text buffer : List ℕ) (from : ℕ) (r : Result ℕ Refusal) (exit : List ℕ) : Type 0 where
  pub answers : r ≡ outcome text from (length buffer)
  pub bytes_are : exit ≡ bytes text from buffer

-- ---- the parts, for a text that is a filter

pub record IsFilter (text : List ℕ) : Type 0 where
  pub tree : Tree
  pub reads : read text ≡ some tree

pub record TextRoom (text part : List ℕ) : Type 0 where
  pub tree : Tree
  pub reads : read text ≡ some tree
  pub room : Room (plain tree) part

pub record TextSpelt (text part exit : List ℕ) (count : ℕ) : Type 0 where
  pub tree : Tree
  pub reads : read text ≡ some tree
  pub puts : Puts (plain tree) part exit count

pub record TextLength (text : List ℕ) (count : ℕ) : Type 0 where
  pub tree : Tree
  pub reads : read text ≡ some tree
  pub long : count ≡ length (plain tree)

-- placed into the buffer
pub record PlacedInto (text buffer : List ℕ) (from : ℕ) (r : Result ℕ Refusal) (exit : List ℕ) : Type 0 where
  pub tree : Tree
  pub reads : read text ≡ some tree
  pub answers : r ≡ placed (plain tree) from (length buffer)
  pub bytes_are : exit ≡ put (plain tree) from buffer
