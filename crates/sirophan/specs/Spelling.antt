-- Spell over lists of bytes (02 [5]), as a function that computes: 10 to 13, then 32; and every byte of the buffer.
-- Assumes nothing.
use Rattle.std.specs.Prelude.{ℕ, ◌+◌, ◌≡◌, cond, List, ◌++◌, leb, length, take, drop}
use Rattle.plain.specs.Plain.{plain}
use Rattle.refusal.specs.Answers.{Answer, count}
use Rattle.refusal.specs.Steps.{Step, found, stop, ◌>>=◌, answer}
use Rattle.answer.specs.Operations.{accept_filter}

-- 32: "when it would run past the buffer's end, place its length"
unfoldable pub accept_buffer : (from room : ℕ) → List ℕ → Step (List ℕ)
accept_buffer from room w = cond (leb (from + length w) room) (found w) (stop 32 (length w))

-- the text that is written into a buffer of `room` bytes
unfoldable pub spelling : List ℕ → (from room : ℕ) → Step (List ℕ)
spelling text from room = do
  f ← accept_filter text
  accept_buffer from room (plain f)

-- "its length is the answer"
unfoldable pub spell_answer : List ℕ → (from room : ℕ) → Answer
spell_answer text from room = answer (do
  w ← spelling text from room
  found (count (length w)))

-- "put into the buffer from the place the caller names, .. and all other bytes stay"; on a refusal "buffer as given"
abbrev pub put_into : ℕ → List ℕ → Step (List ℕ) → List ℕ
put_into from buffer (found w) = take from buffer ++ (w ++ drop (from + length w) buffer)
put_into from buffer (stop n p) = buffer

unfoldable pub spell_bytes : List ℕ → ℕ → List ℕ → List ℕ
spell_bytes text from buffer = put_into from buffer (spelling text from (length buffer))

-- what spell answers where there is room
pub record SpellAnswers (w : List ℕ) (text : List ℕ) (from : ℕ) (buffer : List ℕ) : Type 0 where
  pub counts : spell_answer text from (length buffer) ≡ count (length w)
  pub writes : spell_bytes text from buffer ≡ take from buffer ++ (w ++ drop (from + length w) buffer)
