-- What the parts of select answer: the record numbers of a run of cards, and the list's cells.
-- Assumes nothing.
use Rattle.std.specs.Prelude.{ℕ, suc, ◌/◌, ◌≤◌, ◌≡◌, cond, List, [], ◌∷◌, length, take, Err, Ok, Result}
use Rattle.card.specs.Card.{record_number}
use Rattle.refusal.specs.Answers.{number_of, counted_answer}
use Rattle.refusal.specs.Steps.{Step, found, stop, ◌>>=◌}
use Rattle.answer.specs.Operations.{Question, blocks, select_by, cells_by}
use Rattle.answer.specs.Passing.{card_verdict}
use Rattle.refusal.specs.declared.Refusal.{Refusal}

-- the record numbers of the cards of which yes is said, or the first refusal; i is the index of the first card
unfoldable pub run_numbers : Question → ℕ → List (List ℕ) → Step (List ℕ)
run_numbers q i [] = found []
run_numbers q i (b ∷ bs) = do
  y ← card_verdict q i b
  ns ← run_numbers q (suc i) bs
  found (cond y (record_number b ∷ ns) ns)

-- what each case of the code's answer states of the numbers gathered in its buffer
abbrev pub gathered_step : Result ℕ Refusal → List ℕ → Step (List ℕ)
gathered_step (Ok n) buffer = found (take n buffer)
gathered_step (Err r) buffer = stop (number_of r.reason) r.place

-- what gathering does: the numbers of the cards stand in the buffer from its first cell on
pub record Gathers (q : Question) (cards : List ℕ) (r : Result ℕ Refusal) (buffer : List ℕ) : Type 0 where
  pub numbers : gathered_step r buffer ≡ run_numbers q 0 (blocks (length cards / 512) cards)
  pub room : (n : ℕ) → r ≡ Ok n → n ≤ length buffer

-- what select does: the answer, and every cell of the list at exit
pub record Selects (asked : Step Question) (cards list : List ℕ) (r : Result ℕ Refusal) (exit : List ℕ) : Type 0 where
  pub answers : counted_answer r ≡ select_by asked cards (length list)
  pub cells : exit ≡ cells_by asked cards list
