-- One card under a sheet: what the cases of the code's answers state of it, and what rows ask of it.
-- Assumes nothing.
use Rattle.std.specs.Prelude.{ℕ, ◌≡◌, Bool, List, Err, Ok, Result}
use Rattle.sheet.specs.Sheet.{Parameter}
use Rattle.sheet.specs.Find.{kinds_of}
use Rattle.card.specs.Card.{record_number, entries_of, read_card}
use Rattle.card_reader.specs.Lists.{KeepsCard, BeginsAlike}
use Rattle.card_reader.specs.declared.Kept.{Kept}
use Rattle.row_judge.specs.Saying.{rows_say}
use Rattle.refusal.specs.Answers.{Answer, yes_or_no, number_of}
use Rattle.refusal.specs.Steps.{Step, found, stop, ◌>>=◌, answer}
use Rattle.answer.specs.Operations.{Card, accept_card, Question}
use Rattle.refusal.specs.declared.Reason.{Reason}

-- ---- it is accepted

-- what each case of the code's answer states of the card with the index i
abbrev pub acceptance_step : Result (List ℕ) Reason → ℕ → Step Card
acceptance_step (Ok b) i = found (record { number = record_number b; entries = entries_of b })
acceptance_step (Err r) i = stop (number_of r) i

-- what reading a card's bytes answers: the card itself, which is well formed, or the refusal of what is wrong with them
pub record ReadsBytes (card : List ℕ) (r : Result (List ℕ) Reason) : Type 0 where
  pub same : (b : List ℕ) → r ≡ Ok b → (b ≡ card) × (read_card card ≡ (Ok tt))
  pub refused : (x : Reason) → r ≡ Err x → (ps : List Parameter) (i : ℕ) → stop (number_of x) i ≡ accept_card ps i card

-- what accepting a card answers, by the kinds of the sheet: the card itself, which is well formed, or why it is refused
pub record AcceptsCard (kinds card : List ℕ) (r : Result (List ℕ) Reason) : Type 0 where
  pub same : (b : List ℕ) → r ≡ Ok b → b ≡ card
  pub well_formed : (b : List ℕ) → r ≡ Ok b → read_card card ≡ (Ok tt)
  pub steps : (ps : List Parameter) → kinds ≡ kinds_of ps → (i : ℕ) → acceptance_step r i ≡ accept_card ps i card

-- the same, with what is kept of a card that is accepted
pub record TakesCard (kinds card : List ℕ) (before kept : Kept) (r : Result (List ℕ) Reason) : Type 0 where
  pub accepts : AcceptsCard kinds card r
  pub begins : BeginsAlike before kept
  pub keeps : (b : List ℕ) → r ≡ Ok b → KeepsCard card kept

-- ---- and judged

-- what each case of the code's verdict states of the card with the index i
abbrev pub verdict_step : Result Bool Reason → ℕ → Step Bool
verdict_step (Ok b) i = found b
verdict_step (Err r) i = stop (number_of r) i

-- the answer of match that a verdict makes
unfoldable pub verdict_answer : Result Bool Reason → Answer
verdict_answer v = answer (verdict_step v 0 >>= λ y. found (yes_or_no y))

-- what rows ask over a text
abbrev pub cells_question : List Parameter → List ℕ → List ℕ → Question
cells_question ps text cells = record { parameters = ps; says = λ es. rows_say (kinds_of ps) text es cells }
