-- Explain over lists of bytes, as functions that compute: refusals in the order of the table, those of match, and 33 last.
-- Assumes nothing.
use Rattle.std.specs.Prelude.{ℕ, Bool, cond, List, leb, length}
use Rattle.judge.specs.Verdicts.{filter_says}
use Rattle.refusal.specs.Answers.{Answer, yes_or_no}
use Rattle.refusal.specs.Steps.{Step, found, stop, ◌>>=◌, answer}
use Rattle.answer.specs.Operations.{Inputs, accept_inputs, Card, accept_card, written}
use Rattle.deciding.specs.Deciding.{outer_count}
use Rattle.deciding.specs.Marks.{explanation}

-- what the filter says of the card, and the cells of its tests
pub record Explanation : Type 0 where
  pub verdict : Bool
  pub cells : List ℕ

abbrev pub explanation_of : Inputs → Card → Explanation
explanation_of p c =
    record { verdict = filter_says p.parameters 0 c.entries p.filter; cells = explanation (filter_says p.parameters 0 c.entries) p.filter }

-- 33: "when the list has fewer cells than tests, place the number of tests"
unfoldable pub accept_marks : (room tests : ℕ) → Explanation → Step Explanation
accept_marks room tests x = cond (leb tests room) (found x) (stop 33 tests)

unfoldable pub explaining : (sheet text card : List ℕ) → (room : ℕ) → Step Explanation
explaining sheet text card room = do
  p ← accept_inputs sheet text
  c ← accept_card p.parameters 0 card
  accept_marks room (outer_count p.filter) (explanation_of p c)

-- "the answer also gives the verdict": a yes or a no, as match
unfoldable pub explain_answer : (sheet text card : List ℕ) → (room : ℕ) → Answer
explain_answer sheet text card room = answer (do
  x ← explaining sheet text card room
  found (yes_or_no x.verdict))

-- the list after it: "one cell per test .. later cells stay"; on a refusal all of them
unfoldable pub explain_cells : (sheet text card : List ℕ) → (list : List ℕ) → List ℕ
explain_cells sheet text card list = written (explaining sheet text card (length list) >>= λ x. found x.cells) list
