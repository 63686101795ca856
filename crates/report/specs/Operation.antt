-- The report over lists of bytes, as functions that compute: refusals in the order of the table, those of select without 30, and 31 last.
-- Assumes nothing.
use Rattle.std.specs.Prelude.{ℕ, suc, Bool, cond, not, List, [], ◌∷◌, ◌++◌, map, leb, length, drop, Result, Ok, Err}
use Rattle.card.specs.Card.{Entry}
use Rattle.judge.specs.Verdicts.{filter_says}
use Rattle.refusal.specs.Answers.{Answer, counts, refusal_answer}
use Rattle.refusal.specs.Steps.{Step, found, stop, ◌>>=◌, answer}
use Rattle.answer.specs.Operations.{Inputs, accept_inputs, Card, accept_run, accept_cards}
use Rattle.report.specs.Tallies.{tallies}
use Rattle.report.specs.declared.Tally.{Tally}
use Rattle.report.specs.declared.Verdicts.{Verdicts}
use Rattle.refusal.specs.declared.Refusal.{Refusal}

-- the answer of the papers that each case of the code's enum gives
unfoldable pub reported_answer : Result Verdicts Refusal → Answer
reported_answer (Ok v) = counts v.yes v.no
reported_answer (Err r) = refusal_answer r

-- a sheet and a filter that check passes, and a run of cards that conform
pub record Survey : Type 0 where
  pub inputs : Inputs
  pub cards : List Card

unfoldable pub survey : (sheet text cards : List ℕ) → Step Survey
survey sheet text cards = do
  p ← accept_inputs sheet text
  bs ← accept_run cards
  cs ← accept_cards p.parameters 0 bs
  found (record { inputs = p; cards = cs })

-- how many rows there are: "one per parameter"
abbrev pub row_count : Survey → ℕ
row_count s = length s.inputs.parameters

-- 31: "when the rows are fewer than the parameters, place the number needed"
unfoldable pub accept_rows : ℕ → Survey → Step Survey
accept_rows room s = cond (leb (row_count s) room) (found s) (stop 31 (row_count s))

-- what the filter says of a card
abbrev pub says : Inputs → Card → Bool
says p c = filter_says p.parameters 0 c.entries p.filter

-- on how many cards a test passes
unfoldable pub saying : (Card → Bool) → List Card → ℕ
saying test [] = 0
saying test (c ∷ cs) = cond (test c) (suc (saying test cs)) (saying test cs)

-- "how many say yes, how many say no"
abbrev pub verdicts : Survey → Answer
verdicts s = counts (saying (says s.inputs) s.cards) (saying (λ c. not (says s.inputs c)) s.cards)

unfoldable pub reporting : (sheet text cards : List ℕ) → (room : ℕ) → Step Survey
reporting sheet text cards room = do
  s ← survey sheet text cards
  accept_rows room s

unfoldable pub report_answer : (sheet text cards : List ℕ) → (room : ℕ) → Answer
report_answer sheet text cards room = answer (do
  s ← reporting sheet text cards room
  found (verdicts s))

-- the entries of each card
abbrev pub entries_in : Survey → List (List Entry)
entries_in s = map (λ (c : Card). c.entries) s.cards

-- the rows after a report: "written afresh; rows beyond stay"; on a refusal all of them
abbrev pub tallied : Step Survey → List Tally → List Tally
tallied (found s) rows = tallies (entries_in s) 0 (row_count s) ++ drop (row_count s) rows
tallied (stop n p) rows = rows

unfoldable pub report_rows : (sheet text cards : List ℕ) → List Tally → List Tally
report_rows sheet text cards rows = tallied (reporting sheet text cards (length rows)) rows
