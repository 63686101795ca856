-- What a report has to do with match on each card of the run, and its rows in 02's words.
-- Assumes nothing.
use Rattle.std.specs.Prelude.{ℕ, ◌+◌, ◌≤◌, ◌<◌, ◌≡◌, refl, length, drop, get_or}
use Rattle.std.proofs.Common.{arith}
use mathlib.Core.List.{List, [], ◌∷◌, ◌++◌, map, filter, flatten}
use Rattle.sheet.specs.Sheet.{Parameter}
use Rattle.card.specs.Card.{entries_of}
use Rattle.judge.specs.Sets.{values_at}
use Rattle.refusal.specs.Answers.{Answer, count, counts, refused}
use Rattle.answer.specs.Operations.{match_answer}
use Rattle.answer.specs.Selection.{matching_cards, RefusesCard}
use Rattle.report.specs.Tallies.{tally, tallies}
use Rattle.report.specs.Operation.{report_answer, report_rows}
use Rattle.report.specs.declared.Tally.{Tally}

-- whether the answer is no
unfoldable pub is_no : (a : Answer) → Dec (a ≡ Answer.no)
is_no Answer.no = yes refl
is_no Answer.yes = no (λ e. let z : ◌≡◌ {A = ℕ} 0 1 = cc in omega arith)
is_no (count n) = no (λ e. let z : ◌≡◌ {A = ℕ} 0 1 = cc in omega arith)
is_no (counts y n) = no (λ e. let z : ◌≡◌ {A = ℕ} 0 1 = cc in omega arith)
is_no (refused n p) = no (λ e. let z : ◌≡◌ {A = ℕ} 0 1 = cc in omega arith)

-- the cards on which match answers no
abbrev pub other_cards : (sheet text : List ℕ) → List (List ℕ) → List (List ℕ)
other_cards sheet text bs = filter (λ b. is_no (match_answer sheet text b)) bs

-- the rows of a run of cards under the parameters ps, and then what stood behind them
abbrev pub rows_of : List Parameter → List (List ℕ) → List Tally → List Tally
rows_of ps bs rows = tallies (map entries_of bs) 0 (length ps) ++ drop (length ps) rows

-- where no line of the table holds, a report answers on how many cards match answers yes, and on how many no, and writes the rows
pub record ReportAnswers (sheet text cards : List ℕ) (ps : List Parameter) (rows : List Tally) (bs : List (List ℕ)) : Type 0 where
  pub verdicts : report_answer sheet text cards (length rows) ≡ counts (length (matching_cards (match_answer sheet text) bs)) (length (other_cards sheet text bs))
  -- "yes and no .. make up the run"
  pub whole : length (matching_cards (match_answer sheet text) bs) + length (other_cards sheet text bs) ≡ length bs
  pub writes : report_rows sheet text cards rows ≡ rows_of ps bs rows

-- what a report answers, and writes into the rows, by what match answers on each card of the run
pub record ReportsByMatch (sheet text cards : List ℕ) (ps : List Parameter) (rows : List Tally) (bs : List (List ℕ)) : Type 0 where
  pub says_yes : (y n : ℕ) → report_answer sheet text cards (length rows) ≡ counts y n → y ≡ length (matching_cards (match_answer sheet text) bs)
  pub says_no : (y n : ℕ) → report_answer sheet text cards (length rows) ≡ counts y n → n ≡ length (other_cards sheet text bs)
  pub whole : (y n : ℕ) → report_answer sheet text cards (length rows) ≡ counts y n → y + n ≡ length bs
  pub writes : (y n : ℕ) → report_answer sheet text cards (length rows) ≡ counts y n → report_rows sheet text cards rows ≡ rows_of ps bs rows
  -- "for 21 to 23 the first faulty card decides"
  pub refuses : (n i : ℕ) → report_answer sheet text cards (length rows) ≡ refused n i → 21 ≤ n → n ≤ 23 → RefusesCard (match_answer sheet text) bs n i

-- ---- a row in words

-- whether there is a text
unfoldable pub is_some : (ts : List (List ℕ)) → Dec (ts ≡ [] → ⊥)
is_some [] = no (λ n. n refl)
is_some (t ∷ ts) = yes (λ e. let z : ◌≡◌ {A = ℕ} 0 1 = cc in omega arith)

-- the texts of a card under the parameter with the index i
abbrev pub texts_at : ℕ → List ℕ → List (List ℕ)
texts_at i b = values_at i (entries_of b)

-- "cards in the run that have it"
abbrev pub having : ℕ → List (List ℕ) → List (List ℕ)
having i bs = filter (λ b. is_some (texts_at i b)) bs

-- "values under it", card by card, repeats kept
abbrev pub texts_under : ℕ → List (List ℕ) → List (List ℕ)
texts_under i bs = flatten (map (texts_at i) bs)

-- the row of the parameter with the index i says how many cards have it, and how many values stand under it
pub record RowSays (i : ℕ) (bs : List (List ℕ)) (rows : List Tally) : Type 0 where
  pub there : i < length rows
  pub says : get_or rows i (tally 0 0) ≡ tally (length (having i bs)) (length (texts_under i bs))
