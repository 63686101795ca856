-- Document 02's lines of refusal for prepare and judge, beside those of document 01's table, and what each answers where none holds.
-- Assumes nothing.
use Rattle.std.specs.Prelude.{ℕ, ◌<◌, ◌≡◌, ◌⊎◌, List, ◌++◌, length, take, drop}
use Rattle.sheet.specs.Sheet.{Parameter}
use Rattle.sheet.specs.Encode.{SheetBlock}
use Rattle.syntax.specs.Tree.{Tree, erase}
use Rattle.syntax.specs.Grammar.{Spells}
use Rattle.rows.specs.Good.{Good}
use Rattle.rows.specs.Stated.{tree_of}
use Rattle.refusal.specs.Answers.{count, refused}
use Rattle.answer.specs.Operations.{match_answer}
use Rattle.answer.specs.Preparing.{row_cells, prepare_answer, prepare_cells, judge_answer}
use Rattle.answer.specs.Refusals.{SheetLine, CheckLine, OneCardLine}

-- ---- prepare, into a list of `room` cells

-- the line about the list
pub data CellsLine (sheet text : List ℕ) (room : ℕ) : ℕ → ℕ → Type 0 where
  -- 34 "when the list is too short", at "the cells needed"
  line_34 : (s : SheetBlock sheet) {f : Tree} → Spells text f → room < length (row_cells s.parameters text f)
      → CellsLine sheet text room 34 (length (row_cells s.parameters text f))

-- "prepare as check, then 34"
abbrev pub PrepareLine : (sheet text : List ℕ) → (room : ℕ) → ℕ → ℕ → Type 0
PrepareLine sheet text room n p = CheckLine sheet text n p ⊎ CellsLine sheet text room n p

-- ---- judge

-- "filter is empty or over 1,024 bytes", whatever else the text is
pub data SizeLine (text : List ℕ) : ℕ → ℕ → Type 0 where
  line_10_judge : (length text ≡ 0) ⊎ (1024 < length text) → SizeLine text 10 0

-- 40 "exactly when the rows are not good"
pub data RowsLine (sheet text cells : List ℕ) : ℕ → ℕ → Type 0 where
  line_40 : (s : SheetBlock sheet) → (Good s.parameters text cells → ⊥) → RowsLine sheet text cells 40 0

-- "judge, in this order, 1 to 3, 10, 40 .., 20 to 23"
abbrev pub JudgeLine : (sheet text cells card : List ℕ) → ℕ → ℕ → Type 0
JudgeLine sheet text cells card n p = SheetLine sheet n p ⊎ (SizeLine text n p ⊎ (RowsLine sheet text cells n p ⊎ OneCardLine sheet card n p))

-- ---- what prepare answers where no line holds: the cells of the filter's rows, written before what the list held

pub record PrepareAnswers (sheet text list : List ℕ) (ps : List Parameter) (f : Tree) : Type 0 where
  pub counts : prepare_answer sheet text (length list) ≡ count (length (row_cells ps text f))
  pub writes : prepare_cells sheet text list ≡ row_cells ps text f ++ drop (length (row_cells ps text f)) list

-- the n cells that prepare has filled are good rows, and state the filter: the same tests, joined, negated and bracketed the same
pub record PreparesGood (sheet text list : List ℕ) (ps : List Parameter) (f : Tree) (n : ℕ) : Type 0 where
  pub rows : Good ps text (take n (prepare_cells sheet text list))
  pub states : erase (tree_of ps text rows.expression) ≡ erase f

-- "match stays as the two after each other": with a list that is long enough, what prepare refuses match refuses alike, and else match is
-- judge on the rows that prepare has written
pub record MatchIs (sheet text card list : List ℕ) : Type 0 where
  pub refused_alike : (n p : ℕ) → prepare_answer sheet text (length list) ≡ refused n p → match_answer sheet text card ≡ refused n p
  pub judged : (n : ℕ) → prepare_answer sheet text (length list) ≡ count n → match_answer sheet text card ≡ judge_answer sheet text (take n (prepare_cells sheet text list)) card
