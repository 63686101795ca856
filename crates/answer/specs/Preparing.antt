-- Prepare and judge over lists of bytes and cells, as functions that compute: refusals in the order of document 02.
-- Assumes nothing.
use Rattle.std.specs.Prelude.{ℕ, ◌≤◌, ◌≡◌, cond, ◌||◌, List, leb, eqb, ltb, length, take, Err, Ok, Result}
use Rattle.std.proofs.Math.Option.{Option, none, some}
use Rattle.sheet.specs.Sheet.{Parameter}
use Rattle.sheet.specs.Find.{kinds_of, parents_of}
use Rattle.syntax.specs.Tree.{Tree, tests_of}
use Rattle.judge.specs.Verdicts.{filter_says}
use Rattle.rows.specs.Expression.{Expression}
use Rattle.rows.specs.Cells.{encode, stated}
use Rattle.rows.specs.Shapes.{good}
use Rattle.rows.specs.Stated.{tree_of}
use Rattle.row_writer.specs.Writing.{prepared}
use Rattle.refusal.specs.Answers.{Answer, yes_or_no, count, number_of, counted_answer}
use Rattle.refusal.specs.Steps.{Step, found, stop, ◌>>=◌, answer}
use Rattle.answer.specs.Operations.{accept_sheet, accept_filter, tests_step, accept_inputs, accept_card, written}
use Rattle.refusal.specs.declared.Refusal.{Refusal}

-- ---- prepare, into a list of `room` cells

-- the cells of a filter's rows on a sheet
abbrev pub row_cells : List Parameter → List ℕ → Tree → List ℕ
row_cells ps text f = encode (prepared ps text 0 f)

-- 34: "when the list is too short, place the cells needed"
unfoldable pub accept_cells : ℕ → List ℕ → Step (List ℕ)
accept_cells room cs = cond (leb (length cs) room) (found cs) (stop 34 (length cs))

unfoldable pub preparation : List ℕ → List ℕ → ℕ → Step (List ℕ)
preparation sheet text room = do
  p ← accept_inputs sheet text
  accept_cells room (row_cells p.parameters text p.filter)

unfoldable pub prepare_answer : List ℕ → List ℕ → ℕ → Answer
prepare_answer sheet text room = answer (do
  cs ← preparation sheet text room
  found (count (length cs)))

-- the list's cells at exit: the rows from the first cell on, and later cells as they were; on a refusal all of them
unfoldable pub prepare_cells : List ℕ → List ℕ → List ℕ → List ℕ
prepare_cells sheet text list = written (preparation sheet text (length list)) list

-- ---- judge

-- 10, whatever the text is
unfoldable pub accept_size : List ℕ → Step (Unit {0})
accept_size text = cond (eqb (length text) 0 || ltb 1024 (length text)) (stop 10 0) (found tt)

abbrev pub stated_step : List Parameter → List ℕ → Option Expression → Step Tree
stated_step ps text (some e) = found (tree_of ps text e)
stated_step ps text none = stop 40 0

-- 40 "exactly when the rows are not good", else the tree that they state
unfoldable pub accept_rows : List Parameter → List ℕ → List ℕ → Step Tree
accept_rows ps text cs = cond (good (kinds_of ps) (parents_of ps) text cs) (stated_step ps text (stated cs)) (stop 40 0)

-- after the sheet
unfoldable pub rows_answer : List Parameter → List ℕ → List ℕ → List ℕ → Answer
rows_answer ps text cs card = answer (do
  u ← accept_size text
  f ← accept_rows ps text cs
  c ← accept_card ps 0 card
  found (yes_or_no (filter_says ps 0 c.entries f)))

unfoldable pub judge_answer : List ℕ → List ℕ → List ℕ → List ℕ → Answer
judge_answer sheet text cs card = answer (do
  ps ← accept_sheet sheet
  u ← accept_size text
  f ← accept_rows ps text cs
  c ← accept_card ps 0 card
  found (yes_or_no (filter_says ps 0 c.entries f)))

-- ---- what the parts of the code answer

-- what each case states of the cells in a buffer
abbrev pub filled_step : Result ℕ Refusal → List ℕ → Step (List ℕ)
filled_step (Ok n) buffer = found (take n buffer)
filled_step (Err r) buffer = stop (number_of r.reason) r.place

-- the rows of a filter on a sheet with these parameters, or the first refusal
unfoldable pub text_rows : List Parameter → List ℕ → Step (List ℕ)
text_rows ps text = do
  f ← accept_filter text
  u ← tests_step ps (tests_of f)
  found (row_cells ps text f)

pub record FillsText (ps : List Parameter) (text : List ℕ) (r : Result ℕ Refusal) (buffer : List ℕ) : Type 0 where
  pub rows : filled_step r buffer ≡ text_rows ps text
  pub room : (n : ℕ) → r ≡ Ok n → n ≤ length buffer

pub record Fills (sheet text : List ℕ) (r : Result ℕ Refusal) (buffer : List ℕ) : Type 0 where
  pub rows : filled_step r buffer ≡ (accept_inputs sheet text >>= λ p. found (row_cells p.parameters text p.filter))
  pub room : (n : ℕ) → r ≡ Ok n → n ≤ length buffer

-- what prepare does: the answer, and every cell of the list at exit
pub record Prepares (sheet text list : List ℕ) (r : Result ℕ Refusal) (exit : List ℕ) : Type 0 where
  pub answers : counted_answer r ≡ prepare_answer sheet text (length list)
  pub cells : exit ≡ prepare_cells sheet text list
