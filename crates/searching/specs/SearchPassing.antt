-- What the parts of the code for search strings answer: a string read into rows, and what the rows ask.
-- Assumes nothing.
use Rattle.std.specs.Prelude.{ℕ, ◌≡◌, List, length, Result, Ok, Err, ⊤}
use Rattle.sheet.specs.Sheet.{Parameter, parameters_of, read_sheet}
use Rattle.search.specs.Meaning.{first_alternative_fault, alternative_says}
use Rattle.query.specs.Rows.{RowsWithin, alternatives_in, rows_say}
use Rattle.query.specs.declared.Rows.{Rows}
use Rattle.refusal.specs.Answers.{Answer, counted_answer}
use Rattle.refusal.specs.Steps.{found}
use Rattle.answer.specs.Operations.{Question}
use Rattle.answer.specs.Passing.{summary_answer}
use Rattle.answer.specs.Searching.{check_search_answer, search_question}
use Rattle.refusal.specs.declared.Refusal.{Refusal}

-- what check answers to a string whose query the rows keep
unfoldable pub rows_answer : List Parameter → List ℕ → Rows → Answer
rows_answer ps bytes rows = summary_answer (record { tests = rows.count; first = first_alternative_fault ps (alternatives_in bytes rows) })

-- what the rows ask
abbrev pub rows_question : List Parameter → List ℕ → Rows → Question
rows_question ps bytes rows = record { parameters = ps; says = λ es. rows_say (alternative_says ps es) bytes rows }

-- check has passed the sheet and the text, whose query the rows keep
pub record PassingRows (sheet text bytes : List ℕ) (rows : Rows) : Type 0 where
  pub sheet_well_formed : read_sheet sheet ≡ (Ok tt)
  pub within : RowsWithin (length bytes) rows
  pub asked : search_question sheet text ≡ found (rows_question (parameters_of sheet) bytes rows)

-- the rows, where none of their alternatives is refused, and else the first refusal
abbrev pub rows_passed : Result ⊤ Refusal → Rows → Result Rows Refusal
rows_passed (Ok tt) rows = Ok rows
rows_passed (Err r) rows = Err r

abbrev pub PassesRows : List Parameter → List ℕ → Rows → Result Rows Refusal → Type 0
PassesRows ps bytes rows r = r ≡ rows_passed (first_alternative_fault ps (alternatives_in bytes rows)) rows

-- how many alternatives rows keep
abbrev pub counted_rows : Result Rows Refusal → Result ℕ Refusal
counted_rows (Ok rows) = Ok rows.count
counted_rows (Err r) = Err r

-- what reading a string does: the answer of check and, where it passes, the rows
pub record ReadsRows (sheet text bytes : List ℕ) (r : Result Rows Refusal) : Type 0 where
  pub answers : counted_answer (counted_rows r) ≡ check_search_answer sheet text
  pub passes : (rows : Rows) → r ≡ Ok rows → PassingRows sheet text bytes rows
