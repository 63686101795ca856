-- What holds of a question to the cards of a run, so that each can be judged: the kinds are those of the sheet, and check has passed it.
-- Assumes nothing.
use Rattle.std.specs.Prelude.{ℕ, ◌≡◌, List, length, Ok}
use Rattle.sheet.specs.Sheet.{parameters_of, read_sheet}
use Rattle.sheet.specs.Find.{kinds_of}
use Rattle.card_reader.specs.declared.Kept.{Kept}
use Rattle.row_judge.specs.Asking.{LentFor}
use Rattle.query.specs.Rows.{RowsWithin}
use Rattle.query.specs.declared.Rows.{Rows}
use Rattle.answer.specs.Passing.{Passing}

-- by the rows of a filter: what is kept is lent for them
pub record RowsReady (sheet kinds rows : List ℕ) (kept : Kept) : Type 0 where
  pub kinds_are : kinds ≡ kinds_of (parameters_of sheet)
  pub lent : LentFor kinds rows kept

-- by a filter's text
pub record TextReady (sheet kinds filter : List ℕ) : Type 0 where
  pub kinds_are : kinds ≡ kinds_of (parameters_of sheet)
  pub passing : Passing sheet filter

-- by the rows of a search string over its decoded bytes
pub record SearchReady (sheet kinds bytes : List ℕ) (rows : Rows) : Type 0 where
  pub kinds_are : kinds ≡ kinds_of (parameters_of sheet)
  pub well_formed : read_sheet sheet ≡ (Ok tt)
  pub within : RowsWithin (length bytes) rows
