-- The table of refusals for a report into `room` rows: the lines of select without 30, and 31.
-- Assumes nothing.
use Rattle.std.specs.Prelude.{ℕ, ◌<◌, ◌⊎◌, List, length}
use Rattle.sheet.specs.Encode.{SheetBlock}
use Rattle.answer.specs.Refusals.{CheckLine, RunLine, CardsLine}

-- the line about the rows
pub data RowsLine (sheet : List ℕ) (room : ℕ) : ℕ → ℕ → Type 0 where
  -- 02: "31, last, when the rows are fewer than the parameters, place the number needed"
  line_31 : (s : SheetBlock sheet) → room < length s.parameters → RowsLine sheet room 31 (length s.parameters)

-- every line of the report's table: those of select up to its cards, and 31
abbrev pub ReportLine : (sheet text cards : List ℕ) → (room : ℕ) → ℕ → ℕ → Type 0
ReportLine sheet text cards room n p = CheckLine sheet text n p ⊎ (RunLine cards n p ⊎ (CardsLine sheet cards n p ⊎ RowsLine sheet room n p))
