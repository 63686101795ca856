-- What the value of a test reads to, opened once for many cards.
-- Assumes nothing.
use Rattle.std.specs.Prelude.{ℕ, ◌≤◌, ◌<◌, ◌≡◌, List, length, get_or, Option, Some, None}
use Rattle.base.specs.Parts.{part}
use Rattle.syntax.specs.Scan.{value_at, contents}
use Rattle.syntax.specs.declared.RawValue.{RawValue}
use Rattle.kind.specs.Table.{meaning_of}
use Rattle.kind.specs.Readable.{is_true}
use Rattle.kind.specs.declared.Meaning.{Meaning}
use Rattle.judge.specs.Once.{readings_for}
use Rattle.rows.specs.Cells.{row_of}
use Rattle.rows.specs.Shapes.{value_in}
use Rattle.rows.specs.declared.Probe.{Probe}
use Rattle.rows.specs.declared.Row.{Row}
use Rattle.row_opener.specs.declared.Opened.{Opened}
use Rattle.row_opener.specs.declared.ValueReading.{ValueReading}
use Rattle.number.specs.declared.Decimal.{Decimal}
use Rattle.date.specs.declared.Date.{Date}
use Rattle.kind.specs.declared.Readings.{Readings}

-- ---- what it reads to

abbrev pub reading_by : Option Decimal → Option Date → ValueReading
reading_by (Some n) d = ValueReading.Number n
reading_by None (Some d) = ValueReading.Date d
reading_by None None = ValueReading.Bytes

unfoldable pub reading_of : Readings → ValueReading
reading_of r = reading_by r.number r.date

unfoldable pub readings_in : ValueReading → Readings
readings_in (ValueReading.Number n) = record { number = Some n; date = None }
readings_in (ValueReading.Date d) = record { number = None; date = Some d }
readings_in ValueReading.Bytes = record { number = None; date = None }

-- ---- the value of a test

-- of a value of the text with these bytes
unfoldable pub opened_value : Meaning → RawValue → List ℕ → Opened
opened_value m v w = record { escaped = v.escaped; truth = is_true w; start = v.start; end = v.end; reading = reading_of (readings_for m w) }

abbrev pub opened_by : List ℕ → Meaning → Option RawValue → Option Opened
opened_by xs m (Some v) = Some (opened_value m v (value_in xs v))
opened_by xs m None = None

unfoldable pub opened_for : List ℕ → List ℕ → Probe → Option Opened
opened_for kinds xs p = opened_by xs (meaning_of p.operator (get_or kinds p.index 0)) (value_at xs p.position)

-- only the row of a test has a value
abbrev pub opened_in : List ℕ → List ℕ → Row → Option Opened
opened_in kinds xs (Row.Test p) = opened_for kinds xs p
opened_in kinds xs (Row.Bracket n) = None
opened_in kinds xs Row.Not = None
opened_in kinds xs (Row.Connect a n) = None
opened_in kinds xs Row.Unknown = None

unfoldable pub opened_row : List ℕ → List ℕ → ℕ → Option Opened
opened_row kinds xs c = opened_in kinds xs (row_of c)

-- the bytes of a value that was opened
unfoldable pub value_of : List ℕ → Opened → List ℕ
value_of xs o = contents o.escaped (part xs o.start o.end)

-- a value of the text that was opened for a meaning
pub record Known (xs : List ℕ) (m : Meaning) (o : Opened) : Type 0 where
  pub order : o.start ≤ o.end
  pub within : o.end ≤ length xs
  pub read : readings_in o.reading ≡ readings_for m (value_of xs o)

-- ---- the list of the values, by row

-- of the first n rows
pub record Opens (kinds xs rows : List ℕ) (values : List (Option Opened)) (n : ℕ) : Type 0 where
  pub room : length rows ≤ length values
  pub each : (j : ℕ) → j < n → get_or values j None ≡ opened_row kinds xs (get_or rows j 0)
