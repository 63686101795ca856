-- The spellings of dates: a writer of each from valid fields, and which texts spell which date.
-- Assumes nothing.
use Rattle.std.specs.Prelude.{ℕ, ◌+◌, ◌*◌, ◌/◌, ◌%◌, List, [], ◌∷◌, ◌++◌, ℤ, pos, neg_ℤ}
use Rattle.date.specs.Fields.{ValidYear, ValidMonth, ValidDay, ValidTime, ValidZone}
use Rattle.date.specs.Spans.{year_date, month_date, day_date, second_date}
use Rattle.date.specs.Marks.{hyphen, colon, plus, letter_t, letter_z}
use Rattle.date.specs.declared.Date.{Date}

-- ---- writers

-- the two digits of a number below a hundred; the digit n is the byte 48 + n
unfoldable pub two : ℕ → List ℕ
two n = (48 + n / 10) ∷ (48 + n % 10) ∷ []

-- the four digits of a number below ten thousand
unfoldable pub four : ℕ → List ℕ
four n = two (n / 100) ++ two (n % 100)

-- YYYY
unfoldable pub year_text : ℕ → List ℕ
year_text y = four y

-- YYYY-MM
unfoldable pub month_text : ℕ → ℕ → List ℕ
month_text y m = year_text y ++ (hyphen ∷ two m)

-- YYYY-MM-DD
unfoldable pub day_text : ℕ → ℕ → ℕ → List ℕ
day_text y m d = month_text y m ++ (hyphen ∷ two d)

-- YYYY-MM-DDThh:mm:ss
unfoldable pub local_text : ℕ → ℕ → ℕ → ℕ → ℕ → ℕ → List ℕ
local_text y m d hour minute second = day_text y m d ++ (letter_t ∷ two hour) ++ (colon ∷ two minute) ++ (colon ∷ two second)

-- +hh:mm or -hh:mm
unfoldable pub signed_text : ℕ → ℕ → ℕ → List ℕ
signed_text sign h m = (sign ∷ two h) ++ (colon ∷ two m)

-- ---- which text spells what

-- a zone: Z, east or west of UTC, in minutes
pub data SpellsZone : List ℕ → ℤ → Type 0 where
  spells_utc : SpellsZone (letter_z ∷ []) (pos 0)
  spells_east : {h m : ℕ} → ValidZone h m → SpellsZone (signed_text plus h m) (pos (h * 60 + m))
  spells_west : {h m : ℕ} → ValidZone h m → SpellsZone (signed_text hyphen h m) (neg_ℤ (pos (h * 60 + m)))

-- a date: YYYY, YYYY-MM, YYYY-MM-DD, YYYY-MM-DDThh:mm:ss with a zone
pub data Spells : List ℕ → Date → Type 0 where
  spells_year : {y : ℕ} → ValidYear y → Spells (year_text y) (year_date y)
  spells_month : {y m : ℕ} → ValidMonth y m → Spells (month_text y m) (month_date y m)
  spells_day : {y m d : ℕ} → ValidDay y m d → Spells (day_text y m d) (day_date y m d)
  spells_second : {y m d hour minute second : ℕ} {zone : List ℕ} {offset : ℤ} → ValidDay y m d → ValidTime hour minute second → SpellsZone zone offset → Spells (local_text y m d hour minute second ++ zone) (second_date y m d hour minute second offset)
