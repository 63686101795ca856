-- The Gregorian calendar, used throughout: the lengths of years and months, and the number of a day.
-- Assumes nothing.
use Rattle.std.specs.Prelude.{ℕ, zero, suc, ◌+◌, ◌-◌, ◌%◌, Bool, true, false, not, ◌&&◌, ◌||◌, [], ◌∷◌, eqb, get_or}

-- a leap year: 4 divides it and 100 does not, or 400 does
unfoldable pub leap_year : ℕ → Bool
leap_year y = eqb (y % 4) 0 && (not (eqb (y % 100) 0) || eqb (y % 400) 0)

-- the days that a leap year has more than another year
abbrev pub leap_day : Bool → ℕ
leap_day true = 1
leap_day false = 0

-- the days of a year
unfoldable pub year_length : ℕ → ℕ
year_length y = 365 + leap_day (leap_year y)

-- the days of month m, 1 to 12, of a leap year or another
unfoldable pub month_length : Bool → ℕ → ℕ
month_length leap m =
    get_or (0 ∷ 31 ∷ (28 + leap_day leap) ∷ 31 ∷ 30 ∷ 31 ∷ 30 ∷ 31 ∷ 31 ∷ 30 ∷ 31 ∷ 30 ∷ 31 ∷ []) m 0

-- the days of the year before month m: the sum of the lengths of the earlier months
unfoldable pub days_before_month : Bool → ℕ → ℕ
days_before_month leap zero = 0
days_before_month leap (suc m) = days_before_month leap m + month_length leap m

-- the days of the years 1 to n: the sum of their lengths
unfoldable pub days_of_years : ℕ → ℕ
days_of_years zero = 0
days_of_years (suc n) = days_of_years n + year_length (suc n)

-- the number of a day: the days from 0001-01-01 to it
unfoldable pub day_number : ℕ → ℕ → ℕ → ℕ
day_number y m d = days_of_years (y - 1) + days_before_month (leap_year y) m + (d - 1)
