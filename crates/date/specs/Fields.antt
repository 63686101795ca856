-- The numbers that may stand in the fields of a date's text: as records, which a reader believes, and as the tests of the code.
-- Assumes nothing.
use Rattle.std.specs.Prelude.{ℕ, ◌+◌, ◌*◌, ◌≤◌, Bool, ◌&&◌, leb, ℤ, nat_abs}
use Rattle.base.specs.Between.{between}
use Rattle.date.specs.Calendar.{leap_year, month_length}

-- ---- records

-- 0001 to 9999
pub record ValidYear (y : ℕ) : Type 0 where
  pub low : 1 ≤ y
  pub high : y ≤ 9999

-- 01 to 12, of such a year
pub record ValidMonth (y m : ℕ) : Type 0 where
  pub year : ValidYear y
  pub low : 1 ≤ m
  pub high : m ≤ 12

-- a day that the month has
pub record ValidDay (y m d : ℕ) : Type 0 where
  pub month : ValidMonth y m
  pub low : 1 ≤ d
  pub high : d ≤ month_length (leap_year y) m

-- 00:00:00 to 23:59:59
pub record ValidTime (h m s : ℕ) : Type 0 where
  pub hour : h ≤ 23
  pub minute : m ≤ 59
  pub second : s ≤ 59

-- hh:mm of a zone: at most 14:00, minutes 00 to 59
pub record ValidZone (h m : ℕ) : Type 0 where
  pub minute : m ≤ 59
  pub most : h * 60 + m ≤ 840

-- an offset in minutes that such a zone has, on either side
abbrev pub ValidOffset : ℤ → Type 0
ValidOffset offset = nat_abs offset ≤ 840

-- ---- tests

abbrev pub valid_year : ℕ → Bool
valid_year y = between 1 9999 y

unfoldable pub valid_month : ℕ → ℕ → Bool
valid_month y m = valid_year y && between 1 12 m

unfoldable pub valid_day : ℕ → ℕ → ℕ → Bool
valid_day y m d = valid_month y m && between 1 (month_length (leap_year y) m) d

unfoldable pub valid_time : ℕ → ℕ → ℕ → Bool
valid_time h m s = leb h 23 && (leb m 59 && leb s 59)

unfoldable pub valid_zone : ℕ → ℕ → Bool
valid_zone h m = leb m 59 && leb (h * 60 + m) 840
