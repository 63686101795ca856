-- The span of seconds that a year, a month, a day or a second is, start in, end out.
-- Assumes nothing.
use Rattle.std.specs.Prelude.{ℕ, ◌+◌, ◌*◌, ◌^◌, ◌<◌, true, ◌≡◌, ℤ, pos, ◌-ℤ◌, ◌*ℤ◌}
use Rattle.std.specs.Int.Signed.{lt_z, mag}
use Rattle.date.specs.Calendar.{leap_year, year_length, month_length, day_number}
use Rattle.date.specs.declared.Date.{Date}

-- the seconds from 0001-01-01T00:00:00 to 1970-01-01T00:00:00
unfoldable pub epoch : ℕ
epoch = day_number 1970 1 1 * 86400

-- the instant, in seconds from 1970-01-01T00:00:00Z, of the local second n, which counts from 0001-01-01T00:00:00 on a
-- clock with this zone offset in minutes: the offset is subtracted with its sign
unfoldable pub instant : ℕ → ℤ → ℤ
instant n offset = pos n -ℤ pos epoch -ℤ offset *ℤ pos 60

-- the local seconds from one up to another, at a zone offset
unfoldable pub date_of : ℕ → ℕ → ℤ → Date
date_of from to offset = record { start = instant from offset; end = instant to offset }

-- some days from a day on, in UTC
unfoldable pub days_from : ℕ → ℕ → Date
days_from first count = date_of (first * 86400) ((first + count) * 86400) (pos 0)

-- the second of the day at which a time of the day starts
abbrev pub second_of_day : ℕ → ℕ → ℕ → ℕ
second_of_day hour minute second = hour * 3600 + minute * 60 + second

-- one second of a day, at a zone offset
unfoldable pub second_from : ℕ → ℕ → ℤ → Date
second_from day second offset = date_of (day * 86400 + second) (day * 86400 + second + 1) offset

-- ---- a year, a month, a day, a second

-- 1974 is the whole year
unfoldable pub year_date : ℕ → Date
year_date y = days_from (day_number y 1 1) (year_length y)

-- 1974-06 is the whole month
unfoldable pub month_date : ℕ → ℕ → Date
month_date y m = days_from (day_number y m 1) (month_length (leap_year y) m)

-- 1974-06-01 is the whole day
unfoldable pub day_date : ℕ → ℕ → ℕ → Date
day_date y m d = days_from (day_number y m d) 1

-- a time of day is its one second, moved by the zone's offset
unfoldable pub second_date : ℕ → ℕ → ℕ → ℕ → ℕ → ℕ → ℤ → Date
second_date y m d hour minute second offset = second_from (day_number y m d) (second_of_day hour minute second) offset

-- ---- a law of every date that is read

-- the span is not empty, and lies within 2^42 seconds of 1970
pub record Proper (d : Date) : Type 0 where
  pub order : lt_z d.start d.end ≡ true
  pub start_small : mag d.start < 2 ^ 42
  pub end_small : mag d.end < 2 ^ 42
