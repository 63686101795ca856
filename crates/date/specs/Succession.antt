-- The month and the day that come next in the calendar.
-- Assumes nothing.
use Rattle.std.specs.Prelude.{ℕ, ◌+◌, cond, ltb}
use Rattle.date.specs.Calendar.{leap_year, month_length}

-- a month and a day of any year
pub record CalendarMonth : Type 0 where
  pub year : ℕ
  pub month : ℕ

pub record CalendarDay : Type 0 where
  pub year : ℕ
  pub month : ℕ
  pub day : ℕ

-- the next month of the year, else January of the next year
unfoldable pub next_month : ℕ → ℕ → CalendarMonth
next_month y m = cond (ltb m 12) (record { year = y; month = m + 1 }) (record { year = y + 1; month = 1 })

-- the first day of a month
unfoldable pub first_day : CalendarMonth → CalendarDay
first_day t = record { year = t.year; month = t.month; day = 1 }

-- the next day of the month, else the first day of the next month
unfoldable pub next_day : ℕ → ℕ → ℕ → CalendarDay
next_day y m d =
    cond (ltb d (month_length (leap_year y) m)) (record { year = y; month = m; day = d + 1 }) (first_day (next_month y m))
