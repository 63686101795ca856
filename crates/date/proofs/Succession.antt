-- The calendar pinned down: each year, month and day ends where the next one starts; and its two ends, by computation.
-- Assumes nothing.
use Prim.Native.Nat.{ℕ, zero, suc, ◌+◌, ◌*◌, ◌-◌, ◌≤◌}
use mathlib.Core.Path.{◌≡◌, refl, ap}
use native.Mathlib.Numerals.{add-one}
use native.Mathlib.Omega.{arith}
use lib.Dec.{ltb}
use lib.IntN.{pos, neg_ℤ}
use borrow.Author.Tests.{ltb-false}
use Rattle.base.proofs.Tests.{cond-elim}
use Rattle.date.specs.Calendar.{leap_year, year_length, month_length, days_before_month, days_of_years, day_number}
use Rattle.date.specs.Spans.{epoch, instant, date_of, days_from, year_date, month_date, day_date}
use Rattle.date.specs.Succession.{CalendarMonth, CalendarDay, next_month, first_day, next_day}
use Rattle.date.proofs.Calendar.{months_year}

-- ---- numbers of days

-- January starts with the year
year_start : (y : ℕ) → day_number y 1 1 ≡ days_of_years (y - 1)
unfolding day_number days_before_month month_length
year_start y = omega arith

year_number : (y : ℕ) → 1 ≤ y → day_number (y + 1) 1 1 ≡ day_number y 1 1 + year_length y
unfolding days_of_years
year_number zero h = let z : ⊥ = omega arith in absurd z
year_number (suc n) h =
    let e : suc n + 1 - 1 ≡ suc n = omega arith in
    let f : suc n - 1 ≡ n = omega arith in
    rw (year_start (suc n + 1), year_start (suc n), e, f)

month_number : (y m : ℕ) → day_number y (m + 1) 1 ≡ day_number y m 1 + month_length (leap_year y) m
unfolding day_number days_before_month
month_number y m = rw (add-one m) (omega arith)

december_number : (y m : ℕ) → 1 ≤ y → m ≡ 12 → day_number (y + 1) 1 1 ≡ day_number y m 1 + month_length (leap_year y) m
unfolding day_number year_length
december_number y m h e =
    rw e (omega (arith, year_number y h, year_start y, month_number y 12, months_year (leap_year y)))

next_month_number : (y m : ℕ) → 1 ≤ y → m ≤ 12 → day_number (next_month y m).year (next_month y m).month 1 ≡ day_number y m 1 + month_length (leap_year y) m
unfolding next_month
next_month_number y m h k =
    cond-elim (λ (n : CalendarMonth). day_number n.year n.month 1 ≡ day_number y m 1 + month_length (leap_year y) m)
    (ltb m 12) (λ e. month_number y m) (λ e. december_number y m h (omega (arith, ltb-false m 12 e)))

next_day_number : (y m d : ℕ) → 1 ≤ y → m ≤ 12 → 1 ≤ d → d ≤ month_length (leap_year y) m → day_number (next_day y m d).year (next_day y m d).month (next_day y m d).day ≡ day_number y m d + 1
unfolding next_day first_day day_number
next_day_number y m d h k l last =
    cond-elim (λ (n : CalendarDay). day_number n.year n.month n.day ≡ day_number y m d + 1)
    (ltb d (month_length (leap_year y) m)) (λ e. omega arith)
    (λ e. omega (arith, ltb-false d (month_length (leap_year y) m) e, next_month_number y m h k))

-- ---- spans

days_meet : (n k n' k' : ℕ) → n' ≡ n + k → (days_from n' k').start ≡ (days_from n k).end
unfolding days_from date_of
days_meet n k n' k' e = ap (λ (j : ℕ). instant (j * 86400) (pos 0)) e

-- the next year starts where the year ends
pub next_year : (y : ℕ) → 1 ≤ y → (year_date (y + 1)).start ≡ (year_date y).end
unfolding year_date
next_year y h = days_meet _ _ _ _ (year_number y h)

-- the next month starts where the month ends
pub next_month_lem : (y m : ℕ) → 1 ≤ y → m ≤ 12 → (month_date (next_month y m).year (next_month y m).month).start ≡ (month_date y m).end
unfolding month_date
next_month_lem y m h k = days_meet _ _ _ _ (next_month_number y m h k)

-- the next day starts where the day ends
pub next_day_lem : (y m d : ℕ) → 1 ≤ y → m ≤ 12 → 1 ≤ d → d ≤ month_length (leap_year y) m → (day_date (next_day y m d).year (next_day y m d).month (next_day y m d).day).start ≡ (day_date y m d).end
unfolding day_date
next_day_lem y m d h k l last = days_meet _ _ _ _ (next_day_number y m d h k l last)

-- a year starts with its first month
pub year_opens : (y : ℕ) → (year_date y).start ≡ (month_date y 1).start
unfolding year_date month_date days_from date_of
year_opens y = refl

-- a month starts with its first day
pub month_opens : (y m : ℕ) → (month_date y m).start ≡ (day_date y m 1).start
unfolding month_date day_date days_from date_of
month_opens y m = refl

-- ---- the two ends of the calendar

-- 0001-01-01 starts at -62135596800
pub calendar_starts : (day_date 1 1 1).start ≡ neg_ℤ (pos 62135596800)
unfolding day_date days_from date_of instant epoch day_number days_of_years year_length days_before_month month_length leap_year
calendar_starts = refl

-- year 9999 ends at 253402300800
pub calendar_ends : (year_date 9999).end ≡ pos 253402300800
unfolding year_date days_from date_of instant epoch day_number days_of_years year_length days_before_month month_length leap_year
calendar_ends = refl
