-- The calendar by arithmetic on the numbers of months and years, as the code has it. Laws tie it to the sums of `Calendar`.
-- Assumes nothing.
use Rattle.std.specs.Prelude.{ℕ, ◌+◌, ◌*◌, ◌-◌, ◌/◌, ◌%◌, Bool, cond, eqb, leb}
use Rattle.date.specs.Calendar.{leap_day}

-- the length of month m: February by the kind of year, the others 30 or 31 by turns, July and August both 31
abbrev pub length_by_number : Bool → ℕ → ℕ
length_by_number leap m = cond (eqb m 2) (28 + leap_day leap) (cond (eqb m 0) 0 (30 + (m + m / 8) % 2))

-- the days before month m
abbrev pub before_by_number : Bool → ℕ → ℕ
before_by_number leap m =
    cond (leb m 2) ((367 * m - 362) / 12)
    (cond leap ((367 * m - 362) / 12 - 1) ((367 * m - 362) / 12 - 2))

-- the leap years among the years 1 to n
abbrev pub leap_years : ℕ → ℕ
leap_years n = n / 4 - n / 100 + n / 400
