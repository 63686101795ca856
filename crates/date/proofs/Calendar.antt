-- Laws of the calendar: the arithmetic of months is the sum of their lengths, that of years the sum of theirs.
-- Months are few: their rules are computed for each number up to 12, in either kind of year, and looked up (`passes_same`, `passes_at`).
-- Years are by induction (`days_of_years_lem`): one year more adds 365 days, and one day more exactly where it is a leap year
-- (`leap_years_next`). The quotients by 4, 100 and 400 each grow by one exactly where the divisor divides the new number (`quotient_next`).
-- What is divisible by 400 is divisible by 100, and what is divisible by 100 is divisible by 4 (`multiple`), so the cases of the three
-- tests make the rule of leap years (`leap_rule`).
-- Assumes nothing.
use Prim.Native.Nat.{ℕ, zero, suc, ◌+◌, ◌*◌, ◌-◌, ◌/◌, ◌%◌, ◌≤◌, ◌<◌}
use mathlib.Core.Bool.{Bool, true, false, not, ◌&&◌, ◌||◌}
use mathlib.Core.Path.{◌≡◌, refl, sym, ap, ◌∙◌}
use native.Mathlib.Decide.{ℕ_discrete}
use native.Mathlib.Nat.{mod-lt, div-add-mod', mul-add-div_right, mul-add-mod_self_right, div-eq_of_lt, mod-eq_of_lt, div_self, mod_self, mod-mod_of_dvd, dvd_of_mod-eq-zero, zero-mod}
use native.Mathlib.Omega.{arith}
use lib.Dec.{eqb, leb, lit<, lit≤}
use borrow.Author.Tests.{eqb-true, eq-eqb, ne_eqb, leb-true, le-leb, lt-leb}
use Rattle.base.proofs.Below.{passes_at, passes_same}
use Rattle.base.proofs.Tests.{both_ways}
use Rattle.date.specs.Calendar.{leap_year, leap_day, year_length, month_length, days_before_month, days_of_years, day_number}
use Rattle.date.specs.Arithmetic.{length_by_number, before_by_number, leap_years}
use Rattle.base.specs.Between.{between}
use Rattle.base.proofs.Between.{between_low, between_high}
use Rattle.date.specs.Fields.{ValidYear, ValidMonth, ValidDay}

-- ---- months

-- the length of a month by arithmetic
length_by_number_lem : (leap : Bool) (m : ℕ) → m ≤ 12 → length_by_number leap m ≡ month_length leap m
unfolding month_length
length_by_number_lem true m h = passes_same (length_by_number true) (month_length true) 13 refl m (omega arith)
length_by_number_lem false m h = passes_same (length_by_number false) (month_length false) 13 refl m (omega arith)

module _ (y : ℕ) {m : ℕ} {leap : Bool} (h : m ≡ 2) (e : leap ≡ leap_year y) where
  february : month_length (leap_year y) m ≡ 28 + leap_day leap
  february = rw (← e, ← length_by_number_lem leap m (omega arith), eq-eqb m 2 h)

  pub february_leap : leap ≡ true → 29 ≡ month_length (leap_year y) m
  february_leap t = rw (february, t)

  pub february_common : leap ≡ false → 28 ≡ month_length (leap_year y) m
  february_common t = rw (february, t)

pub length_other : {y m : ℕ} → (m ≡ 2 → ⊥) → ValidMonth y m → 30 + (m + m / 8) % 2 ≡ month_length (leap_year y) m
length_other {y} {m} h v =
    let z : m ≡ 0 → ⊥ = omega arith in
    rw (← length_by_number_lem (leap_year y) m v.high, ne_eqb m 2 h, ne_eqb m 0 z)

-- for each month of either kind of year, the days before it by arithmetic are the sum of the lengths of the earlier months
pub days_before_month_lem : (leap : Bool) (m : ℕ) → m ≤ 12 → before_by_number leap m ≡ days_before_month leap m
unfolding days_before_month month_length
days_before_month_lem true m h = passes_same (before_by_number true) (days_before_month true) 13 refl m (omega arith)
days_before_month_lem false m h = passes_same (before_by_number false) (days_before_month false) 13 refl m (omega arith)

module _ {y m : ℕ} (v : ValidMonth y m) where
  pub before_early : m ≤ 2 → (367 * m - 362) / 12 ≡ days_before_month (leap_year y) m
  before_early h = rw (← days_before_month_lem (leap_year y) m v.high, le-leb m 2 h)

  module _ {leap : Bool} (h : 2 < m) (e : leap ≡ leap_year y) where
    pub before_leap : leap ≡ true → (367 * m - 362) / 12 - 1 ≡ days_before_month (leap_year y) m
    before_leap t = rw (← days_before_month_lem (leap_year y) m v.high, lt-leb m 2 h, ← e, t)

    pub before_common : leap ≡ false → (367 * m - 362) / 12 - 2 ≡ days_before_month (leap_year y) m
    before_common t = rw (← days_before_month_lem (leap_year y) m v.high, lt-leb m 2 h, ← e, t)

-- a month ends within its year
month_ends : (leap : Bool) (m : ℕ) → m ≤ 12 → days_before_month leap m + month_length leap m ≤ 365 + leap_day leap
unfolding days_before_month month_length
month_ends true m h =
    leb-true _ _ (passes_at (λ (k : ℕ). leb (days_before_month true k + month_length true k) 366) 13 refl m (omega arith))
month_ends false m h =
    leb-true _ _ (passes_at (λ (k : ℕ). leb (days_before_month false k + month_length false k) 365) 13 refl m (omega arith))

-- a month has 1 to 31 days
month_days : (leap : Bool) (m : ℕ) → 1 ≤ m → m ≤ 12 → between 1 31 (month_length leap m) ≡ true
unfolding month_length between
month_days leap zero l h = let z : ⊥ = omega arith in absurd z
month_days true (suc n) l h = passes_at (λ (k : ℕ). between 1 31 (month_length true (suc k))) 12 refl n (omega arith)
month_days false (suc n) l h = passes_at (λ (k : ℕ). between 1 31 (month_length false (suc k))) 12 refl n (omega arith)

pub month_first : {y m : ℕ} → ValidMonth y m → 1 ≤ month_length (leap_year y) m
month_first {y} {m} v = between_low 1 31 _ (month_days (leap_year y) m v.low v.high)

month_last : {y m : ℕ} → ValidMonth y m → month_length (leap_year y) m ≤ 31
month_last {y} {m} v = between_high 1 31 _ (month_days (leap_year y) m v.low v.high)

-- a day of a month has at most two digits
pub day_below : {y m d : ℕ} → ValidDay y m d → d < 100
day_below v = omega (arith, month_last v.month)

-- the twelve months make up the year
pub months_year : (leap : Bool) → days_before_month leap 13 ≡ 365 + leap_day leap
unfolding days_before_month month_length
months_year true = refl
months_year false = refl

-- ---- years

-- the quotient of one number more: it grows by one exactly where the divisor divides the number
quotient_last : (r k : ℕ) → r < k → Dec (suc r ≡ k) → suc r / k ≡ leap_day (eqb (suc r % k) 0)
quotient_last r k h (yes e) =
    let p : 0 < suc r = omega arith in
    rw (← e, div_self p, mod_self (suc r))
quotient_last r k h (no e) =
    let p : suc r < k = omega arith in
    let q : suc r ≡ 0 → ⊥ = omega arith in
    rw (div-eq_of_lt p, mod-eq_of_lt p, ne_eqb (suc r) 0 q)

quotient_next : (n k : ℕ) → 0 < k → suc n / k ≡ n / k + leap_day (eqb (suc n % k) 0)
quotient_next n k h =
    let e : suc n ≡ n / k * k + suc (n % k) = omega (arith, div-add-mod' n k) in
    rw (e, mul-add-div_right h (n / k) (suc (n % k)), mul-add-mod_self_right (n / k) k (suc (n % k)))
    (ap (λ (j : ℕ). n / k + j) (quotient_last (n % k) k (mod-lt n h) (ℕ_discrete (suc (n % k)) k)))

-- what a multiple divides, its divisor divides
multiple : (k b n : ℕ) → b % k ≡ 0 → eqb (n % b) 0 ≡ true → eqb (n % k) 0 ≡ true
multiple k b n d h =
    eq-eqb (n % k) 0
    (sym (mod-mod_of_dvd k n (dvd_of_mod-eq-zero k d)) ∙ ap (λ (j : ℕ). j % k) (eqb-true (n % b) 0 h) ∙ zero-mod k)

-- what one more year adds to the count of leap years is by the rule of leap years
leap_rule : (x y z : ℕ) (by4 by100 by400 : Bool) → y ≤ x → (by100 ≡ true → by4 ≡ true) → (by400 ≡ true → by100 ≡ true) → x + leap_day by4 - (y + leap_day by100) + (z + leap_day by400) ≡ x - y + z + leap_day (by4 && (not by100 || by400))
leap_rule x y z true true true h p q = omega arith
leap_rule x y z true true false h p q = omega arith
leap_rule x y z true false true h p q = both_ways (q refl) refl
leap_rule x y z true false false h p q = omega arith
leap_rule x y z false true c h p q = both_ways (p refl) refl
leap_rule x y z false false true h p q = both_ways (q refl) refl
leap_rule x y z false false false h p q = omega arith

leap_years_next : (n : ℕ) → leap_years (suc n) ≡ leap_years n + leap_day (leap_year (suc n))
unfolding leap_year
leap_years_next n =
    rw (quotient_next n 4 (lit< tt), quotient_next n 100 (lit< tt), quotient_next n 400 (lit< tt))
    (leap_rule (n / 4) (n / 100) (n / 400) _ _ _ (omega arith) (multiple 4 100 (suc n) refl) (multiple 100 400 (suc n) refl))

-- the days of the years 1 to n by arithmetic are the sum of their lengths
pub days_of_years_lem : (n : ℕ) → 365 * n + leap_years n ≡ days_of_years n
unfolding days_of_years year_length
days_of_years_lem zero = refl
days_of_years_lem (suc n) = omega (arith, leap_years_next n, days_of_years_lem n)

-- the two lengths of a year
module _ (y : ℕ) {leap : Bool} (e : leap ≡ leap_year y) where
  pub year_leap : leap ≡ true → 366 ≡ year_length y
  unfolding year_length
  year_leap t = rw (← e, t)

  pub year_common : leap ≡ false → 365 ≡ year_length y
  unfolding year_length
  year_common t = rw (← e, t)

-- ---- days

leap_day_most : (leap : Bool) → leap_day leap ≤ 1
leap_day_most true = omega arith
leap_day_most false = omega arith

-- a day is one of the 366 of its year
pub day_of_year : {y m d : ℕ} → ValidDay y m d → days_before_month (leap_year y) m + (d - 1) < 366
day_of_year {y} {m} v = omega (arith, month_ends (leap_year y) m v.month.high, leap_day_most (leap_year y))

-- the years up to 9999 have fewer than 3660000 days
day_number_bound : {y m d : ℕ} → ValidDay y m d → day_number y m d < 3660000
unfolding day_number
day_number_bound {y} v = omega (arith, day_of_year v, days_of_years_lem (y - 1))

pub day_bound : {y m d n : ℕ} → ValidDay y m d → n ≡ day_number y m d → n < 4000000
day_bound v e = omega (arith, day_number_bound v)

-- a month and a year have a first day, and their spans are short
pub month_starts : {y m : ℕ} → ValidMonth y m → ValidDay y m 1
month_starts v = record { month = v; low = lit≤ tt; high = month_first v }

pub year_starts : {y : ℕ} → ValidYear y → ValidDay y 1 1
year_starts v = month_starts (record { year = v; low = lit≤ tt; high = lit≤ tt })

pub day_small : {y m d n : ℕ} → ValidDay y m d → n ≡ day_number y m d → n + 1 < 4000000
day_small v e = omega (arith, day_number_bound v)

pub month_small : {y m n k : ℕ} → ValidMonth y m → n ≡ day_number y m 1 → k ≡ month_length (leap_year y) m → n + k < 4000000
month_small v e f = omega (arith, day_number_bound (month_starts v), month_last v)

pub year_small : {y n k : ℕ} → ValidYear y → n ≡ day_number y 1 1 → k ≡ year_length y → n + k < 4000000
unfolding year_length
year_small {y} v e f = omega (arith, day_number_bound (year_starts v), leap_day_most (leap_year y))

-- the number of a day as the code has it
pub day_number_is : (y m d : ℕ) {before : ℕ} → before ≡ days_before_month (leap_year y) m → 365 * (y - 1) + leap_years (y - 1) + before + (d - 1) ≡ day_number y m d
unfolding day_number
day_number_is y m d e = rw (days_of_years_lem (y - 1), e)
