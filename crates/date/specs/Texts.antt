-- What a text reads to, computed. `Spelling` says the same by the writers, and a theorem that the two agree.
-- Assumes nothing.
use Rattle.std.specs.Prelude.{ℕ, ◌+◌, ◌*◌, ◌-◌, Bool, cond, List, eqb, ltb, length, get_or, ℤ, pos, neg_ℤ, Option, Some, None, is_some}
use Rattle.base.specs.Digits.{is_digit}
use Rattle.date.specs.Fields.{valid_year, valid_month, valid_day, valid_time, valid_zone}
use Rattle.date.specs.Spans.{year_date, month_date, day_date, second_date}
use Rattle.date.specs.Marks.{hyphen, colon, plus, letter_t, letter_z}
use Rattle.date.specs.declared.Date.{Date}

-- ---- fields

-- the number that a digit writes; 10 where the byte is no digit
unfoldable pub digit_of : ℕ → ℕ
digit_of b = cond (is_digit b) (b - 48) 10

-- the number that two numbers below a radix write together; the radix squared where one is not below it
unfoldable pub pair : ℕ → ℕ → ℕ → ℕ
pair radix a b = cond (ltb a radix) (cond (ltb b radix) (a * radix + b) (radix * radix)) (radix * radix)

-- the number of the two digits at a position; 100 where one is no digit
unfoldable pub two_at : List ℕ → ℕ → ℕ
two_at s at = pair 10 (digit_of (get_or s at 0)) (digit_of (get_or s (at + 1) 0))

-- the number of the four digits at a position; 10000 where one is no digit
unfoldable pub four_at : List ℕ → ℕ → ℕ
four_at s at = pair 100 (two_at s at) (two_at s (at + 2))

-- the number of the two digits behind a mark at a position; 100 where the mark or a digit is missing
unfoldable pub field_at : List ℕ → ℕ → ℕ → ℕ
field_at s at mark = cond (eqb (get_or s at 0) mark) (two_at s (at + 1)) 100

-- ---- the zone

-- the signed offset of a sign, hours and minutes: + is east, - west
unfoldable pub signed : ℕ → ℕ → ℕ → Option ℤ
signed sign h m =
    cond (valid_zone h m)
    (cond (eqb sign plus) (Some (pos (h * 60 + m)))
    (cond (eqb sign hyphen) (Some (neg_ℤ (pos (h * 60 + m)))) None))
    None

-- the zone from a position to the end: Z, or a sign and hh:mm
unfoldable pub zone_at : List ℕ → ℕ → Option ℤ
zone_at s at =
    cond (eqb (length s) (at + 1)) (cond (eqb (get_or s at 0) letter_z) (Some (pos 0)) None)
    (cond (eqb (length s) (at + 6)) (signed (get_or s at 0) (two_at s (at + 1)) (field_at s (at + 3) colon)) None)

-- ---- the spellings

-- YYYY
unfoldable pub read_year : List ℕ → Option Date
read_year s = cond (valid_year (four_at s 0)) (Some (year_date (four_at s 0))) None

-- YYYY-MM
unfoldable pub read_month : List ℕ → Option Date
read_month s =
    cond (valid_month (four_at s 0) (field_at s 4 hyphen)) (Some (month_date (four_at s 0) (field_at s 4 hyphen))) None

-- YYYY-MM-DD
unfoldable pub read_day : List ℕ → Option Date
read_day s =
    cond (valid_day (four_at s 0) (field_at s 4 hyphen) (field_at s 7 hyphen))
    (Some (day_date (four_at s 0) (field_at s 4 hyphen) (field_at s 7 hyphen)))
    None

-- YYYY-MM-DDThh:mm:ss, at a zone offset
unfoldable pub read_local : List ℕ → ℤ → Option Date
read_local s offset =
    cond (valid_day (four_at s 0) (field_at s 4 hyphen) (field_at s 7 hyphen))
    (cond (valid_time (field_at s 10 letter_t) (field_at s 13 colon) (field_at s 16 colon))
    (Some
    (second_date (four_at s 0) (field_at s 4 hyphen) (field_at s 7 hyphen) (field_at s 10 letter_t) (field_at s 13 colon) (field_at s 16 colon) offset))
    None)
    None

-- YYYY-MM-DDThh:mm:ss and its zone
unfoldable pub zoned : List ℕ → Option ℤ → Option Date
zoned s (Some offset) = read_local s offset
zoned s None = None

-- a text, by its length
unfoldable pub read : List ℕ → Option Date
read s =
    cond (eqb (length s) 4) (read_year s)
    (cond (eqb (length s) 7) (read_month s)
    (cond (eqb (length s) 10) (read_day s)
    (cond (ltb (length s) 20) None (zoned s (zone_at s 19)))))

-- 01: readable
unfoldable pub readable : List ℕ → Bool
readable s = is_some (read s)
