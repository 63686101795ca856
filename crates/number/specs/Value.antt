-- The exact value of a number, and document 01's relations by it; eq, by ranges, is in Billionths.
-- Assumes nothing.
use Rattle.std.specs.Prelude.{ℕ, ◌+◌, ◌*◌, ◌^◌, ◌≤◌, ◌<◌, Bool, ◌&&◌, leb, ltb}
use Rattle.number.specs.declared.Decimal.{Decimal}

-- what every number that can be read keeps to: at most nine decimals, and at most eight digits before them
pub record Bounded (d : Decimal) : Type 0 where
  pub few_decimals : d.decimals ≤ 9
  pub few_digits : d.digits < 10 ^ (8 + d.decimals)

-- ---- exact fractions, of denominators above zero

-- the numerator over the denominator
pub record Fraction : Type 0 where
  pub numerator : ℕ
  pub denominator : ℕ

-- the order of two fractions, by cross multiplication
unfoldable pub is_less : Fraction → Fraction → Bool
is_less a b = ltb (a.numerator * b.denominator) (b.numerator * a.denominator)

unfoldable pub is_at_most : Fraction → Fraction → Bool
is_at_most a b = leb (a.numerator * b.denominator) (b.numerator * a.denominator)

-- the sum, over the product of the denominators
unfoldable pub plus : Fraction → Fraction → Fraction
plus a b =
    record {
      numerator = a.numerator * b.denominator + b.numerator * a.denominator;
      denominator = a.denominator * b.denominator;
    }

-- the digits over ten to the count of decimals
unfoldable pub exact_value : Decimal → Fraction
exact_value d = record { numerator = d.digits; denominator = 10 ^ d.decimals }

-- half a unit of the last digit
unfoldable pub half_unit : Decimal → Fraction
half_unit d = record { numerator = 1; denominator = 2 * 10 ^ d.decimals }

-- ---- the operations: i is the card's number, f the filter's

-- gt
unfoldable pub greater : Decimal → Decimal → Bool
greater i f = is_less (exact_value f) (exact_value i)

-- lt
unfoldable pub less : Decimal → Decimal → Bool
less i f = is_less (exact_value i) (exact_value f)

-- ge
unfoldable pub at_least : Decimal → Decimal → Bool
at_least i f = is_at_most (exact_value f) (exact_value i)

-- le
unfoldable pub at_most : Decimal → Decimal → Bool
at_most i f = is_at_most (exact_value i) (exact_value f)

-- co: f lies in i's range, half a unit of i's last digit below to the same above, the lower end in, the upper out.
-- The lower end may lie below zero, so that i - half ≤ f stands as i ≤ f + half.
unfoldable pub covers : Decimal → Decimal → Bool
covers i f =
    is_at_most (exact_value i) (plus (exact_value f) (half_unit i))
    && is_less (exact_value f) (plus (exact_value i) (half_unit i))
