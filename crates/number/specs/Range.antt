-- The order of exact fractions, the range of a number, and what it is that one number's range holds another's.
-- Assumes nothing.
use Rattle.std.specs.Prelude.{◌*◌, ◌≤◌, ◌<◌}
use Rattle.number.specs.Value.{Fraction, plus, exact_value, half_unit}
use Rattle.number.specs.declared.Decimal.{Decimal}

-- ---- the order of two fractions, by cross multiplication

-- a lies below b
abbrev pub Less : Fraction → Fraction → Type 0
Less a b = a.numerator * b.denominator < b.numerator * a.denominator

-- a lies below b or is as large
abbrev pub AtMost : Fraction → Fraction → Type 0
AtMost a b = a.numerator * b.denominator ≤ b.numerator * a.denominator

-- ---- ranges

-- a point of the line of numbers: a fraction above zero, or as far below it; either may be zero
pub data Point : Type 0 where
  above : Fraction → Point
  below : Fraction → Point

-- the fraction of a point
abbrev pub size : Point → Fraction
size (above x) = x
size (below x) = x

-- the point lies in the number's range, "half a unit of its last digit to either side, lower end in and upper out". No point below zero
-- reaches the upper end.
abbrev pub InRange : Decimal → Point → Type 0
InRange d (above x) = AtMost (exact_value d) (plus x (half_unit d)) × Less x (plus (exact_value d) (half_unit d))
InRange d (below x) = AtMost (plus (exact_value d) x) (half_unit d)

-- every point of the range of a lies in that of b
abbrev pub Held : Decimal → Decimal → Type 0
Held a b = (x : Point) → 0 < (size x).denominator → InRange a x → InRange b x
