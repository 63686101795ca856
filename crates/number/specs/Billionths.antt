-- A number as a whole count of billionths: what the code compares.
-- Assumes nothing.
use Rattle.std.specs.Prelude.{ℕ, ◌+◌, ◌*◌, ◌-◌, ◌^◌, Bool, ◌&&◌, leb}
use Rattle.number.specs.declared.Decimal.{Decimal}

-- one unit of the last digit, in billionths
unfoldable pub unit : Decimal → ℕ
unit d = 10 ^ (9 - d.decimals)

unfoldable pub billionths : Decimal → ℕ
billionths d = d.digits * unit d

-- eq: the range of a lies whole in that of b, each twice over, so that half a unit is whole. A lower end may lie below zero, so that
-- b's less its half unit, at most a's less its own, stands with both half units added.
unfoldable pub inside : Decimal → Decimal → Bool
inside a b =
    leb (2 * billionths b + unit a) (2 * billionths a + unit b)
    && leb (2 * billionths a + unit a) (2 * billionths b + unit b)
