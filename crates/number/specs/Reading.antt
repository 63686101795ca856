-- What a text reads to, computed: the digits before a point, the point, the digits after it.
-- Assumes nothing.
use Prim.Native.Char.{code}
use Rattle.std.specs.Prelude.{ℕ, ◌+◌, ◌*◌, ◌-◌, ◌≤◌, ◌≡◌, Bool, true, cond, List, [], ◌∷◌, eqb, leb, length, get_or, take, drop, Option, Some, None, is_some}
use Rattle.base.specs.Digits.{is_digit}
use Rattle.base.specs.Lists.{every}
use Rattle.base.specs.Runs.{run}
use Rattle.number.specs.declared.Decimal.{Decimal}

-- the byte between the whole part and the decimals
abbrev pub point : ℕ
point = code "."

-- a text of digits alone, short enough to be a number's whole part or its decimals
pub record DigitText (s : List ℕ) : Type 0 where
  pub digits : every is_digit s ≡ true
  pub short : length s ≤ 9

-- the digits of the text written after the number before, as one number
unfoldable pub value_from : ℕ → List ℕ → ℕ
value_from before [] = before
value_from before (x ∷ xs) = value_from (before * 10 + (x - code "0")) xs

-- the text f of decimals after the whole part
unfoldable pub read_fraction : ℕ → List ℕ → Option Decimal
read_fraction whole f =
    cond (leb 1 (length f))
    (cond (leb (length f) 9)
    (cond (eqb (run is_digit f) (length f)) (Some (record { digits = value_from whole f; decimals = length f })) None)
    None)
    None

-- 1 to 8 digits, then perhaps "." and 1 to 9 digits
unfoldable pub read : List ℕ → Option Decimal
read s =
    cond (leb 1 (run is_digit s))
    (cond (leb (run is_digit s) 8)
    (cond (eqb (run is_digit s) (length s))
    (Some (record { digits = value_from 0 s; decimals = 0 }))
    (cond (eqb (get_or s (run is_digit s) 0) point)
    (read_fraction (value_from 0 (take (run is_digit s) s)) (drop (run is_digit s + 1) s))
    None))
    None)
    None

-- the text is readable as a number
unfoldable pub readable : List ℕ → Bool
readable s = is_some (read s)
