-- Decimal digits.
-- Assumes nothing.
use Rattle.std.specs.Prelude.{ℕ, Bool, ◌&&◌, ◌≡◌, true, leb}

-- the byte is one of the digits 0 to 9
unfoldable pub is_digit : ℕ → Bool
is_digit b = leb 48 b && leb b 57

-- the same as a property
abbrev pub Digit : ℕ → Type 0
Digit b = is_digit b ≡ true
