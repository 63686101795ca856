-- The bytes that stand beside the digits of a date's text.
-- Assumes nothing.
use Rattle.std.specs.Prelude.{ℕ}

abbrev pub hyphen : ℕ
hyphen = 45

abbrev pub colon : ℕ
colon = 58

abbrev pub plus : ℕ
plus = 43

abbrev pub letter_t : ℕ
letter_t = 84

abbrev pub letter_z : ℕ
letter_z = 90
