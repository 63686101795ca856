-- The lines of the output, byte by byte.
-- Assumes nothing.
use Rattle.std.specs.Prelude.{ℕ, zero, suc, ◌+◌, ◌/◌, ◌%◌, cond, List, [], ◌∷◌, ◌++◌, ltb}
use Rattle.base.specs.Ascii.{ascii}

-- a digit in ASCII
abbrev pub digit : ℕ → ℕ
digit d = 48 + d

-- a number with at most `more` digits behind its first: below ten it is its own digit, else its last digit stands behind its tenth
unfoldable pub digits_of : (more n : ℕ) → List ℕ
digits_of zero n = digit n ∷ []
digits_of (suc more) n = cond (ltb n 10) (digit n ∷ []) (digits_of more (n / 10) ++ (digit (n % 10) ∷ []))

-- a number in decimal digits, without zeros in front
unfoldable pub decimal : ℕ → List ℕ
decimal n = digits_of n n

abbrev pub line_feed : List ℕ
line_feed = 10 ∷ []

-- "prints each record number on a line"
abbrev pub number_line : ℕ → List ℕ
number_line n = decimal n ++ line_feed

unfoldable pub lines : List ℕ → List ℕ
lines [] = []
lines (n ∷ ns) = number_line n ++ lines ns

-- a number behind a word
abbrev pub labelled : List ℕ → ℕ → List ℕ
labelled word n = word ++ decimal n

-- "a refusal prints `refused 16 at 0`"
abbrev pub refusal_line : (number place : ℕ) → List ℕ
refusal_line number place = labelled (ascii "refused ") number ++ (labelled (ascii " at ") place ++ line_feed)

-- "and then the count": `2 of 3`
abbrev pub count_line : (matches cards : ℕ) → List ℕ
count_line matches cards = decimal matches ++ (labelled (ascii " of ") cards ++ line_feed)

-- `cards.bin cannot be read`
abbrev pub failure_line : (file done : List ℕ) → List ℕ
failure_line file done = (file ++ ascii " cannot be ") ++ (done ++ line_feed)
