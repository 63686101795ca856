-- Places over a whole file.
-- Assumes nothing.
use Rattle.std.specs.Prelude.{ℕ, ◌+◌, cond, ltb}

-- "card indexes are counted over the file": the place of 21 to 23 counts on from the cards of the runs before
unfoldable pub place_in_file : (number place before : ℕ) → ℕ
place_in_file number place before = cond (ltb number 21) place (cond (ltb 23 number) place (before + place))
