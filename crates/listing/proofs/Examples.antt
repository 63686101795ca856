-- Document 01's own lines, by the definitions.
-- Assumes nothing.
use mathlib.Core.Path.{◌≡◌, refl}
use mathlib.Core.List.{[], ◌∷◌, ◌++◌}
use Rattle.base.specs.Ascii.{ascii}
use Rattle.listing.specs.Lines.{digits_of, decimal, line_feed, lines, refusal_line, count_line}

-- "it prints `7`, `300`, `2 of 3`, each with a line feed"
pub printed : lines (7 ∷ 300 ∷ []) ++ count_line 2 3 ≡ ascii "7" ++ (line_feed ++ (ascii "300" ++ (line_feed ++ (ascii "2 of 3" ++ line_feed))))
unfolding lines decimal digits_of
printed = refl

-- "a refusal prints `refused 16 at 0`"
pub refusal_printed : refusal_line 16 0 ≡ ascii "refused 16 at 0" ++ line_feed
unfolding decimal digits_of
refusal_printed = refl
