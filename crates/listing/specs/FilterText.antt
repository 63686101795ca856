-- The filter's text in its file.
-- Assumes nothing.
use Rattle.std.specs.Prelude.{ℕ, ◌-◌, cond, List, eqb, length, get_or, take}

-- "one last line feed dropped"
unfoldable pub without_line_feed : List ℕ → List ℕ
without_line_feed text =
    cond (eqb (length text) 0) text (cond (eqb (get_or text (length text - 1) 0) 10) (take (length text - 1) text) text)
