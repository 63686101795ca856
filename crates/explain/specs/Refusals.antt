-- The table of refusals for explain, into a list of `room` cells: the lines of match, and 33.
-- Assumes nothing.
use Rattle.std.specs.Prelude.{ℕ, ◌<◌, ◌⊎◌, List}
use Rattle.syntax.specs.Tree.{Tree}
use Rattle.syntax.specs.Grammar.{Spells}
use Rattle.answer.specs.Refusals.{MatchLine}
use Rattle.deciding.specs.Deciding.{outer_count}

-- the line about the list
pub data MarksLine (text : List ℕ) (room : ℕ) : ℕ → ℕ → Type 0 where
  -- 02: "33 when the list has fewer cells than tests, place the number of tests"
  line_33 : {f : Tree} → Spells text f → room < outer_count f → MarksLine text room 33 (outer_count f)

-- "as match; then 33"
abbrev pub ExplainLine : (sheet text card : List ℕ) → (room : ℕ) → ℕ → ℕ → Type 0
ExplainLine sheet text card room n p = MatchLine sheet text card n p ⊎ MarksLine text room n p
