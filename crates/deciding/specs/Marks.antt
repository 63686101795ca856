-- The tests that decide, as they are computed: a test that is spared is neither yes nor no, and a filter is judged with three values.
-- Assumes nothing.
use Rattle.std.specs.Prelude.{ℕ, zero, suc, ◌+◌, Bool, true, false, cond, List}
use Rattle.syntax.specs.Tree.{Tree, test, bracketed, join, negation}
use Rattle.syntax.specs.declared.Connective.{Connective}
use Rattle.deciding.specs.declared.Mark.{Mark}
use Rattle.deciding.specs.Deciding.{outer_count, verdicts, without, cells}

abbrev pub mark : (kept says : Bool) → Mark
mark false says = Mark.Spared
mark true true = Mark.Yes
mark true false = Mark.No

-- a no decides, and else what is spared leaves it open
abbrev pub both : Mark → Mark → Mark
both Mark.No b = Mark.No
both Mark.Spared Mark.No = Mark.No
both Mark.Spared Mark.Spared = Mark.Spared
both Mark.Spared Mark.Yes = Mark.Spared
both Mark.Yes b = b

abbrev pub opposite : Mark → Mark
opposite Mark.Spared = Mark.Spared
opposite Mark.Yes = Mark.No
opposite Mark.No = Mark.Yes

abbrev pub either : Mark → Mark → Mark
either a b = opposite (both (opposite a) (opposite b))

abbrev pub joined_marks : Connective → Mark → Mark → Mark
joined_marks Connective.And a b = both a b
joined_marks Connective.Or a b = either a b

-- the mark of the filter where its j-th test has the mark m (i + j)
unfoldable pub mark_by : (ℕ → Mark) → ℕ → Tree → Mark
mark_by m i (test t) = m i
mark_by m i (bracketed p b f t) = m i
mark_by m i (join c f g) = joined_marks c (mark_by m i f) (mark_by m (i + outer_count f) g)
mark_by m i (negation f) = opposite (mark_by m i f)

abbrev pub is_decided : Mark → Bool
is_decided Mark.Spared = false
is_decided Mark.Yes = true
is_decided Mark.No = true

abbrev pub masked : (kept v : ℕ → Bool) → ℕ → Mark
masked kept v i = mark (kept i) (v i)

-- the answer stands
unfoldable pub suffices : Tree → (v kept : ℕ → Bool) → Bool
suffices f v kept = is_decided (mark_by (masked kept v) 0 f)

-- the tests below the i-th are still to be tried, the last of them first
unfoldable pub spare_below : ℕ → Tree → (v kept : ℕ → Bool) → ℕ → Bool
spare_below zero f v kept = kept
spare_below (suc i) f v kept = spare_below i f v (cond (suffices f v (without i kept)) (without i kept) kept)

unfoldable pub deciding : Tree → (v : ℕ → Bool) → ℕ → Bool
deciding f v = spare_below (outer_count f) f v (λ j. true)

-- the cells of a filter whose tests say `says`
unfoldable pub explanation : (Tree → Bool) → Tree → List ℕ
explanation says f = cells (verdicts says f) (deciding f (verdicts says f)) 0 (outer_count f)

-- ---- as numbers

-- what the cell of a test holds that has the mark: "0 spared, 1 decides by its yes, 2 decides by its no"
abbrev pub cell_of : Mark → ℕ
cell_of Mark.Spared = 0
cell_of Mark.Yes = 1
cell_of Mark.No = 2
