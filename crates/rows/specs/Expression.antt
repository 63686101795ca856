-- The expression that rows state: tests by the index of their parameter, their operator and the position of their value.
-- Assumes nothing.
use Rattle.std.specs.Prelude.{ℕ, suc, ◌+◌}
use Rattle.syntax.specs.declared.Connective.{Connective}
use Rattle.rows.specs.declared.Probe.{Probe}

-- what rows state: tests, each by its parameter, operator and value's position, joined and negated
pub data Expression : Type 0 where
  probing : Probe → Expression
  -- the test of a member, on the occurrences of its bundle of which the expression in the brackets says yes
  choosing : Expression → Probe → Expression
  joining : Connective → Expression → Expression → Expression
  negating : Expression → Expression

-- the number of its tests, those in brackets among them
unfoldable pub test_count : Expression → ℕ
test_count (probing p) = 1
test_count (choosing e p) = suc (test_count e)
test_count (joining c e f) = test_count e + test_count f
test_count (negating e) = test_count e
