-- The engines as C names them.
-- Assumes nothing.
use Rattle.std.specs.Prelude.{ℕ, cond, eqb}
use Rattle.answer.specs.declared.Engine.{Engine}

-- 1 is the engine over the text, and any other number that of rows
unfoldable pub engine_of : ℕ → Engine
engine_of n = cond (eqb n 1) Engine.Text Engine.Rows
