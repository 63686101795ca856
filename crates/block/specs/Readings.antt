-- What reading a block answers.
-- Assumes nothing.
use Rattle.std.specs.Prelude.{Bool, cond, Err, Ok, Result, ⊤}
use Rattle.block.specs.declared.Flaw.{Flaw}

-- size, then check sum, then layout
unfoldable pub reading : Result ⊤ Flaw → Bool → Result ⊤ Flaw
reading (Err flaw) layout = Err flaw
reading (Ok t) layout = cond layout (Ok t) (Err Flaw.Layout)
