-- Both limits, of what rows state: as those of a text that spells it.
-- Assumes nothing.
use Rattle.std.specs.Prelude.{ℕ, List}
use Rattle.sheet.specs.Sheet.{Parameter}
use Rattle.syntax.specs.Tree.{Tree}
use Rattle.syntax.specs.Grammar.{Spells}
use Rattle.rows.specs.Expression.{Expression}
use Rattle.sirophan.specs.Stating.{States}

-- the text `spelling` is a filter, within both limits, that says what the expression says of the sheet's parameters and the text xs
pub record SpelledBy (ps : List Parameter) (xs : List ℕ) (e : Expression) (spelling : List ℕ) : Type 0 where
  pub tree : Tree
  pub spells : Spells spelling tree
  pub states : States ps xs e tree
