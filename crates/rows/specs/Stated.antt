-- What rows state is a filter's tree: each test has the name of its parameter and the value that its position names, and a position of its
-- own. Its meaning is that of any filter's tree.
-- Assumes nothing.
use Rattle.std.specs.Prelude.{ℕ, zero, suc, ◌-◌, List, [], ◌∷◌, get_or, Option, Some, None}
use Rattle.sheet.specs.Sheet.{Parameter}
use Rattle.sheet.specs.Find.{parents_of}
use Rattle.syntax.specs.Tree.{Test, name, Tree, test, bracketed, join, negation}
use Rattle.syntax.specs.Scan.{value_at}
use Rattle.syntax.specs.declared.RawValue.{RawValue}
use Rattle.rows.specs.Expression.{Expression, probing, choosing, joining, negating}
use Rattle.rows.specs.Shapes.{value_in}
use Rattle.rows.specs.declared.Probe.{Probe}

-- the name of the parameter with the index i
unfoldable pub name_at : ℕ → List Parameter → List ℕ
name_at i [] = []
name_at zero (p ∷ ps) = p.name
name_at (suc i) (p ∷ ps) = name_at i ps

-- the bytes of the value that a position names
abbrev pub value_by : List ℕ → Option RawValue → List ℕ
value_by xs (Some v) = value_in xs v
value_by xs None = []

-- the test that a row names: its parameter's name, its operator, and the value at its position of the text
unfoldable pub test_for : List Parameter → List ℕ → Probe → Test
test_for ps xs p = record { at = p.position; path = name (name_at p.index ps); operator = p.operator; value = value_by xs (value_at xs p.position) }

-- the name of the bundle that a test's parameter is a member of
unfoldable pub bundle_for : List Parameter → Probe → List ℕ
bundle_for ps p = name_at (get_or (parents_of ps) p.index 0 - 1) ps

-- the filter that an expression states on a sheet's parameters and a text
unfoldable pub tree_of : List Parameter → List ℕ → Expression → Tree
tree_of ps xs (probing p) = test (test_for ps xs p)
tree_of ps xs (choosing e p) = bracketed p.position (bundle_for ps p) (tree_of ps xs e) (test_for ps xs p)
tree_of ps xs (joining k e f) = join k (tree_of ps xs e) (tree_of ps xs f)
tree_of ps xs (negating e) = negation (tree_of ps xs e)
