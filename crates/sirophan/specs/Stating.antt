-- What good rows state, said by the sheet and the text alone: names, values, joins, nots and brackets.
-- Assumes nothing.
use Rattle.std.specs.Prelude.{ℕ, suc, ◌≡◌, List}
use Rattle.base.specs.Lists.{Listed}
use Rattle.sheet.specs.Sheet.{Parameter}
use Rattle.syntax.specs.Tree.{name, Test, Tree, test, bracketed, join, negation}
use Rattle.syntax.specs.declared.Connective.{Connective}
use Rattle.rows.specs.Expression.{Expression, probing, choosing, joining, negating}
use Rattle.rows.specs.Good.{ValueFrom}
use Rattle.rows.specs.declared.Probe.{Probe}

-- a test of the parameter q: its name, the row's operator, and the value that stands at the row's position of the text
pub record StatesTest (xs : List ℕ) (q : Parameter) (p : Probe) (t : Test) : Type 0 where
  pub path : t.path ≡ name q.name
  pub operator : t.operator ≡ p.operator
  pub value : ValueFrom xs p.position t.value

-- the tree says what the expression says: each test is of the parameter that is listed at its index, a bracket is of that parameter's
-- bundle, and joins and nots are the expression's
pub data States (ps : List Parameter) (xs : List ℕ) : Expression → Tree → Type 0 where
  states_test : {p : Probe} {q : Parameter} {t : Test} → Listed ps p.index q → StatesTest xs q p t → States ps xs (probing p) (test t)
  states_bracket : {e : Expression} {p : Probe} {j at : ℕ} {q b : Parameter} {n : List ℕ} {f : Tree} {t : Test} → Listed ps p.index q → q.bundle ≡ suc j → Listed ps j b → n ≡ b.name
      → StatesTest xs q p t → States ps xs e f → States ps xs (choosing e p) (bracketed at n f t)
  states_join : {k : Connective} {e f : Expression} {g h : Tree} → States ps xs e g → States ps xs f h → States ps xs (joining k e f) (join k g h)
  states_not : {e : Expression} {f : Tree} → States ps xs e f → States ps xs (negating e) (negation f)
