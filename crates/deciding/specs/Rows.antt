-- What the code does over rows: the verdicts of the tests that they state, the mark of the whole, and the tests that are spared.
-- Assumes nothing.
use Rattle.std.specs.Prelude.{ℕ, ◌+◌, ◌≤◌, ◌<◌, ◌≡◌, Bool, true, false, List, [], ◌∷◌, ◌++◌, length, get_or, drop}
use Rattle.std.proofs.Math.Option.{some}
use Rattle.card.specs.Card.{Entry, entries_of}
use Rattle.syntax.specs.Tree.{Tree}
use Rattle.rows.specs.Expression.{Expression, probing, choosing, joining, negating}
use Rattle.rows.specs.Cells.{Writable, on_from, stated}
use Rattle.rows.specs.declared.Probe.{Probe}
use Rattle.row_judge.specs.Saying.{expression_says, Whole}
use Rattle.rows.specs.Stated.{tree_of}
use Rattle.deciding.specs.Deciding.{outer_count}
use Rattle.deciding.specs.Marks.{mark, mark_by, masked, deciding}
use Rattle.deciding.specs.declared.Mark.{Mark}
use Rattle.deciding.specs.declared.Marked.{Marked}

-- the tree that an expression states, with no names: which tests decide goes by joins, negations and brackets alone
abbrev pub outline : Expression → Tree
outline = tree_of [] []

-- what each of its tests says, one after brackets with them
unfoldable pub outer_verdicts : List ℕ → List ℕ → List Entry → Expression → List Bool
outer_verdicts kinds xs es (probing p) = expression_says kinds xs es (probing p) ∷ []
outer_verdicts kinds xs es (choosing e p) = expression_says kinds xs es (choosing e p) ∷ []
outer_verdicts kinds xs es (joining k e f) = outer_verdicts kinds xs es e ++ outer_verdicts kinds xs es f
outer_verdicts kinds xs es (negating e) = outer_verdicts kinds xs es e

-- the marks in a list, by their numbers
abbrev pub marks_in : List Mark → ℕ → Mark
marks_in marks j = get_or marks j Mark.Spared

-- one test, alone or after brackets
pub data Single : Expression → Type 0 where
  single_test : {p : Probe} → Single (probing p)
  single_bracket : {e : Expression} {p : Probe} → Single (choosing e p)

-- an expression that is in hand before the row at
pub record Reading (rows : List ℕ) (at : ℕ) (e : Expression) : Type 0 where
  pub within : at ≤ length rows
  pub writable : Writable e
  pub rest : stated rows ≡ on_from stated 0 e (drop at rows)

-- the first test is read, with its brackets
pub record Starts (rows : List ℕ) (at : ℕ) : Type 0 where
  pub expression : Expression
  pub single : Single expression
  pub reading : Reading rows at expression
  pub some_rows : 1 ≤ at

-- the mark of what the rows state, where the first of their tests has the number first, and the number of the test behind them
pub record MarksFrom (rows : List ℕ) (marks : List Mark) (first : ℕ) (r : Marked) : Type 0 where
  pub whole : (e : Expression) → stated rows ≡ some e → r.mark ≡ mark_by (marks_in marks) first (outline e)
  pub next : (e : Expression) → stated rows ≡ some e → r.next ≡ first + outer_count (outline e)
  pub most : r.next ≤ first + length rows

-- the mark of what the rows state
pub record MarksWhole (rows : List ℕ) (marks : List Mark) (r : Mark) : Type 0 where
  pub whole : (e : Expression) → stated rows ≡ some e → r ≡ mark_by (marks_in marks) 0 (outline e)

-- the rows state few enough tests for a list of n, from the number first on
pub record Room (rows : List ℕ) (first n : ℕ) : Type 0 where
  pub each : (e : Expression) → stated rows ≡ some e → first + outer_count (outline e) ≤ n

-- rows that state an expression, whose tests have room in the list of marks from the number first on
pub record Markable (rows : List ℕ) (first : ℕ) (marks : List Mark) : Type 0 where
  pub whole : Whole rows
  pub few : length rows ≤ 320
  pub room : Room rows first 32
  pub size : length marks ≡ 32

-- the tests of the expression in hand before the row at are marked, from the number first on and before next
pub record Gathering (kinds xs : List ℕ) (es : List Entry) (rows : List ℕ) (first at next : ℕ) (before after : List Mark) : Type 0 where
  pub expression : Expression
  pub reading : Reading rows at expression
  pub count : next ≡ first + outer_count (outline expression)
  pub verdicts : (j : ℕ) → j < outer_count (outline expression) → get_or after (first + j) Mark.Spared ≡ mark true (get_or (outer_verdicts kinds xs es expression) j false)
  pub below : (j : ℕ) → j < first → get_or after j Mark.Spared ≡ get_or before j Mark.Spared
  pub same_size : length after ≡ length before
  pub markable : Markable rows first after

-- the first test is marked, which ends before the row at
abbrev pub FirstMarked : (kinds xs card rows : List ℕ) → (first at : ℕ) → List Mark → Type 0
FirstMarked kinds xs card rows first at marks = Gathering kinds xs (entries_of card) rows first at (first + 1) marks marks

-- the number of the test behind those that the rows state, and in the list, from the number first on, the mark of what each says
pub record Gathers (kinds xs : List ℕ) (es : List Entry) (rows : List ℕ) (first next : ℕ) (before after : List Mark) : Type 0 where
  pub count : (e : Expression) → stated rows ≡ some e → next ≡ first + outer_count (outline e)
  pub verdicts : (e : Expression) → stated rows ≡ some e → (j : ℕ) → j < outer_count (outline e) → get_or after (first + j) Mark.Spared ≡ mark true (get_or (outer_verdicts kinds xs es e) j false)
  pub below : (j : ℕ) → j < first → get_or after j Mark.Spared ≡ get_or before j Mark.Spared
  pub size : length after ≡ length before

-- the number of tests that the rows state, and in the list the mark of what each says
pub record Tells (kinds xs : List ℕ) (es : List Entry) (rows : List ℕ) (tests : ℕ) (marks : List Mark) : Type 0 where
  pub count : (e : Expression) → stated rows ≡ some e → tests ≡ outer_count (outline e)
  pub verdicts : (e : Expression) → stated rows ≡ some e → (j : ℕ) → j < tests → get_or marks j Mark.Spared ≡ mark true (get_or (outer_verdicts kinds xs es e) j false)
  pub size : length marks ≡ 32

-- where the list has what each test says, it has at exit the marks of the tests that decide
pub record Spares (rows : List ℕ) (tests : ℕ) (before after : List Mark) : Type 0 where
  pub decides : (e : Expression) (v : ℕ → Bool) → stated rows ≡ some e → tests ≡ outer_count (outline e) → ((j : ℕ) → j < tests → get_or before j Mark.Spared ≡ mark true (v j))
      → (j : ℕ) → j < tests → get_or after j Mark.Spared ≡ masked (deciding (outline e) v) v j
  pub size : length after ≡ length before
