-- The expression that is prepared of a filter, and what is written of it: its cells, from a row on.
-- Assumes nothing.
use Rattle.std.specs.Prelude.{ℕ, suc, ◌+◌, ◌≡◌, List, ◌++◌, length, take, Option, None, Some}
use Rattle.sheet.specs.Sheet.{Parameter}
use Rattle.sheet.specs.Find.{enter}
use Rattle.sheet.specs.declared.Found.{Found}
use Rattle.syntax.specs.Tree.{Test, Tree, test, bracketed, join, negation, tests_of}
use Rattle.syntax.specs.Scan.{skip_at, name_end, value_at}
use Rattle.syntax.specs.Reader.{Parsed, parsed, unparsed}
use Rattle.syntax.specs.declared.RawTest.{RawTest}
use Rattle.judge.specs.Sets.{lookup}
use Rattle.filter.specs.Folds.{summary_of}
use Rattle.rows.specs.Expression.{Expression, probing, choosing, joining, negating}
use Rattle.rows.specs.Cells.{encode}
use Rattle.rows.specs.declared.Probe.{Probe}
use Rattle.row_writer.specs.declared.Outcome.{Outcome}
use Rattle.row_writer.specs.declared.Written.{Written}

-- where the value of the test at p begins: after its name, its operator and the spaces behind each
abbrev pub value_place : List ℕ → ℕ → ℕ
value_place xs p = skip_at xs (skip_at xs (name_end xs p) + 2)

-- the index of what was found, and 0 where nothing was
abbrev pub index_of : Option Found → ℕ
index_of (Some found) = found.index
index_of None = 0

-- a test of the text by index, operator and position, its path looked up in c
unfoldable pub probe_for : List Parameter → List ℕ → ℕ → Test → Probe
probe_for ps xs c t = record { index = index_of (lookup ps c t.path); operator = t.operator; position = value_place xs t.at }

-- the expression of a filter's rows: each name is the index that it has in its bundle, and each value is its position
unfoldable pub prepared : List Parameter → List ℕ → ℕ → Tree → Expression
prepared ps xs c (test t) = probing (probe_for ps xs c t)
prepared ps xs c (bracketed p b f t) = choosing (prepared ps xs (enter ps c b) f) (probe_for ps xs (enter ps c b) t)
prepared ps xs c (join k f g) = joining k (prepared ps xs c f) (prepared ps xs c g)
prepared ps xs c (negation f) = negating (prepared ps xs c f)

-- how many cells it has
unfoldable pub cell_count : Tree → ℕ
cell_count (test t) = 1
cell_count (bracketed p b f t) = suc (suc (cell_count f))
cell_count (join k f g) = suc (cell_count f + cell_count g)
cell_count (negation f) = suc (cell_count f)

-- ---- what reading a filter answers

abbrev pub outcome_of : List Parameter → ℕ → Tree → Outcome
outcome_of ps c f = record { summary = summary_of ps c (tests_of f); cells = cell_count f }

-- what was written up to q, with what was gathered
abbrev pub written : ℕ → Outcome → Written
written q v = record { end = q; outcome = v }

unfoldable pub written_of : List Parameter → ℕ → Parsed → Option Written
written_of ps c (parsed q f) = Some (written q (outcome_of ps c f))
written_of ps c unparsed = None

-- the cells before the row are as they were, and those of the expression follow them
pub record Wrote (ps : List Parameter) (c : ℕ) (xs : List ℕ) (row : ℕ) (o : Parsed) (r : Option Written) (before after : List ℕ) : Type 0 where
  pub answers : r ≡ written_of ps c o
  pub cells : (q : ℕ) (f : Tree) → o ≡ parsed q f → take (row + cell_count f) after ≡ take row before ++ encode (prepared ps xs c f)
  pub size : length after ≡ length before

-- the value that was read with a test stands where the test's value begins
pub record Read (xs : List ℕ) (t : RawTest) : Type 0 where
  pub found : value_at xs (value_place xs t.at) ≡ Some t.value
