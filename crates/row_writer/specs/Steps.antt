-- What each step of writing rows leaves: the rows that a function writes by itself, and the filter that was read so far.
-- Assumes nothing.
use Rattle.std.specs.Prelude.{ℕ, ◌+◌, ◌-◌, ◌≤◌, ◌<◌, ◌≡◌, Bool, true, false, List, ◌++◌, length, take, set, Option, Some, None}
use Rattle.base.specs.Parts.{part}
use Rattle.base.specs.Runs.{RunEnd}
use Rattle.sheet.specs.Sheet.{Parameter, parameters_of}
use Rattle.sheet.specs.Find.{enter}
use Rattle.syntax.specs.Tree.{Tree, moved}
use Rattle.syntax.specs.Grammar.{round, square, Filter}
use Rattle.syntax.specs.Scan.{is_space, test_of, member_after, close_at}
use Rattle.syntax.specs.Reader.{chain_of, item_at, filter_at, bracket_at, chosen_at}
use Rattle.syntax.specs.declared.Connective.{Connective}
use Rattle.syntax.specs.declared.RawTest.{RawTest}
use Rattle.filter.specs.Folds.{join_summaries, reading}
use Rattle.filter.specs.declared.Spot.{Spot}
use Rattle.rows.specs.Cells.{cell_of, encode}
use Rattle.rows.specs.declared.Row.{Row}
use Rattle.row_writer.specs.Writing.{probe_for, prepared, outcome_of, written, Wrote}
use Rattle.row_writer.specs.declared.Outcome.{Outcome}
use Rattle.row_writer.specs.declared.Written.{Written}

-- the text is short, the list has its cells, and the row is not behind the position, which lies in the text
pub record Room (xs rows : List ℕ) (row at : ℕ) : Type 0 where
  pub short : length xs ≤ 1024
  pub size : length rows ≡ 1024
  pub low : row ≤ at
  pub within : at ≤ length xs

-- two parts can be joined: the cell between their rows is one of the list, and the sums fit
pub record Joinable (rows : List ℕ) (row : ℕ) (v w : Outcome) : Type 0 where
  pub place : row + v.cells < length rows
  pub cells : v.cells + w.cells ≤ 1024
  pub tests : v.summary.tests + w.summary.tests ≤ 1024

-- ---- rows that are written

-- a test, in its row
pub record WroteTest (ps : List Parameter) (c : ℕ) (xs : List ℕ) (row : ℕ) (t : RawTest) (r : Written) (before after : List ℕ) : Type 0 where
  pub answers : r ≡ written t.value.next (record { summary = (reading ps c).one (test_of xs t); cells = 1 })
  pub cells : after ≡ set before row (cell_of (Row.Test (probe_for ps xs c (test_of xs t))))
  pub room : row < length before

-- not, behind the rows of a filter
pub record WroteNot (end : ℕ) (v : Outcome) (row : ℕ) (r : Written) (before after : List ℕ) : Type 0 where
  pub answers : r ≡ written end (record { summary = v.summary; cells = v.cells + 1 })
  pub cells : after ≡ set before (row + v.cells) (cell_of Row.Not)
  pub room : row + v.cells < length before

-- where the brackets close behind the filter in them, which ends at q, after not or without it
pub data WroteClosed (xs : List ℕ) (q : ℕ) (b : Bool) (v : Outcome) (row : ℕ) : Option Written → (before after : List ℕ) → Type 0 where
  no_close : {l : List ℕ} → close_at xs round q ≡ None → WroteClosed xs q b v row None l l
  closed : {end : ℕ} {l : List ℕ} → close_at xs round q ≡ Some end → b ≡ false → WroteClosed xs q b v row (Some (written end v)) l l
  closed_not : {end : ℕ} {r : Written} {l m : List ℕ} → close_at xs round q ≡ Some end → b ≡ true → WroteNot end v row r l m → WroteClosed xs q b v row (Some r) l m

-- brackets and the test of a member, before the rows of the filter in the brackets
pub record WrotePair (ps : List Parameter) (c : ℕ) (xs : List ℕ) (at : ℕ) (t : RawTest) (v : Outcome) (row : ℕ) (r : Written) (before after : List ℕ) : Type 0 where
  pub answers : r ≡ written t.value.next (record { summary = join_summaries ((reading ps c).one (moved at (test_of xs t))) v.summary; cells = v.cells + 2 })
  pub cells : after ≡ set (set before row (cell_of (Row.Bracket v.cells))) (row + 1) (cell_of (Row.Test (probe_for ps xs c (test_of xs t))))
  pub room : row + 1 < length before

-- the same where the test of a member follows the filter in the brackets, which ends at q
pub data WroteMember (ps : List Parameter) (c : ℕ) (xs : List ℕ) (spot : Spot) (q : ℕ) (v : Outcome) (row : ℕ) : Option Written → (before after : List ℕ) → Type 0 where
  no_member : {l : List ℕ} → member_after xs spot.close q ≡ None → WroteMember ps c xs spot q v row None l l
  a_member : {t : RawTest} {r : Written} {l m : List ℕ} → member_after xs spot.close q ≡ Some t → WrotePair ps c xs spot.at t v row r l m → WroteMember ps c xs spot q v row (Some r) l m

-- a connective, between the rows of its parts
pub record WroteJoin (k : Connective) (v w : Outcome) (row : ℕ) (r : Outcome) (before after : List ℕ) : Type 0 where
  pub answers : r ≡ record { summary = join_summaries v.summary w.summary; cells = v.cells + w.cells + 1 }
  pub cells : after ≡ set before (row + v.cells) (cell_of (Row.Connect k w.cells))
  pub room : row + v.cells < length before

-- ---- what is read around them

-- the spot in the square brackets of the bundle whose name stands from a spot up to u
pub record Inside (ps : List Parameter) (xs : List ℕ) (spot : Spot) (u : ℕ) (r : Spot) : Type 0 where
  pub bundle : r.bundle ≡ enter ps spot.bundle (part xs spot.at u)
  pub spaces : RunEnd is_space xs (u + 1) r.at
  pub levels : r.levels ≡ spot.levels
  pub close : r.close ≡ square

-- what was read from p up to m is a filter, its rows are written, and the chain from m on decides the rest
pub record Chained (ps : List Parameter) (c : ℕ) (xs : List ℕ) (row close d p : ℕ) (before : List ℕ) (m : ℕ) (v : Outcome) (list : List ℕ) : Type 0 where
  pub left : ℕ
  pub tree : Tree
  pub reads : filter_at d xs close p ≡ chain_of left xs (λ k. item_at d xs close k) m tree
  pub enough : length xs - m + 1 ≤ left
  pub derives : Filter xs close d p m tree
  pub value : v ≡ outcome_of ps c tree
  pub cells : take (row + v.cells) list ≡ take row before ++ encode (prepared ps xs c tree)
  pub same_size : length list ≡ length before
  pub room : row + v.cells ≤ m
  pub within : m ≤ length xs
  pub short : length xs ≤ 1024
  pub size : length list ≡ 1024

-- ---- what the walk has read and written at a spot, of a sheet's bytes and a text

abbrev pub WroteItem : (sheet xs : List ℕ) → Spot → ℕ → Option Written → (before after : List ℕ) → Type 0
WroteItem sheet xs spot row = Wrote (parameters_of sheet) spot.bundle xs row (item_at spot.levels xs spot.close spot.at)

abbrev pub WroteFilter : (sheet xs : List ℕ) → Spot → ℕ → Option Written → (before after : List ℕ) → Type 0
WroteFilter sheet xs spot row = Wrote (parameters_of sheet) spot.bundle xs row (filter_at spot.levels xs spot.close spot.at)

abbrev pub WroteRound : (sheet xs : List ℕ) → Spot → Bool → ℕ → Option Written → (before after : List ℕ) → Type 0
WroteRound sheet xs spot negate row = Wrote (parameters_of sheet) spot.bundle xs row (bracket_at spot.levels xs negate spot.at)

abbrev pub WroteChosen : (sheet xs : List ℕ) → Spot → ℕ → ℕ → Option Written → (before after : List ℕ) → Type 0
WroteChosen sheet xs spot u row = Wrote (parameters_of sheet) spot.bundle xs row (chosen_at spot.levels xs spot.close spot.at u)

abbrev pub ChainedAt : (sheet xs : List ℕ) → Spot → ℕ → List ℕ → ℕ → Outcome → List ℕ → Type 0
ChainedAt sheet xs spot row = Chained (parameters_of sheet) spot.bundle xs row spot.close spot.levels spot.at
