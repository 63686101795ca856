-- Whether rows are good, as a test that computes. Kinds and parents are tables by index.
-- Assumes nothing.
use Rattle.std.specs.Prelude.{ℕ, suc, ◌≤◌, ◌≡◌, Bool, true, false, cond, not, ◌&&◌, List, eqb, ltb, leb, length, get_or, drop, Option, Some, None}
use Rattle.std.proofs.Math.Option as maybe
use Rattle.std.proofs.Math.Option.{none, some}
use Rattle.base.specs.Kinds.{bundle_kind}
use Rattle.base.specs.Parts.{part}
use Rattle.syntax.specs.Grammar.{deepest, most_tests}
use Rattle.syntax.specs.Scan.{value_at, contents}
use Rattle.syntax.specs.declared.RawValue.{RawValue}
use Rattle.kind.specs.Table.{has_meaning}
use Rattle.kind.specs.Readable.{value_readable}
use Rattle.rows.specs.Expression.{Expression, probing, choosing, joining, negating, test_count}
use Rattle.rows.specs.Cells.{row_of, on_from, stated_in, stated}
use Rattle.rows.specs.Nesting.{shape_of}
use Rattle.rows.specs.declared.Begun.{Begun}
use Rattle.rows.specs.declared.Probe.{Probe}
use Rattle.rows.specs.declared.Row.{Row}
use Rattle.rows.specs.declared.Shape.{Shape}

-- ---- a test

-- the parameter is there, is no bundle, and its kind has the operator
unfoldable pub kind_fits : ℕ → ℕ → Bool
kind_fits k kind = not (eqb kind 0) && (not (eqb kind bundle_kind) && (ltb k 19 && has_meaning k kind))

-- the bytes of a value of the text
abbrev pub value_in : List ℕ → RawValue → List ℕ
value_in xs v = contents v.escaped (part xs v.start v.end)

abbrev pub value_fits : ℕ → ℕ → List ℕ → Option RawValue → Bool
value_fits k kind xs (Some v) = value_readable k kind (value_in xs v)
value_fits k kind xs None = false

unfoldable pub probe_fits : List ℕ → List ℕ → Probe → Bool
probe_fits kinds xs p = kind_fits p.operator (get_or kinds p.index 0) && value_fits p.operator (get_or kinds p.index 0) xs (value_at xs p.position)

-- 1 for yes
abbrev pub bit : Bool → ℕ
bit true = 1
bit false = 0

-- the index plus 1 of the bundle that a test's parameter is a member of, where the test fits; else 0
unfoldable pub member_of : List ℕ → List ℕ → List ℕ → Probe → ℕ
member_of kinds parents xs p = cond (probe_fits kinds xs p) (get_or parents p.index 0) 0

-- the same of a row's test
abbrev pub member_by : List ℕ → List ℕ → List ℕ → Row → ℕ
member_by kinds parents xs (Row.Test p) = member_of kinds parents xs p
member_by kinds parents xs (Row.Bracket n) = 0
member_by kinds parents xs Row.Not = 0
member_by kinds parents xs (Row.Connect c n) = 0
member_by kinds parents xs Row.Unknown = 0

-- ---- an expression

-- its tests fit in c, 0 at the top and a bundle's index plus 1 in its brackets
unfoldable pub fits_in : List ℕ → List ℕ → List ℕ → ℕ → Expression → Bool
fits_in kinds parents xs c (probing p) = probe_fits kinds xs p && eqb (get_or parents p.index 0) c
fits_in kinds parents xs c (choosing e p) = eqb c 0 && (not (eqb (member_of kinds parents xs p) 0) && fits_in kinds parents xs (member_of kinds parents xs p) e)
fits_in kinds parents xs c (joining k e f) = fits_in kinds parents xs c e && fits_in kinds parents xs c f
fits_in kinds parents xs c (negating e) = fits_in kinds parents xs c e

-- ---- good rows

abbrev pub good_by : List ℕ → List ℕ → List ℕ → maybe.Option Expression → Bool
good_by kinds parents xs none = false
good_by kinds parents xs (some e) = leb (test_count e) most_tests && (leb (shape_of e).chain deepest && fits_in kinds parents xs 0 e)

unfoldable pub good : List ℕ → List ℕ → List ℕ → List ℕ → Bool
good kinds parents xs cs = good_by kinds parents xs (stated cs)

-- ---- as the code goes

abbrev pub shape_by : (Expression → Bool) → maybe.Option Expression → Option Shape
shape_by fits none = None
shape_by fits (some e) = cond (fits e) (Some (shape_of e)) None

-- nothing is stated that fits
pub record Misfit (fits : Expression → Bool) (o : maybe.Option Expression) : Type 0 where
  pub each : (e : Expression) → o ≡ some e → fits e ≡ false

-- an expression that fits, with its shape, is in hand before the next row; what all rows state follows from it and the rows from there on
pub record InHand (kinds parents xs : List ℕ) (c k : ℕ) (cs : List ℕ) (next : ℕ) (s : Shape) : Type 0 where
  pub expression : Expression
  pub rest : stated_in (suc k) cs ≡ on_from (λ l. stated_in k l) 0 expression (drop next cs)
  pub fits : fits_in kinds parents xs c expression ≡ true
  pub is : s ≡ shape_of expression
  pub within : next ≤ length cs
  pub few_tests : s.tests ≤ next
  pub few_levels : s.chain ≤ next

-- the first test was read, with the brackets before it
pub data Began (kinds parents xs : List ℕ) (c k : ℕ) (cs : List ℕ) : Option Begun → Type 0 where
  began_at : {b : Begun} → InHand kinds parents xs c k cs b.next b.shape → Began kinds parents xs c k cs (Some b)
  began_nothing : Misfit (fits_in kinds parents xs c) (stated_in (suc k) cs) → Began kinds parents xs c k cs None

-- of rows that begin with brackets with n rows in them, at the top
pub record BeganInBrackets (kinds parents xs : List ℕ) (k : ℕ) (cs : List ℕ) (n : ℕ) (r : Option Begun) : Type 0 where
  pub began : row_of (get_or cs 0 0) ≡ Row.Bracket n → 1 ≤ length cs → Began kinds parents xs 0 k cs r
