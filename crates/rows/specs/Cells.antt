-- Rows are read from left to right with one expression in hand, a cell each. A test begins, or brackets with the number of rows in them and
-- the test after them; not turns round what is in hand; a join stands between its parts and has the number of rows of its second part.
-- What each cell says, the cells of an expression, and the expression that cells state.
-- Assumes nothing.
use Rattle.std.specs.Prelude.{ℕ, zero, suc, ◌+◌, ◌*◌, ◌/◌, ◌%◌, ◌<◌, cond, List, [], ◌∷◌, ◌++◌, eqb, length, take}
use Rattle.std.proofs.Math.Option.{Option, none, some}
use Rattle.syntax.specs.declared.Connective.{Connective}
use Rattle.rows.specs.Expression.{Expression, probing, choosing, joining, negating}
use Rattle.rows.specs.declared.Probe.{Probe}
use Rattle.rows.specs.declared.Row.{Row}

-- ---- cells

-- a test's number: the index of its parameter, its operator's number, and the position of its value's first byte in the text
abbrev pub number_of : Probe → ℕ
number_of p = p.index + 32 * (p.operator + 32 * p.position)

-- the test that a number says, digit by digit: the index below 32, the operator below 32, the position
unfoldable pub probe_of : ℕ → Probe
probe_of n = record { index = n % 32; operator = n / 32 % 32; position = n / 32 / 32 }

-- what a cell says: eight times a test's number; 2 is not; eight times a number of rows, and 1 for brackets around them, 3 for and, 4 for or
unfoldable pub row_of : ℕ → Row
row_of c =
    cond (eqb (c % 8) 0) (Row.Test (probe_of (c / 8)))
    (cond (eqb (c % 8) 1) (Row.Bracket (c / 8))
    (cond (eqb (c % 8) 3) (Row.Connect Connective.And (c / 8)) (cond (eqb (c % 8) 4) (Row.Connect Connective.Or (c / 8)) (cond (eqb c 2) Row.Not Row.Unknown))))

-- the cell of a row; a row that is none has one too, which says nothing
unfoldable pub cell_of : Row → ℕ
cell_of (Row.Test p) = 8 * number_of p
cell_of (Row.Bracket n) = 8 * n + 1
cell_of Row.Not = 2
cell_of (Row.Connect Connective.And n) = 8 * n + 3
cell_of (Row.Connect Connective.Or n) = 8 * n + 4
cell_of Row.Unknown = 5

-- ---- the cells of an expression

unfoldable pub encode : Expression → List ℕ
encode (probing p) = cell_of (Row.Test p) ∷ []
encode (choosing e p) = cell_of (Row.Bracket (length (encode e))) ∷ (cell_of (Row.Test p) ∷ encode e)
encode (joining c e f) = encode e ++ (cell_of (Row.Connect c (length (encode f))) ∷ encode f)
encode (negating e) = encode e ++ (cell_of Row.Not ∷ [])

-- a test that a cell can say
pub record Sayable (p : Probe) : Type 0 where
  pub index : p.index < 32
  pub operator : p.operator < 32

-- an expression that cells can say
pub data Writable : Expression → Type 0 where
  writable_test : {p : Probe} → Sayable p → Writable (probing p)
  writable_bracket : {e : Expression} {p : Probe} → Writable e → Sayable p → Writable (choosing e p)
  writable_join : {c : Connective} {e f : Expression} → Writable e → Writable f → Writable (joining c e f)
  writable_not : {e : Expression} → Writable e → Writable (negating e)

-- ---- the expression that cells state

-- what a part states, and what follows of it
abbrev pub and_then : Option Expression → (Expression → Option Expression) → Option Expression
and_then none then = none
and_then (some e) then = then e

-- a row behind the expression in hand, and the rows after it
abbrev pub next_row : (ℕ → Expression → Option Expression) → (List ℕ → Option Expression) → Expression → List ℕ → Row → Option Expression
next_row go inner e cs (Row.Test p) = none
next_row go inner e cs (Row.Bracket n) = none
next_row go inner e cs Row.Not = go 0 (negating e)
next_row go inner e cs (Row.Connect c n) = and_then (inner (take n cs)) (λ f. go n (joining c e f))
next_row go inner e cs Row.Unknown = none

-- the expression in hand and all rows behind the next n
unfoldable pub on_from : (List ℕ → Option Expression) → ℕ → Expression → List ℕ → Option Expression
on_from inner zero e [] = some e
on_from inner (suc n) e [] = none
on_from inner zero e (c ∷ cs) = next_row (λ n f. on_from inner n f cs) inner e cs (row_of c)
on_from inner (suc n) e (c ∷ cs) = on_from inner n e cs

-- brackets with n rows in them, by the row of the test
abbrev pub after_brackets : (List ℕ → Option Expression) → ℕ → List ℕ → Row → Option Expression
after_brackets inner n cs (Row.Test p) = and_then (inner (take n cs)) (λ e. on_from inner n (choosing e p) cs)
after_brackets inner n cs (Row.Bracket m) = none
after_brackets inner n cs Row.Not = none
after_brackets inner n cs (Row.Connect c m) = none
after_brackets inner n cs Row.Unknown = none

abbrev pub in_brackets : (List ℕ → Option Expression) → ℕ → List ℕ → Option Expression
in_brackets inner n [] = none
in_brackets inner n (c ∷ cs) = after_brackets inner n cs (row_of c)

-- by the first row
abbrev pub by_first : (List ℕ → Option Expression) → List ℕ → Row → Option Expression
by_first inner cs (Row.Test p) = on_from inner 0 (probing p) cs
by_first inner cs (Row.Bracket n) = in_brackets inner n cs
by_first inner cs Row.Not = none
by_first inner cs (Row.Connect c n) = none
by_first inner cs Row.Unknown = none

abbrev pub whole_by : (List ℕ → Option Expression) → List ℕ → Option Expression
whole_by inner [] = none
whole_by inner (c ∷ cs) = by_first inner cs (row_of c)

-- by parts nested at most k deep
unfoldable pub stated_in : ℕ → List ℕ → Option Expression
stated_in zero cs = none
stated_in (suc k) cs = whole_by (λ l. stated_in k l) cs

-- the one whole expression, with nothing after it
unfoldable pub stated : List ℕ → Option Expression
stated cs = stated_in (length cs) cs
