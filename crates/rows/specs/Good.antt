-- Good rows (02: "rows are good when"), in 02's words.
-- Assumes nothing.
use Rattle.std.specs.Prelude.{ℕ, suc, ◌≤◌, ◌<◌, ◌≡◌, false, List, length, get_or}
use Rattle.base.specs.Kinds.{bundle_kind}
use Rattle.base.specs.Operators.{operator_words}
use Rattle.sheet.specs.Sheet.{Parameter}
use Rattle.base.specs.Lists.{Listed}
use Rattle.syntax.specs.declared.Connective.{Connective}
use Rattle.syntax.specs.Strings.{quote, is_bare}
use Rattle.syntax.specs.Grammar.{Value, deepest, most_tests}
use Rattle.kind.specs.Rules.{ReadableValue, HasOperator}
use Rattle.rows.specs.Expression.{Expression, probing, choosing, joining, negating, test_count}
use Rattle.rows.specs.Cells.{encode}
use Rattle.rows.specs.Nesting.{Nests}
use Rattle.rows.specs.declared.Probe.{Probe}

-- "each value is one by the grammar, lies inside the text": the value that a position names is a string up to its closing quote,
-- or a bare word as long as it can be
pub record ValueFrom (xs : List ℕ) (p : ℕ) (v : List ℕ) : Type 0 where
  pub end : ℕ
  pub value : Value xs p end v
  pub longest : (get_or xs p 0 ≡ quote → ⊥) → is_bare (get_or xs end 0) ≡ false

-- a test fits to the parameter that it names
pub record FitsTo (xs : List ℕ) (q : Parameter) (p : Probe) : Type 0 where
  pub no_bundle : q.kind ≡ bundle_kind → ⊥
  pub one_of : p.operator < length operator_words
  -- "with an operation of its kind"
  pub has_operator : HasOperator q.kind p.operator
  pub contents : List ℕ
  pub from : ValueFrom xs p.position contents
  -- "and is readable"
  pub readable : ReadableValue q.kind contents p.operator

-- "each test names a parameter that [9] and [10] let stand there": in c, 0 at the top and a bundle's index plus 1 in its brackets
pub data Fits (ps : List Parameter) (xs : List ℕ) : ℕ → Expression → Type 0 where
  fits_test : {c : ℕ} {p : Probe} {q : Parameter} → Listed ps p.index q → q.bundle ≡ c → FitsTo xs q p → Fits ps xs c (probing p)
  -- "each bracket names a bundle": that of the member after it
  fits_bracket : {e : Expression} {p : Probe} {j : ℕ} {q b : Parameter} → Listed ps p.index q → q.bundle ≡ suc j → Listed ps j b → b.kind ≡ bundle_kind → FitsTo xs q p
      → Fits ps xs (suc j) e → Fits ps xs 0 (choosing e p)
  fits_join : {c : ℕ} {k : Connective} {e f : Expression} → Fits ps xs c e → Fits ps xs c f → Fits ps xs c (joining k e f)
  fits_not : {c : ℕ} {e : Expression} → Fits ps xs c e → Fits ps xs c (negating e)

-- 02's good rows, on a sheet's parameters and a text
pub record Good (ps : List Parameter) (xs cs : List ℕ) : Type 0 where
  pub expression : Expression
  -- "they form one whole expression .. and nothing after it"
  pub written : cs ≡ encode expression
  -- "within both limits"
  pub nests : Nests deepest expression
  pub few : test_count expression ≤ most_tests
  pub fits : Fits ps xs 0 expression
