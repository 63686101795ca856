-- Lines 14 to 18 of the table of refusals, which are about a test.
-- Assumes nothing.
use Rattle.std.specs.Prelude.{ℕ, ◌≤◌, ◌≡◌, true, false, List}
use Rattle.refusal.specs.Order.{rank}
use Rattle.base.specs.Kinds.{bundle_kind}
use Rattle.sheet.specs.Sheet.{Parameter}
use Rattle.syntax.specs.Tree.{Test}
use Rattle.judge.specs.Faults.{unsupported}
use Rattle.kind.specs.Rules.{ReadableValue, HasOperator}
use Rattle.judge.specs.Rules.{Names, NotOnSheet}

-- the line with the number holds for the test
pub data TestLine (ps : List Parameter) (t : Test) : ℕ → Type 0 where
  -- "name not on the sheet"
  line_14 : NotOnSheet ps t.path → TestLine ps t 14
  -- 02: "a bundle's name with no bracket"
  line_18 : {i : ℕ} → Names ps t.path i bundle_kind → TestLine ps t 18
  -- "word is ap, ss, sb, in or ni"
  line_15 : unsupported t.operator ≡ true → TestLine ps t 15
  -- "another word without a meaning for the kind"
  line_16 : {i k : ℕ} → Names ps t.path i k → unsupported t.operator ≡ false → (HasOperator k t.operator → ⊥) → TestLine ps t 16
  -- "value unreadable"
  line_17 : {i k : ℕ} → Names ps t.path i k → (ReadableValue k t.value t.operator → ⊥) → TestLine ps t 17

-- of the lines that hold of a test, the table gives it the number n: "within it the lower number"
pub record Numbered (Line : ℕ → Type 0) (n : ℕ) : Type 0 where
  pub line : Line n
  pub lowest : (m : ℕ) → Line m → rank n ≤ rank m
