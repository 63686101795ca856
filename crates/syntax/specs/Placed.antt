-- The positions of a value and of a test lie inside the text, in order.
-- Assumes nothing.
use Rattle.std.specs.Prelude.{ℕ, ◌≤◌, List, length}
use Rattle.syntax.specs.declared.RawValue.{RawValue}
use Rattle.syntax.specs.declared.RawTest.{RawTest}

pub record PlacedValue (xs : List ℕ) (v : RawValue) : Type 0 where
  pub order : v.start ≤ v.end
  pub within : v.end ≤ length xs

pub record Placed (xs : List ℕ) (r : RawTest) : Type 0 where
  pub name_order : r.at ≤ r.until
  pub name_within : r.until ≤ length xs
  pub value : PlacedValue xs r.value
