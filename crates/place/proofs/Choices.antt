-- The answers of code that tests one thing after another, as choices.
-- Assumes nothing.
use Prim.Native.Nat.{ℕ, ◌≤◌, ◌<◌}
use mathlib.Core.Path.{◌≡◌, sym, ◌∙◌}
use mathlib.Core.Bool.{Bool, true, false, cond}
use lib.Dec.{eqb, ltb}
use borrow.Author.Tests.{eq-eqb, ne_eqb, lt-ltb, le-ltb}

module _ {A : Type 0} (z x y : A) where
  pub yes : (c r : Bool) → r ≡ c → r ≡ true → z ≡ x → z ≡ cond c x y
  yes c r e h i = rw (sym e ∙ h) i

  pub no : (c r : Bool) → r ≡ c → r ≡ false → z ≡ y → z ≡ cond c x y
  no c r e h i = rw (sym e ∙ h) i

  pub less_yes : (a b : ℕ) → a < b → z ≡ x → z ≡ cond (ltb a b) x y
  less_yes a b h i = rw (lt-ltb a b h) i

  pub less_no : (a b : ℕ) → b ≤ a → z ≡ y → z ≡ cond (ltb a b) x y
  less_no a b h i = rw (le-ltb a b h) i

  pub same_yes : (a b : ℕ) → a ≡ b → z ≡ x → z ≡ cond (eqb a b) x y
  same_yes a b h i = rw (eq-eqb a b h) i

  pub same_no : (a b : ℕ) → (a ≡ b → ⊥) → z ≡ y → z ≡ cond (eqb a b) x y
  same_no a b h i = rw (ne_eqb a b h) i

pub ruleset choices = (yes, no, less_yes, less_no, same_yes, same_no)
