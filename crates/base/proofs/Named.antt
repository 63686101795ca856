-- Laws of the kinds' numbers. Assumes nothing.
use Prim.Native.Nat.{ℕ, ◌<◌}
use native.Mathlib.Omega.{arith}
use mathlib.Core.Path.{◌≡◌}
use mathlib.Core.Logic.{◌⊎◌}
use Rattle.base.specs.Kinds.{kind_number, string, bundle_kind}
use Rattle.base.specs.declared.kind.Kind.{Kind}
use Rattle.base.specs.declared.kind.Kind.TheVariants as kinds

-- a number that is no kind's lies below the first or above the last
pub no_kind_beyond : (k : ℕ) → ((x : Kind) → kind_number x ≡ k → ⊥) → (k < string) ⊎ (bundle_kind < k)
no_kind_beyond k n = grind (arith, n kinds.String, n kinds.Number, n kinds.Date, n kinds.Token, n kinds.Reference, n kinds.Period, n kinds.Bundle)
