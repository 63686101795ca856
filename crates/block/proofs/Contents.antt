-- What a block holds, as its reader and as its writer have it.
-- Assumes nothing.
use Prim.Native.Nat.{ℕ, ◌+◌, ◌≤◌}
use mathlib.Core.Path.{◌≡◌}
use mathlib.Core.Bool.{true}
use mathlib.Core.List.{List}
use lib.ListN.{length, get_or}
use Rattle.base.specs.Bytes.{Bytes}
use Rattle.base.specs.Lists.{All}
use Rattle.block.specs.Seal.{IsSealed, seal}
use Rattle.block.specs.Items.{has_layout, items}

-- b is read as a block whose first byte is `first`, with the items xs after the byte at `at`
pub record Held {X : Type 0} (make : ℕ → ℕ → List ℕ → X) (first at most : ℕ) (b : List ℕ) (xs : List X) : Type 0 where
  pub bytes : Bytes b
  pub sealed : IsSealed b
  pub layout : has_layout first at most b ≡ true
  pub same : items make (get_or b at 0) b (at + 1) ≡ xs

-- b is written as the seal of a body that ends with the items xs
pub record Written {X : Type 0} (bytes_of : X → List ℕ) (most : ℕ) (body b : List ℕ) (xs : List X) : Type 0 where
  pub few : length xs ≤ most
  pub each : All (λ (x : X). Bytes (bytes_of x)) xs
  pub room : length body ≤ 508
  pub same : b ≡ seal body
