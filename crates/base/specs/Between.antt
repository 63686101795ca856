-- A number between two bounds. Assumes nothing.
use Rattle.std.specs.Prelude.{ℕ, Bool, ◌&&◌, leb}

-- both bounds are allowed
unfoldable pub between : (low high : ℕ) → ℕ → Bool
between low high n = leb low n && leb n high
