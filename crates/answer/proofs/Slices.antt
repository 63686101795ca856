-- Bytes as the code has them: the type of a slice says that each is below 256.
-- Assumes nothing.
use Prim.Native.Nat.{ℕ, ◌<◌}
use mathlib.Core.List.{List}
use lib.ListN.{get_or}

-- what a slice's type says of its elements
abbrev pub Sliced : List ℕ → Type 0
Sliced s = (i : ℕ) → get_or s i 0 < 256
