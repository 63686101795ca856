-- Bytes as numbers.
-- Assumes nothing.
use Rattle.std.specs.Prelude.{ℕ, ◌<◌, List}
use Rattle.base.specs.Lists.{All}

-- the number is a byte
abbrev pub Byte : ℕ → Type 0
Byte b = b < 256

-- every number of the list is a byte, as in every slice of bytes
abbrev pub Bytes : List ℕ → Type 0
Bytes = All Byte
