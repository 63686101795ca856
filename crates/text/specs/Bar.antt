-- The bar, the byte that splits a token.
-- Assumes nothing.
use Rattle.std.specs.Prelude.{ℕ, List}
use Prim.Native.Char.{code}
use Rattle.base.specs.Split.{Without}

-- parts a token's system from its code
abbrev pub bar : ℕ
bar = code "|"

-- no byte is a bar
abbrev pub NoBar : List ℕ → Type 0
NoBar = Without bar
