-- The texts that the writers put over the first bytes of a part.
-- Assumes nothing.
use Rattle.std.specs.Prelude.{ℕ, cond, List, [], ◌∷◌, ◌++◌}
use Rattle.base.specs.Ascii.{ascii}
use Rattle.syntax.specs.Strings.{quote, backslash, is_plain}
use Rattle.plain.specs.Plain.{escape_of, escaped, operator_word}

-- a byte of a value as it stands between the quotes
unfoldable pub escaped_byte : ℕ → List ℕ
escaped_byte b = cond (is_plain b) (b ∷ []) (backslash ∷ escape_of b ∷ [])

-- a value as a string
unfoldable pub quoted : List ℕ → List ℕ
quoted v = quote ∷ (escaped v ++ (quote ∷ []))

-- an operator with the spaces around it
unfoldable pub operator_text : ℕ → List ℕ
operator_text k = ascii " " ++ (operator_word k ++ ascii " ")
