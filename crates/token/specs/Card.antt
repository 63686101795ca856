-- Tokens on cards.
-- Assumes nothing.
use Rattle.std.specs.Prelude.{ℕ, Bool, List, [], ◌∷◌}
use Rattle.std.proofs.Math.Option.{Option, none, some}
use Rattle.base.specs.Options.{is_some}
use Rattle.base.specs.Split.{Split, whole, parts, split}
use Rattle.text.specs.Bar.{bar}

-- a system, perhaps empty, and a code, not empty
pub record Token : Type 0 where
  pub system : List ℕ
  pub code : List ℕ

-- the token of a system and a code, if the code is not empty
unfoldable pub token_of : List ℕ → List ℕ → Option Token
token_of s [] = none
token_of s (x ∷ c) = some (record { system = s; code = x ∷ c })

-- with no bar it is a code whose system is empty
unfoldable pub split_token : Split → Option Token
split_token (whole c) = token_of [] c
split_token (parts s c) = token_of s c

-- the token that a card's text is, if it is one
unfoldable pub card_token : List ℕ → Option Token
card_token t = split_token (split bar t)

-- 01: a readable text of a token on a card
unfoldable pub card_readable : List ℕ → Bool
card_readable t = is_some (card_token t)
