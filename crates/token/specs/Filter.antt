-- Tokens that are asked for: the four forms.
-- Assumes nothing.
use Rattle.std.specs.Prelude.{ℕ, Bool, List, [], ◌∷◌}
use Rattle.std.proofs.Math.Option.{Option, none, some}
use Rattle.base.specs.Options.{is_some}
use Rattle.base.specs.Split.{Split, whole, parts, split}
use Rattle.text.specs.Bar.{bar}
use Rattle.token.specs.Split.{split_at}

-- what a token asks for
pub data Form : Type 0 where
  -- code: this code, whichever system
  any_system : List ℕ → Form
  -- system|code: this code of this system
  system_code : List ℕ → List ℕ → Form
  -- |code: this code with no system
  no_system : List ℕ → Form
  -- system|: every code of this system
  any_code : List ℕ → Form

-- an empty text and a lone bar are no form
unfoldable pub split_form : Split → Option Form
split_form (whole []) = none
split_form (whole (x ∷ c)) = some (any_system (x ∷ c))
split_form (parts [] []) = none
split_form (parts [] (x ∷ c)) = some (no_system (x ∷ c))
split_form (parts (y ∷ s) []) = some (any_code (y ∷ s))
split_form (parts (y ∷ s) (x ∷ c)) = some (system_code (y ∷ s) (x ∷ c))

-- the form of a text that is split at the index i, if it has one
unfoldable pub form_at : ℕ → List ℕ → Option Form
form_at i t = split_form (split_at i t)

-- whether it has one
unfoldable pub readable_at : ℕ → List ℕ → Bool
readable_at i t = is_some (form_at i t)

-- the form of a filter's text, if it has one
unfoldable pub filter_form : List ℕ → Option Form
filter_form t = split_form (split bar t)

-- 01: a readable text of a token in a filter
unfoldable pub filter_readable : List ℕ → Bool
filter_readable t = is_some (filter_form t)
