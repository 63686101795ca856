-- Laws of a card's token and of a filter's form, by the parts of the split.
-- Assumes nothing.
use mathlib.Core.Path.{◌≡◌, refl}
use Prim.Native.Nat.{ℕ}
use native.Mathlib.Omega.{arith}
use mathlib.Core.List.{List, [], ◌∷◌}
use mathlib.Core.Option.{some}
use Rattle.base.specs.Split.{whole, parts}
use Rattle.token.specs.Card.{token_of}
use Rattle.token.specs.Filter.{any_system, system_code, no_system, any_code, split_form}
use Rattle.token.specs.Spelling.{NotEmpty}

pub token_of_some : (s c : List ℕ) → NotEmpty c → token_of s c ≡ some (record { system = s; code = c })
unfolding token_of
token_of_some s [] h = absurd (omega arith)
token_of_some s (x ∷ c) h = refl

pub split_form_any_system : (c : List ℕ) → NotEmpty c → split_form (whole c) ≡ some (any_system c)
unfolding split_form
split_form_any_system [] h = absurd (omega arith)
split_form_any_system (x ∷ c) h = refl

pub split_form_system_code : (s c : List ℕ) → NotEmpty s → NotEmpty c → split_form (parts s c) ≡ some (system_code s c)
unfolding split_form
split_form_system_code [] c h k = absurd (omega arith)
split_form_system_code (y ∷ s) [] h k = absurd (omega arith)
split_form_system_code (y ∷ s) (x ∷ c) h k = refl

pub split_form_no_system : (c : List ℕ) → NotEmpty c → split_form (parts [] c) ≡ some (no_system c)
unfolding split_form
split_form_no_system [] h = absurd (omega arith)
split_form_no_system (x ∷ c) h = refl

pub split_form_any_code : (s : List ℕ) → NotEmpty s → split_form (parts s []) ≡ some (any_code s)
unfolding split_form
split_form_any_code [] h = absurd (omega arith)
split_form_any_code (y ∷ s) h = refl
