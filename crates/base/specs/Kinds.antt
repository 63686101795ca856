-- The numbers of the kinds, as a sheet writes them.
-- Assumes nothing.
use Rattle.std.specs.Prelude.{ℕ, ◌≡◌, Option, MatchOption}
use Rattle.base.specs.declared.kind.Kind.{Kind}
use Rattle.base.specs.declared.kind.Kind.TheVariants as kinds

abbrev pub string : ℕ
string = 1

abbrev pub number : ℕ
number = 2

abbrev pub date : ℕ
date = 3

abbrev pub token : ℕ
token = 4

abbrev pub reference : ℕ
reference = 5

-- 02: "add kind 6, period"
abbrev pub period : ℕ
period = 6

-- 02: "kind 7 is a bundle"
abbrev pub bundle_kind : ℕ
bundle_kind = 7

-- the number of a kind
abbrev pub kind_number : Kind → ℕ
kind_number kinds.String = string
kind_number kinds.Number = number
kind_number kinds.Date = date
kind_number kinds.Token = token
kind_number kinds.Reference = reference
kind_number kinds.Period = period
kind_number kinds.Bundle = bundle_kind

-- r is the kind that has the number, or none has it
abbrev pub KindOf : ℕ → Option Kind → Type 0
KindOf n r = MatchOption r ((x : Kind) → kind_number x ≡ n → ⊥) (λ x. kind_number x ≡ n)
