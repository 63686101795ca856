-- The table of kinds: for each the texts that are readable, the operators with a meaning, and the relation that each asks for.
-- Assumes nothing.
use Rattle.std.specs.Prelude.{ℕ, Bool, true, false, cond, not, List, [], ◌∷◌, eqb, length, Option, Some, None}
use Rattle.base.specs.Ascii.{ascii}
use Rattle.base.specs.Operators.{eq, ne, co, sw, ew, gt, lt, ge, le, sa, eb, pr, po, re}
use Rattle.base.specs.Kinds.{string, number, date, token, reference, period}
use Rattle.number.specs.Reading as number-texts
use Rattle.date.specs.Texts as date-texts
use Rattle.period.specs.Texts as period-texts
use Rattle.token.specs.Card as tokens
use Rattle.token.specs.Filter as forms
use Rattle.kind.specs.declared.StringRelation.TheVariants as strings
use Rattle.kind.specs.declared.NumberRelation.TheVariants as numbers
use Rattle.kind.specs.declared.DateRelation.TheVariants as dates
use Rattle.kind.specs.declared.Relation.{Relation}
use Rattle.kind.specs.declared.Relation.TheVariants.{Strings, Numbers, Dates, Tokens, References}
use Rattle.kind.specs.declared.Meaning.{Meaning}
use Rattle.kind.specs.declared.Meaning.TheVariants.{Present, Relates, Differs, Nothing}

-- an operator of a row, and its relation
pub record RowEntry : Type 0 where
  pub operator : ℕ
  pub relation : Relation

abbrev pub means : ℕ → Relation → RowEntry
means k r = record { operator = k; relation = r }

-- "string: eq same; co holds it somewhere; sw, ew at the start, at the end"
unfoldable pub string_row : List RowEntry
string_row =
    means eq (Strings strings.Same) ∷ means co (Strings strings.Contains) ∷ means sw (Strings strings.Starts) ∷ means ew (Strings strings.Ends) ∷ []

-- 02: "eq on dates and numbers means that the filter's range holds the card's range whole"; "number: gt lt ge le by exact value; co: F lies in I's range"
unfoldable pub number_row : List RowEntry
number_row =
    means eq (Numbers numbers.Inside) ∷ means gt (Numbers numbers.Greater) ∷ means lt (Numbers numbers.Less)
    ∷ means ge (Numbers numbers.AtLeast) ∷ means le (Numbers numbers.AtMost) ∷ means co (Numbers numbers.Covers) ∷ []

-- the same eq; "date: gt; lt; ge; le; sa; eb; po; co F inside I"; 02: of periods "the operations are those of dates"
unfoldable pub date_row : List RowEntry
date_row =
    means eq (Dates dates.Inside) ∷ means gt (Dates dates.Later) ∷ means lt (Dates dates.Earlier)
    ∷ means ge (Dates dates.LaterOrInside) ∷ means le (Dates dates.EarlierOrInside) ∷ means sa (Dates dates.StartsAfter)
    ∷ means eb (Dates dates.EndsBefore) ∷ means po (Dates dates.Overlaps) ∷ means co (Dates dates.Covers) ∷ []

-- "token: eq by the four forms"
unfoldable pub token_row : List RowEntry
token_row = means eq Tokens ∷ []

-- "reference: re same"
unfoldable pub reference_row : List RowEntry
reference_row = means re References ∷ []

-- a kind: its number, which texts are readable on a card, which values in a filter, its operators, and a text that is readable on a card
pub record Kind : Type 0 where
  pub number : ℕ
  pub on_card : List ℕ → Bool
  pub in_filter : List ℕ → Bool
  pub operators : List RowEntry
  pub witness : List ℕ

abbrev kind_of : ℕ → (List ℕ → Bool) → (List ℕ → Bool) → List RowEntry → List ℕ → Kind
kind_of n card filter us t = record { number = n; on_card = card; in_filter = filter; operators = us; witness = t }

-- "string: every text"; "reference: not empty"
abbrev pub any_text : List ℕ → Bool
any_text t = true

abbrev pub not_empty : List ℕ → Bool
not_empty t = not (eqb (length t) 0)

-- only tokens and periods differ in a filter: 02: "the filter's value stays a date"
unfoldable pub kinds : List Kind
kinds =
    kind_of string any_text any_text string_row (ascii "1")
    ∷ kind_of number number-texts.readable number-texts.readable number_row (ascii "1")
    ∷ kind_of date date-texts.readable date-texts.readable date_row (ascii "1974")
    ∷ kind_of token tokens.card_readable forms.filter_readable token_row (ascii "1")
    ∷ kind_of reference not_empty not_empty reference_row (ascii "1")
    ∷ kind_of period period-texts.readable date-texts.readable date_row (ascii "1974/")
    ∷ []

-- what the table has for a number, and what there is for a number that is not in it
unfoldable pub of_kind : {A : Type 0} → A → (Kind → A) → List Kind → ℕ → A
of_kind other f [] k = other
of_kind other f (x ∷ xs) k = cond (eqb k x.number) (f x) (of_kind other f xs k)

-- the row of a kind
unfoldable pub row : ℕ → List RowEntry
row = of_kind [] (λ (x : Kind). x.operators) kinds

-- the relation of an operator in a row, if it stands there
unfoldable pub relation_in : List RowEntry → ℕ → Option Relation
relation_in [] k = None
relation_in (u ∷ us) k = cond (eqb k u.operator) (Some u.relation) (relation_in us k)

-- the meaning that a relation gives, where the row has one
abbrev pub meaning_by : (Relation → Meaning) → Option Relation → Meaning
meaning_by how (Some r) = how r
meaning_by how None = Nothing

-- a row has its operators, "and ne if the row has eq": "some text in the set is not eq"
unfoldable pub row_meaning : List RowEntry → ℕ → Meaning
row_meaning us k = cond (eqb k ne) (meaning_by Differs (relation_in us eq)) (meaning_by Relates (relation_in us k))

-- the one decision over operator and kind: pr, or what the kind's row has
unfoldable pub meaning_of : ℕ → ℕ → Meaning
meaning_of k kind = cond (eqb k pr) Present (row_meaning (row kind) k)

-- the operator has a meaning for the kind
abbrev pub is_meaning : Meaning → Bool
is_meaning Present = true
is_meaning (Relates r) = true
is_meaning (Differs r) = true
is_meaning Nothing = false

unfoldable pub has_meaning : ℕ → ℕ → Bool
has_meaning k kind = is_meaning (meaning_of k kind)
