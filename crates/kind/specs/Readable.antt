-- Readable texts by kind (01: readable): on a card, and in a filter.
-- Assumes nothing.
use Rattle.std.specs.Prelude.{ℕ, Bool, false, cond, ◌||◌, List, [], eqb}
use Rattle.base.specs.Ascii.{ascii}
use Rattle.base.specs.Operators.{pr}
use Rattle.text.specs.Compare.{same}
use Rattle.kind.specs.Table.{Kind, kinds, of_kind}

-- a text of the kind on a card
unfoldable pub card_readable : ℕ → List ℕ → Bool
card_readable kind t = of_kind false (λ (x : Kind). x.on_card t) kinds kind

-- a filter's value of the kind
unfoldable pub filter_readable : ℕ → List ℕ → Bool
filter_readable kind t = of_kind false (λ (x : Kind). x.in_filter t) kinds kind

-- a text of the kind that is readable on a card: what an entry can hold that shows a parameter with a value
unfoldable pub witness_text : ℕ → List ℕ
witness_text = of_kind [] (λ (x : Kind). x.witness) kinds

-- "for pr the filter's text is true or false, case ignored, and nothing else"
unfoldable pub is_true : List ℕ → Bool
is_true v = same v (ascii "true")

unfoldable pub is_false : List ℕ → Bool
is_false v = same v (ascii "false")

-- the value is readable under the operator and the kind
unfoldable pub value_readable : ℕ → ℕ → List ℕ → Bool
value_readable operator kind v = cond (eqb operator pr) (is_true v || is_false v) (filter_readable kind v)
