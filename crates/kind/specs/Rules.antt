-- The rules of kinds in document 01's words: readable texts, which operators a kind has, and when a text stands in a relation to a value.
-- Assumes nothing.
use Rattle.std.specs.Prelude.{ℕ, ◌≡◌, List, [], ◌++◌, ◌⊎◌}
use Rattle.base.specs.Ascii.{ascii}
use Rattle.base.specs.Operators.{eq, ne, co, sw, ew, gt, lt, ge, le, sa, eb, pr, po, re}
use Rattle.text.specs.Fold.{fold_text}
use Rattle.number.specs.declared.Decimal.{Decimal}
use Rattle.date.specs.declared.Date.{Date}
use Rattle.token.specs.Card.{Token}
use Rattle.token.specs.Filter.{Form}
use Rattle.token.specs.Spelling.{CardSpells, FilterSpells}
use Rattle.base.specs.Kinds.{string, number, date, token, reference, period}
use Rattle.kind.specs.declared.Relation.{Relation}
use Rattle.token.specs.Rules.{Asks}
use Rattle.kind.specs.declared.StringRelation.{StringRelation}
use Rattle.kind.specs.declared.NumberRelation.{NumberRelation}
use Rattle.kind.specs.declared.DateRelation.{DateRelation}
use Rattle.number.specs.Spelling as numbers
use Rattle.number.specs.Value.{exact_value}
use Rattle.number.specs.Range as ranges
use Rattle.date.specs.Spelling as dates
use Rattle.period.specs.Spelling as periods
use Rattle.period.specs.Instants as instants
use Rattle.period.specs.declared.Period.{Period}

-- ---- readable texts

-- a text of each kind, where IsToken and IsPeriod say which texts are tokens and periods; "reference: not empty. String: every text."
pub data Readable (IsToken IsPeriod : List ℕ → Type 0) : ℕ → List ℕ → Type 0 where
  readable_string : {t : List ℕ} → Readable IsToken IsPeriod string t
  readable_number : {t : List ℕ} {d : Decimal} → numbers.Spells t d → Readable IsToken IsPeriod number t
  readable_date : {t : List ℕ} {d : Date} → dates.Spells t d → Readable IsToken IsPeriod date t
  readable_token : {t : List ℕ} → IsToken t → Readable IsToken IsPeriod token t
  readable_reference : {t : List ℕ} → (t ≡ [] → ⊥) → Readable IsToken IsPeriod reference t
  readable_period : {t : List ℕ} → IsPeriod t → Readable IsToken IsPeriod period t

-- "token on a card": a code, or a system and a code
abbrev pub CardToken : List ℕ → Type 0
CardToken t = (k : Token) × CardSpells t k

-- "in a filter": one of the four forms
abbrev pub FilterToken : List ℕ → Type 0
FilterToken t = (f : Form) × FilterSpells t f

-- 02: "on a card two dates with a slash between, either one missing but not both"
abbrev pub CardPeriod : List ℕ → Type 0
CardPeriod t = (p : Period) × periods.Spells t p

-- 02: "the filter's value stays a date"
abbrev pub FilterPeriod : List ℕ → Type 0
FilterPeriod t = (d : Date) × dates.Spells t d

-- "each text is readable as its kind", of a card's text
abbrev pub ReadableOnCard : ℕ → List ℕ → Type 0
ReadableOnCard = Readable CardToken CardPeriod

-- the same of a filter's value: a token may be of any of the four forms, and a period is compared with a date
abbrev pub ReadableInFilter : ℕ → List ℕ → Type 0
ReadableInFilter = Readable FilterToken FilterPeriod

-- true or false, case ignored, and nothing else
pub data TrueOrFalse (v : List ℕ) : Type 0 where
  spells_true : fold_text v ≡ ascii "true" → TrueOrFalse v
  spells_false : fold_text v ≡ ascii "false" → TrueOrFalse v

-- a filter's value under a kind and an operator; "for pr, under every kind, the filter's text is true or false"
pub data ReadableValue (kind : ℕ) (v : List ℕ) : ℕ → Type 0 where
  value_of_pr : TrueOrFalse v → ReadableValue kind v pr
  value_of_kind : {k : ℕ} → (k ≡ pr → ⊥) → ReadableInFilter kind v → ReadableValue kind v k

-- ---- operators

-- the kinds with the row of dates; 02: of a period "the operations are those of dates"
pub data HasDates : ℕ → Type 0 where
  dates_of_date : HasDates date
  dates_of_period : HasDates period

-- document 01's table: an operator that the kind's row has, and the relation that it asks for
pub data Row : ℕ → ℕ → Relation → Type 0 where
  -- "eq same; co holds it somewhere; sw, ew at the start, at the end"
  string_eq : Row string eq (Relation.Strings StringRelation.Same)
  string_co : Row string co (Relation.Strings StringRelation.Contains)
  string_sw : Row string sw (Relation.Strings StringRelation.Starts)
  string_ew : Row string ew (Relation.Strings StringRelation.Ends)
  -- "eq; gt lt ge le by exact value; co: F lies in I's range"
  number_eq : Row number eq (Relation.Numbers NumberRelation.Inside)
  number_gt : Row number gt (Relation.Numbers NumberRelation.Greater)
  number_lt : Row number lt (Relation.Numbers NumberRelation.Less)
  number_ge : Row number ge (Relation.Numbers NumberRelation.AtLeast)
  number_le : Row number le (Relation.Numbers NumberRelation.AtMost)
  number_co : Row number co (Relation.Numbers NumberRelation.Covers)
  -- "eq; gt; lt; ge; le; sa; eb; po; co"
  date_eq : {kind : ℕ} → HasDates kind → Row kind eq (Relation.Dates DateRelation.Inside)
  date_gt : {kind : ℕ} → HasDates kind → Row kind gt (Relation.Dates DateRelation.Later)
  date_lt : {kind : ℕ} → HasDates kind → Row kind lt (Relation.Dates DateRelation.Earlier)
  date_ge : {kind : ℕ} → HasDates kind → Row kind ge (Relation.Dates DateRelation.LaterOrInside)
  date_le : {kind : ℕ} → HasDates kind → Row kind le (Relation.Dates DateRelation.EarlierOrInside)
  date_sa : {kind : ℕ} → HasDates kind → Row kind sa (Relation.Dates DateRelation.StartsAfter)
  date_eb : {kind : ℕ} → HasDates kind → Row kind eb (Relation.Dates DateRelation.EndsBefore)
  date_po : {kind : ℕ} → HasDates kind → Row kind po (Relation.Dates DateRelation.Overlaps)
  date_co : {kind : ℕ} → HasDates kind → Row kind co (Relation.Dates DateRelation.Covers)
  -- "eq by the four forms"
  token_eq : Row token eq Relation.Tokens
  -- "re same"
  reference_re : Row reference re Relation.References

-- a kind has an operator: "it has its row's, pr, and ne if the row has eq"
pub data HasOperator (kind : ℕ) : ℕ → Type 0 where
  operator_of_row : {k : ℕ} {r : Relation} → Row kind k r → HasOperator kind k
  operator_pr : HasOperator kind pr
  operator_ne : {r : Relation} → Row kind eq r → HasOperator kind ne

-- ---- relations

-- the card's number i stands in the relation to the filter's f
pub data NumbersRelate (i f : Decimal) : NumberRelation → Type 0 where
  -- 02: eq "means that the filter's range holds the card's range whole": every point of it
  number_inside : ranges.Held i f → NumbersRelate i f NumberRelation.Inside
  -- "gt lt ge le by exact value, card against filter"
  number_greater : ranges.Less (exact_value f) (exact_value i) → NumbersRelate i f NumberRelation.Greater
  number_less : ranges.Less (exact_value i) (exact_value f) → NumbersRelate i f NumberRelation.Less
  number_at_least : ranges.AtMost (exact_value f) (exact_value i) → NumbersRelate i f NumberRelation.AtLeast
  number_at_most : ranges.AtMost (exact_value i) (exact_value f) → NumbersRelate i f NumberRelation.AtMost
  -- "co: F lies in I's range"
  number_covers : ranges.InRange i (ranges.above (exact_value f)) → NumbersRelate i f NumberRelation.Covers

-- the card's period i, from i0 to i1, stands in the relation to the filter's date f, from f0 to f1, by their instants; a card's date is
-- the period with both ends known. So the R4 prefixes have it: gt where the range above the filter's meets the card's
pub data DatesRelate (i : Period) (f : Date) : DateRelation → Type 0 where
  -- 02: eq "means that the filter's range holds the card's range whole": every instant of I lies in F, so "a stay open at an end is never eq"
  date_inside : instants.Held i f → DatesRelate i f DateRelation.Inside
  -- "gt i1>f1; lt i0<f0": some instant of I comes after all of F, or before
  date_later : instants.SomeAfter i f → DatesRelate i f DateRelation.Later
  date_earlier : instants.SomeBefore i f → DatesRelate i f DateRelation.Earlier
  -- "ge gt or I inside F; le lt or I inside F"
  date_later_or_inside : instants.SomeAfter i f ⊎ instants.Held i f → DatesRelate i f DateRelation.LaterOrInside
  date_earlier_or_inside : instants.SomeBefore i f ⊎ instants.Held i f → DatesRelate i f DateRelation.EarlierOrInside
  -- "sa i0>=f1; eb i1<=f0": every instant of I comes after all of F, or before
  date_starts_after : instants.EveryAfter i f → DatesRelate i f DateRelation.StartsAfter
  date_ends_before : instants.EveryBefore i f → DatesRelate i f DateRelation.EndsBefore
  -- "po i0<f1 and f0<i1": some instant lies in both
  date_overlaps : instants.Meets i f → DatesRelate i f DateRelation.Overlaps
  -- "co F inside I": every instant of F lies in I
  date_covers : instants.Holds i f → DatesRelate i f DateRelation.Covers

-- the card's text x stands in the relation to the filter's value v; "text comparisons ignore the case of A to Z", and that of the letters
-- U+00C0 to U+00DE without U+00D7: "each text is folded whole before it is compared"
pub data RelatesTo : Relation → List ℕ → List ℕ → Type 0 where
  -- "eq same; co holds it somewhere; sw, ew at the start, at the end"
  string_same : {x v : List ℕ} → fold_text x ≡ fold_text v → RelatesTo (Relation.Strings StringRelation.Same) x v
  string_contains : {x v : List ℕ} (p q : List ℕ) → fold_text x ≡ p ++ (fold_text v ++ q) → RelatesTo (Relation.Strings StringRelation.Contains) x v
  string_starts : {x v : List ℕ} (q : List ℕ) → fold_text x ≡ fold_text v ++ q → RelatesTo (Relation.Strings StringRelation.Starts) x v
  string_ends : {x v : List ℕ} (p : List ℕ) → fold_text x ≡ p ++ fold_text v → RelatesTo (Relation.Strings StringRelation.Ends) x v
  -- two numbers; a card's date or period and a filter's date
  numbers-relate : {r : NumberRelation} {x v : List ℕ} {i f : Decimal} → numbers.Spells x i → numbers.Spells v f → NumbersRelate i f r → RelatesTo (Relation.Numbers r) x v
  dates-relate : {r : DateRelation} {x v : List ℕ} {i : Period} {f : Date} → periods.SpellsSpan x i → dates.Spells v f → DatesRelate i f r → RelatesTo (Relation.Dates r) x v
  -- "eq by the four forms"
  tokens_relate : {x v : List ℕ} {i : Token} {f : Form} → CardSpells x i → FilterSpells v f → Asks f i → RelatesTo Relation.Tokens x v
  -- "re same"
  references_same : {x v : List ℕ} → fold_text x ≡ fold_text v → RelatesTo Relation.References x v
