-- The computed tests of kinds are the rules: readable texts, operators with a meaning, relations.
-- A rule is a data type, and its test computes. A law `-there` goes from the test to the rule, and `-back` from the rule to the test. Where
-- the test looks into the table of kinds, `-there` is by `by_kind`: what holds of each row of the table, and of a number that is in no row,
-- holds of every number (by induction on the table). `-back` is by the cases of the rule. The relations of numbers and dates rest on those of
-- the lower crates, which ask that a number keeps to its bounds, that a period has an instant, and that a date's start is an instant of the
-- date; what was read from a text is so (`relates_there`, `relates_back`).
-- Assumes nothing.
use Rattle.std.specs.Prelude.{Option, Some, None, is_some}
use Prim.Native.Nat.{ℕ}
use mathlib.Core.Path.{◌≡◌, refl, ap, sym, ◌∙◌, subst}
use mathlib.Core.Bool.{Bool, true, false, not, ◌&&◌, ◌||◌, false≢true}
use mathlib.Core.Logic.{◌↔◌, ◌⊎◌, inl, inr, ⊎_elim}
use mathlib.Core.List.{List, [], ◌∷◌}
use lib.Dec.{eqb}
use lib.ListN.{length}
use borrow.Author.Tests.{not-true, ne_eqb, eqb-true, eqb-false, ltb-true, lt-ltb, leb-true, le-leb}
use Rattle.base.specs.Ascii.{ascii}
use Rattle.base.specs.Operators.{pr, eq, ne}
use Rattle.base.specs.Kinds.{string, number, date, token, reference, period}
use Rattle.base.proofs.Lists.{length_zero}
use Rattle.base.specs.Lists.{All, all_empty, all_cons}
use Rattle.base.proofs.Tests.{and_left, and_right, and_both, or_either, or_left, or_right, cond_either, cond-elim}
use Rattle.text.specs.Fold.{is_capital, is_accented, fold_byte, fold_from, fold_text}
use Rattle.text.specs.Compare.{same}
use Rattle.text.proofs.Readings.{same_iff, starts_iff, ends_iff, contains_iff}
use Rattle.kind.specs.Readable.{card_readable, filter_readable, is_true, is_false, value_readable}
use Rattle.kind.specs.Rules.{readable_string, readable_number, readable_date, readable_token, readable_reference, readable_period, ReadableOnCard, ReadableInFilter, TrueOrFalse, spells_true, spells_false, ReadableValue, value_of_pr, value_of_kind, HasDates, dates_of_date, dates_of_period, Row, string_eq, string_co, string_sw, string_ew, number_eq, number_gt, number_lt, number_ge, number_le, number_co, date_eq, date_gt, date_lt, date_ge, date_le, date_sa, date_eb, date_po, date_co, token_eq, reference_re, HasOperator, operator_of_row, operator_pr, operator_ne, RelatesTo, string_same, string_contains, string_starts, string_ends, NumbersRelate, number_inside, number_greater, number_less, number_at_least, number_at_most, number_covers, DatesRelate, date_inside, date_later, date_earlier, date_later_or_inside, date_earlier_or_inside, date_starts_after, date_ends_before, date_overlaps, date_covers, numbers-relate, dates-relate, tokens_relate, references_same}
use Rattle.kind.specs.Table.{RowEntry, string_row, number_row, date_row, token_row, reference_row, Kind, kinds, of_kind, row, relation_in, meaning_by, row_meaning, meaning_of, is_meaning, has_meaning}
use Rattle.kind.specs.declared.Meaning.{Meaning}
use Rattle.kind.specs.declared.Relation.{Relation}
use Rattle.token.proofs.Readings.{matches_iff}
use Rattle.kind.specs.Relations.{strings_relate, numbers_relate, number_readings_relate, dates_relate, date_readings_relate, relates_to}
use Rattle.kind.specs.declared.StringRelation.{StringRelation}
use Rattle.kind.specs.declared.NumberRelation.{NumberRelation}
use Rattle.kind.specs.declared.DateRelation.{DateRelation}
use Rattle.number.specs.Reading as numbers
use Rattle.number.specs.Value.{Bounded, is_less, is_at_most, plus, exact_value, half_unit, greater, less, at_least, at_most, covers}
use Rattle.number.specs.declared.Decimal.{Decimal}
use Rattle.number.proofs.Spelling as number-spelling
use Rattle.number.proofs.Range as ranges
use Rattle.date.specs.Texts as dates
use Rattle.date.specs.declared.Date.{Date}
use Rattle.date.specs.Instants.{InRange}
use Rattle.date.proofs.Spelling as date-spelling
use Rattle.date.proofs.Readings.{read_first}
use Rattle.period.specs.Instants.{Inhabited, Held, SomeAfter, SomeBefore}
use Rattle.period.specs.Relations.{inside, later, earlier, later_or_inside, earlier_or_inside}
use Rattle.period.specs.Texts as periods
use Rattle.period.specs.declared.Period.{Period}
use Rattle.period.proofs.Relations as relations
use Rattle.period.proofs.Spelling as period-spelling
use Rattle.token.proofs.Readings as token-spelling
use Rattle.std.proofs.lemmas.Option.{same_Some, none-some}

-- ---- by kind

-- a text that is not empty has a length
not-empty : (t : List ℕ) → (not (eqb (length t) 0) ≡ true) ↔ (t ≡ [] → ⊥)
not-empty t = (
  (λ h e. eqb-false (length t) 0 (not-true (eqb (length t) 0) h) (ap length e)),
  (λ n. ap not (ne_eqb (length t) 0 (λ e. n (length_zero t e)))),
)

-- what holds of each kind of the table, and of a number that is not in it, holds of every number
pub by_kind : {A : Type 0} (P : ℕ → A → Type 0) (other : A) (f : Kind → A) → ((k : ℕ) → P k other) → (xs : List Kind) → All (λ (x : Kind). P x.number (f x)) xs → (k : ℕ) → P k (of_kind other f xs k)
unfolding of_kind
by_kind P other f rest [] all_empty k = rest k
by_kind P other f rest (x ∷ xs) (all_cons h all) k =
    cond-elim (P k) (eqb k x.number) (λ e. subst (λ (n : ℕ). P n (f x)) (sym (eqb-true k x.number e)) h) (λ _. by_kind P other f rest xs all k)

module _ (t : List ℕ) where
  card_there : (kind : ℕ) → card_readable kind t ≡ true → ReadableOnCard kind t
  unfolding card_readable kinds
  card_there =
      by_kind (λ k b. b ≡ true → ReadableOnCard k t) false (λ x. x.on_card t) (λ k h. absurd (false≢true h)) kinds
      (all_cons (λ h. readable_string)
      (all_cons (λ h. readable_number ((number-spelling.readable_iff t).0 h).1)
      (all_cons (λ h. readable_date ((date-spelling.readable_iff t).0 h).1)
      (all_cons (λ h. readable_token ((token-spelling.card_readable_iff t).0 h))
      (all_cons (λ h. readable_reference ((not-empty t).0 h))
      (all_cons (λ h. readable_period ((period-spelling.readable_iff t).0 h)) all_empty))))))

  filter_there : (kind : ℕ) → filter_readable kind t ≡ true → ReadableInFilter kind t
  unfolding filter_readable kinds
  filter_there =
      by_kind (λ k b. b ≡ true → ReadableInFilter k t) false (λ x. x.in_filter t) (λ k h. absurd (false≢true h)) kinds
      (all_cons (λ h. readable_string)
      (all_cons (λ h. readable_number ((number-spelling.readable_iff t).0 h).1)
      (all_cons (λ h. readable_date ((date-spelling.readable_iff t).0 h).1)
      (all_cons (λ h. readable_token ((token-spelling.filter_readable_iff t).0 h))
      (all_cons (λ h. readable_reference ((not-empty t).0 h))
      (all_cons (λ h. readable_period ((date-spelling.readable_iff t).0 h)) all_empty))))))

  card-back : {kind : ℕ} → ReadableOnCard kind t → card_readable kind t ≡ true
  unfolding card_readable of_kind kinds
  card-back readable_string = refl
  card-back (readable_number {d = d} s) = (number-spelling.readable_iff t).1 (d, s)
  card-back (readable_date {d = d} s) = (date-spelling.readable_iff t).1 (d, s)
  card-back (readable_token k) = (token-spelling.card_readable_iff t).1 k
  card-back (readable_reference n) = (not-empty t).1 n
  card-back (readable_period p) = (period-spelling.readable_iff t).1 p

  filter_back : {kind : ℕ} → ReadableInFilter kind t → filter_readable kind t ≡ true
  unfolding filter_readable of_kind kinds
  filter_back readable_string = refl
  filter_back (readable_number {d = d} s) = (number-spelling.readable_iff t).1 (d, s)
  filter_back (readable_date {d = d} s) = (date-spelling.readable_iff t).1 (d, s)
  filter_back (readable_token k) = (token-spelling.filter_readable_iff t).1 k
  filter_back (readable_reference n) = (not-empty t).1 n
  filter_back (readable_period p) = (date-spelling.readable_iff t).1 p

pub card_iff : (kind : ℕ) (t : List ℕ) → (card_readable kind t ≡ true) ↔ ReadableOnCard kind t
card_iff kind t = (card_there t kind, card-back t)

filter_iff : (kind : ℕ) (t : List ℕ) → (filter_readable kind t ≡ true) ↔ ReadableInFilter kind t
filter_iff kind t = (filter_there t kind, filter_back t)

-- ---- by operator

word_iff : (w v : List ℕ) → fold_text w ≡ w → (same v w ≡ true) ↔ (fold_text v ≡ w)
word_iff w v e = ((λ h. (same_iff v w).0 h ∙ e), (λ h. (same_iff v w).1 (h ∙ sym e)))

module _ (v : List ℕ) where
  pub true_iff : (is_true v ≡ true) ↔ (fold_text v ≡ ascii "true")
  unfolding is_true fold_text fold_from fold_byte is_capital is_accented
  true_iff = word_iff (ascii "true") v refl

  pub false_iff : (is_false v ≡ true) ↔ (fold_text v ≡ ascii "false")
  unfolding is_false fold_text fold_from fold_byte is_capital is_accented
  false_iff = word_iff (ascii "false") v refl

  either_there : (is_true v || is_false v) ≡ true → TrueOrFalse v
  either_there h = ⊎_elim (λ e. spells_true (true_iff.0 e)) (λ e. spells_false (false_iff.0 e)) (or_either (is_true v) (is_false v) h)

  either-back : TrueOrFalse v → (is_true v || is_false v) ≡ true
  either-back (spells_true e) = or_left (is_true v) (is_false v) (true_iff.1 e)
  either-back (spells_false e) = or_right (is_true v) (is_false v) (false_iff.1 e)

module _ (kind : ℕ) (v : List ℕ) where
  value_there : (k : ℕ) → value_readable k kind v ≡ true → ReadableValue kind v k
  unfolding value_readable
  value_there k h =
      ⊎_elim
      (λ c. subst (ReadableValue kind v) (sym (eqb-true k pr c.0)) (value_of_pr (either_there v c.1)))
      (λ c. value_of_kind (eqb-false k pr c.0) ((filter_iff kind v).0 c.1))
      (cond_either (eqb k pr) (is_true v || is_false v) (filter_readable kind v) h)

  value-back : {k : ℕ} → ReadableValue kind v k → value_readable k kind v ≡ true
  unfolding value_readable
  value-back (value_of_pr w) = either-back v w
  value-back (value_of_kind {k = k} n r) = rw (ne_eqb k pr n) ((filter_iff kind v).1 r)

  pub value_iff : (k : ℕ) → (value_readable k kind v ≡ true) ↔ ReadableValue kind v k
  value_iff k = (value_there k, value-back)

-- ---- the rows of the table

-- a test passes on each row
unfoldable pub each_row : (Kind → Bool) → List Kind → Bool
each_row p [] = true
each_row p (x ∷ xs) = p x && each_row p xs

each_all : (p : Kind → Bool) (xs : List Kind) → each_row p xs ≡ true → All (λ (x : Kind). p x ≡ true) xs
unfolding each_row
each_all p [] h = all_empty
each_all p (x ∷ xs) h = all_cons (and_left (p x) (each_row p xs) h) (each_all p xs (and_right (p x) (each_row p xs) h))

-- a test that passes on a column of each row, and on what there is for a number that is not in the table, passes on what every number has
pub by_column : {A : Type 0} (other : A) (f : Kind → A) (p : A → Bool) → p other ≡ true → each_row (λ (x : Kind). p (f x)) kinds ≡ true → (kind : ℕ) → p (of_kind other f kinds kind) ≡ true
by_column other f p e h = by_kind (λ k a. p a ≡ true) other f (λ k. e) kinds (each_all (λ (x : Kind). p (f x)) kinds h)

-- of the column of operators
pub by_row : (p : List RowEntry → Bool) → p [] ≡ true → each_row (λ (x : Kind). p x.operators) kinds ≡ true → (kind : ℕ) → p (row kind) ≡ true
unfolding row
by_row p = by_column [] (λ (x : Kind). x.operators) p

-- an operator that a row has stands in the table, where each of the row does
in_row : (n : ℕ) (us : List RowEntry) → All (λ (u : RowEntry). Row n u.operator u.relation) us → (k : ℕ) (r : Relation) → relation_in us k ≡ Some r → Row n k r
unfolding relation_in
in_row n [] all_empty k r e = absurd (none-some r e)
in_row n (u ∷ us) (all_cons h all) k r e =
    ⊎_elim
    (λ c. let same : u.relation ≡ r = same_Some u.relation r c.1 in subst (Row n k) same (subst (λ (o : ℕ). Row n o u.relation) (sym (eqb-true k u.operator c.0)) h))
    (λ c. in_row n us all k r c.1)
    (cond_either (eqb k u.operator) (Some u.relation) (relation_in us k) e)

-- the row of dates, for either kind that has it
dates_in_row : {n : ℕ} → HasDates n → All (λ (u : RowEntry). Row n u.operator u.relation) date_row
unfolding date_row
dates_in_row d =
    all_cons (date_eq d) (all_cons (date_gt d) (all_cons (date_lt d) (all_cons (date_ge d) (all_cons (date_le d) (all_cons (date_sa d)
    (all_cons (date_eb d) (all_cons (date_po d) (all_cons (date_co d) all_empty))))))))

dates_row : {n : ℕ} → HasDates n → row n ≡ date_row
unfolding row of_kind kinds
dates_row dates_of_date = refl
dates_row dates_of_period = refl

row_there : (kind k : ℕ) (r : Relation) → relation_in (row kind) k ≡ Some r → Row kind k r
unfolding row kinds string_row number_row token_row reference_row
row_there kind k r =
    by_kind (λ n us. relation_in us k ≡ Some r → Row n k r) [] (λ x. x.operators) (λ n. in_row n [] all_empty k r) kinds
    (all_cons (in_row string string_row (all_cons string_eq (all_cons string_co (all_cons string_sw (all_cons string_ew all_empty)))) k r)
    (all_cons (in_row number number_row (all_cons number_eq (all_cons number_gt (all_cons number_lt (all_cons number_ge (all_cons number_le (all_cons number_co all_empty)))))) k r)
    (all_cons (in_row date date_row (dates_in_row dates_of_date) k r)
    (all_cons (in_row token token_row (all_cons token_eq all_empty) k r)
    (all_cons (in_row reference reference_row (all_cons reference_re all_empty) k r)
    (all_cons (in_row period date_row (dates_in_row dates_of_period) k r) all_empty))))))
    kind

row_back : {kind k : ℕ} {r : Relation} → Row kind k r → relation_in (row kind) k ≡ Some r
unfolding relation_in row of_kind kinds string_row number_row date_row token_row reference_row
row_back string_eq = refl
row_back string_co = refl
row_back string_sw = refl
row_back string_ew = refl
row_back number_eq = refl
row_back number_gt = refl
row_back number_lt = refl
row_back number_ge = refl
row_back number_le = refl
row_back number_co = refl
row_back (date_eq d) = rw (dates_row d)
row_back (date_gt d) = rw (dates_row d)
row_back (date_lt d) = rw (dates_row d)
row_back (date_ge d) = rw (dates_row d)
row_back (date_le d) = rw (dates_row d)
row_back (date_sa d) = rw (dates_row d)
row_back (date_eb d) = rw (dates_row d)
row_back (date_po d) = rw (dates_row d)
row_back (date_co d) = rw (dates_row d)
row_back token_eq = refl
row_back reference_re = refl

-- the relation that a row gives an operator is that of the table
pub row_iff : (kind k : ℕ) (r : Relation) → (relation_in (row kind) k ≡ Some r) ↔ Row kind k r
row_iff kind k r = (row_there kind k r, row_back)

-- ---- operators

meaning_by_some : (how : Relation → Meaning) → ((r : Relation) → is_meaning (how r) ≡ true) → (o : Option Relation) → is_meaning (meaning_by how o) ≡ is_some o
meaning_by_some how h (Some r) = h r
meaning_by_some how h None = refl

-- no row has ne or pr of its own
absent : (o : Option Relation) → not (is_some o) ≡ true → o ≡ None
absent None h = refl
absent (Some r) h = absurd (false≢true h)

pub ne_not_in_row : (kind : ℕ) → relation_in (row kind) ne ≡ None
unfolding each_row kinds relation_in string_row number_row date_row token_row reference_row
ne_not_in_row kind = absent (relation_in (row kind) ne) (by_row (λ us. not (is_some (relation_in us ne))) refl refl kind)

pub pr_not_in_row : (kind : ℕ) → relation_in (row kind) pr ≡ None
unfolding each_row kinds relation_in string_row number_row date_row token_row reference_row
pr_not_in_row kind = absent (relation_in (row kind) pr) (by_row (λ us. not (is_some (relation_in us pr))) refl refl kind)

-- what is some relation is one
some_is : (o : Option Relation) → is_some o ≡ true → (r : Relation) × (o ≡ Some r)
some_is (Some r) h = (r, refl)
some_is None h = absurd (false≢true h)

module _ (kind : ℕ) where
  -- a relation that a row gives an operator
  given : (how : Relation → Meaning) → ((r : Relation) → is_meaning (how r) ≡ true) → (k : ℕ) → is_meaning (meaning_by how (relation_in (row kind) k)) ≡ true → (r : Relation) × Row kind k r
  given how h k e =
      let w = some_is (relation_in (row kind) k) (sym (meaning_by_some how h (relation_in (row kind) k)) ∙ e) in
      (w.0, row_there kind k w.0 w.1)

  operator_there : (k : ℕ) → has_meaning k kind ≡ true → HasOperator kind k
  unfolding has_meaning meaning_of row_meaning
  operator_there k =
      cond-elim (λ (m : Meaning). is_meaning m ≡ true → HasOperator kind k) (eqb k pr)
      (λ e h. subst (HasOperator kind) (sym (eqb-true k pr e)) operator_pr)
      (λ _. cond-elim (λ (m : Meaning). is_meaning m ≡ true → HasOperator kind k) (eqb k ne)
      (λ e h. subst (HasOperator kind) (sym (eqb-true k ne e)) (operator_ne (given Meaning.Differs (λ r. refl) eq h).1))
      (λ e h. operator_of_row (given Meaning.Relates (λ r. refl) k h).1))

  operator-back : {k : ℕ} → HasOperator kind k → has_meaning k kind ≡ true
  unfolding has_meaning meaning_of row_meaning
  operator-back operator_pr = refl
  operator-back (operator_ne w) = rw (row_back w)
  operator-back (operator_of_row {k = k} {r = r} w) =
      cond-elim (λ (m : Meaning). is_meaning m ≡ true) (eqb k pr) (λ _. refl)
      (λ _. cond-elim (λ (m : Meaning). is_meaning m ≡ true) (eqb k ne)
      (λ e. absurd (none-some r (sym (ne_not_in_row kind) ∙ ap (relation_in (row kind)) (sym (eqb-true k ne e)) ∙ row_back w)))
      (λ _. rw (row_back w)))

  pub operator_iff : (k : ℕ) → (has_meaning k kind ≡ true) ↔ HasOperator kind k
  operator_iff k = (operator_there k, operator-back)

-- ---- a relation of two numbers

module _ (i f : Decimal) (bi : Bounded i) (bf : Bounded f) where
  number_there : (r : NumberRelation) → numbers_relate r i f ≡ true → NumbersRelate i f r
  unfolding numbers_relate greater less at_least at_most covers is_less is_at_most
  number_there NumberRelation.Inside h = number_inside ((ranges.inside_iff i f bi bf).0 h)
  number_there NumberRelation.Greater h = number_greater (ltb-true _ _ h)
  number_there NumberRelation.Less h = number_less (ltb-true _ _ h)
  number_there NumberRelation.AtLeast h = number_at_least (leb-true _ _ h)
  number_there NumberRelation.AtMost h = number_at_most (leb-true _ _ h)
  number_there NumberRelation.Covers h =
      let low : Bool = is_at_most (exact_value i) (plus (exact_value f) (half_unit i)) in
      let high : Bool = is_less (exact_value f) (plus (exact_value i) (half_unit i)) in
      number_covers (leb-true _ _ (and_left low high h), ltb-true _ _ (and_right low high h))

  number-back : {r : NumberRelation} → NumbersRelate i f r → numbers_relate r i f ≡ true
  unfolding numbers_relate greater less at_least at_most covers is_less is_at_most
  number-back (number_inside h) = (ranges.inside_iff i f bi bf).1 h
  number-back (number_greater h) = lt-ltb _ _ h
  number-back (number_less h) = lt-ltb _ _ h
  number-back (number_at_least h) = le-leb _ _ h
  number-back (number_at_most h) = le-leb _ _ h
  number-back (number_covers h) = and_both _ _ (le-leb _ _ h.0) (lt-ltb _ _ h.1)

-- ---- a relation of a period and a date

-- either of two tests is either of what they say
either_iff : (a b : Bool) {A B : Type 0} → (a ≡ true) ↔ A → (b ≡ true) ↔ B → ((a || b) ≡ true) ↔ (A ⊎ B)
either_iff a b p q = (
  (λ h. ⊎_elim (λ e. inl (p.0 e)) (λ e. inr (q.0 e)) (or_either a b h)),
  (λ s. ⊎_elim (λ e. or_left a b (p.1 e)) (λ e. or_right a b (q.1 e)) s),
)

module _ (i : Period) (has : Inhabited i) (f : Date) (first : InRange f f.start) where
  later_or_inside_iff : (later_or_inside i f ≡ true) ↔ (SomeAfter i f ⊎ Held i f)
  unfolding later_or_inside
  later_or_inside_iff = either_iff (later i f) (inside i f) (relations.later_iff i has f first) (relations.inside_iff i has f first)

  earlier_or_inside_iff : (earlier_or_inside i f ≡ true) ↔ (SomeBefore i f ⊎ Held i f)
  unfolding earlier_or_inside
  earlier_or_inside_iff = either_iff (earlier i f) (inside i f) (relations.earlier_iff i has f first) (relations.inside_iff i has f first)

  date_there : (r : DateRelation) → dates_relate r i f ≡ true → DatesRelate i f r
  unfolding dates_relate
  date_there DateRelation.Inside h = date_inside ((relations.inside_iff i has f first).0 h)
  date_there DateRelation.Later h = date_later ((relations.later_iff i has f first).0 h)
  date_there DateRelation.Earlier h = date_earlier ((relations.earlier_iff i has f first).0 h)
  date_there DateRelation.LaterOrInside h = date_later_or_inside (later_or_inside_iff.0 h)
  date_there DateRelation.EarlierOrInside h = date_earlier_or_inside (earlier_or_inside_iff.0 h)
  date_there DateRelation.StartsAfter h = date_starts_after ((relations.starts-after_iff i has f first).0 h)
  date_there DateRelation.EndsBefore h = date_ends_before ((relations.ends-before_iff i has f first).0 h)
  date_there DateRelation.Overlaps h = date_overlaps ((relations.overlaps_iff i has f first).0 h)
  date_there DateRelation.Covers h = date_covers ((relations.covers_iff i has f first).0 h)

  date-back : {r : DateRelation} → DatesRelate i f r → dates_relate r i f ≡ true
  unfolding dates_relate
  date-back (date_inside h) = (relations.inside_iff i has f first).1 h
  date-back (date_later h) = (relations.later_iff i has f first).1 h
  date-back (date_earlier h) = (relations.earlier_iff i has f first).1 h
  date-back (date_later_or_inside h) = later_or_inside_iff.1 h
  date-back (date_earlier_or_inside h) = earlier_or_inside_iff.1 h
  date-back (date_starts_after h) = (relations.starts-after_iff i has f first).1 h
  date-back (date_ends_before h) = (relations.ends-before_iff i has f first).1 h
  date-back (date_overlaps h) = (relations.overlaps_iff i has f first).1 h
  date-back (date_covers h) = (relations.covers_iff i has f first).1 h

  pub date_iff : (r : DateRelation) → (dates_relate r i f ≡ true) ↔ DatesRelate i f r
  date_iff r = (date_there r, date-back)

-- ---- a relation of two texts

numbers_there : (r : NumberRelation) (x v : List ℕ) (a b : Option Decimal) → numbers.read x ≡ a → numbers.read v ≡ b → number_readings_relate r a b ≡ true → RelatesTo (Relation.Numbers r) x v
numbers_there r x v (Some i) (Some f) d e h =
    numbers-relate ((number-spelling.read_iff x i).0 d) ((number-spelling.read_iff v f).0 e)
    (number_there i f (number-spelling.read_bounded x i d) (number-spelling.read_bounded v f e) r h)
numbers_there r x v (Some i) None d e h = absurd (false≢true h)
numbers_there r x v None b d e h = absurd (false≢true h)

dates_there : (r : DateRelation) (x v : List ℕ) (a : Option Period) (b : Option Date) → periods.read_span x ≡ a → dates.read v ≡ b → date_readings_relate r a b ≡ true → RelatesTo (Relation.Dates r) x v
dates_there r x v (Some i) (Some f) d e h =
    let s = (period-spelling.span_iff x i).0 d in
    dates-relate s ((date-spelling.read_iff v f).0 e) (date_there i (period-spelling.span_inhabited s) f (read_first v e) r h)
dates_there r x v (Some i) None d e h = absurd (false≢true h)
dates_there r x v None b d e h = absurd (false≢true h)

module _ (x v : List ℕ) where
  relates_there : (r : Relation) → relates_to r x v ≡ true → RelatesTo r x v
  unfolding relates_to strings_relate
  relates_there (Relation.Strings StringRelation.Same) h = string_same ((same_iff x v).0 h)
  relates_there (Relation.Strings StringRelation.Contains) h = let w = (contains_iff x v).0 h in string_contains w.0 w.1 w.2
  relates_there (Relation.Strings StringRelation.Starts) h = let w = (starts_iff x v).0 h in string_starts w.0 w.1
  relates_there (Relation.Strings StringRelation.Ends) h = let w = (ends_iff x v).0 h in string_ends w.0 w.1
  relates_there (Relation.Numbers r) h = numbers_there r x v (numbers.read x) (numbers.read v) refl refl h
  relates_there (Relation.Dates r) h = dates_there r x v (periods.read_span x) (dates.read v) refl refl h
  relates_there Relation.Tokens h = let w = (matches_iff x v).0 h in tokens_relate w.2 w.3 w.4
  relates_there Relation.References h = references_same ((same_iff x v).0 h)

relates_back : {r : Relation} {x v : List ℕ} → RelatesTo r x v → relates_to r x v ≡ true
unfolding relates_to strings_relate
relates_back (string_same {x = x} {v = v} e) = (same_iff x v).1 e
relates_back (string_contains {x = x} {v = v} p q e) = (contains_iff x v).1 (p, q, e)
relates_back (string_starts {x = x} {v = v} q e) = (starts_iff x v).1 (q, e)
relates_back (string_ends {x = x} {v = v} p e) = (ends_iff x v).1 (p, e)
relates_back (numbers-relate {x = x} {v = v} {i = i} {f = f} a b h) =
    let d : numbers.read x ≡ Some i = (number-spelling.read_iff x i).1 a in
    let e : numbers.read v ≡ Some f = (number-spelling.read_iff v f).1 b in
    rw (d, e) (number-back i f (number-spelling.read_bounded x i d) (number-spelling.read_bounded v f e) h)
relates_back (dates-relate {x = x} {v = v} {i = i} {f = f} a b h) =
    let d : periods.read_span x ≡ Some i = (period-spelling.span_iff x i).1 a in
    let e : dates.read v ≡ Some f = (date-spelling.read_iff v f).1 b in
    rw (d, e) (date-back i (period-spelling.span_inhabited a) f (read_first v e) h)
relates_back (tokens_relate {x = x} {v = v} {i = i} {f = f} a b h) = (matches_iff x v).1 (i, f, a, b, h)
relates_back (references_same {x = x} {v = v} e) = (same_iff x v).1 e

pub relates_iff : (r : Relation) (x v : List ℕ) → (relates_to r x v ≡ true) ↔ RelatesTo r x v
relates_iff r x v = (relates_there x v r, relates_back)
