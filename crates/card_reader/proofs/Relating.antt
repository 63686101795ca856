-- What a text was read to stands for the text in a relation.
-- Assumes nothing.
use Rattle.std.specs.Prelude.{Option, Some, None}
use Prim.Native.Nat.{ℕ}
use mathlib.Core.Path.{◌≡◌, refl, ap, sym, subst, ◌∙◌}
use mathlib.Core.Bool.{Bool, false}
use mathlib.Core.List.{List}
use Rattle.number.specs.Reading as numbers
use Rattle.number.specs.Value.{Bounded}
use Rattle.number.specs.declared.Decimal.{Decimal}
use Rattle.number.proofs.Spelling.{number_bounded}
use Rattle.date.specs.declared.Date.{Date}
use Rattle.period.specs.Texts as periods
use Rattle.period.specs.declared.Period.{Period}
use Rattle.kind.specs.Relations.{Kept, numbers_relate, number_readings_relate, dates_relate, date_readings_relate, relates_read}
use Rattle.kind.specs.declared.NumberRelation.{NumberRelation}
use Rattle.kind.specs.declared.DateRelation.{DateRelation}
use Rattle.kind.specs.declared.Relation.{Relation}
use Rattle.kind.specs.declared.Readings.{Readings}
use Rattle.card_reader.specs.Readings.{Serves, serves_number, serves_span}
use Rattle.card_reader.specs.declared.TextReading.{TextReading}

module _ (relation : NumberRelation) (i : Decimal) (v : Option Decimal) where
  pub number_none : v ≡ None → false ≡ number_readings_relate relation (Some i) v
  number_none h = rw h

  pub number_relates : (f : Decimal) (t : Bool) → v ≡ Some f → t ≡ numbers_relate relation i f → t ≡ number_readings_relate relation (Some i) v
  number_relates f t h e = rw h e

pub kept_bounded : (v : Option Decimal) (f : Decimal) → Kept v → v ≡ Some f → Bounded f
kept_bounded v f k h = k.bounded f h

module _ (relation : DateRelation) (i : Period) (v : Option Date) where
  pub span_none : v ≡ None → false ≡ date_readings_relate relation (Some i) v
  span_none h = rw h

  pub span_relates : (f : Date) (t : Bool) → v ≡ Some f → t ≡ dates_relate relation i f → t ≡ date_readings_relate relation (Some i) v
  span_relates f t h y = rw h y

number_of : {text : List ℕ} {n : Decimal} → Serves text (TextReading.Number n) → numbers.read text ≡ Some n
number_of (serves_number e) = e

span_read : {text : List ℕ} {p : Period} → Serves text (TextReading.Span p) → periods.read_span text ≡ Some p
span_read (serves_span e) = e

module _ (relation : Relation) (text asked : List ℕ) (w : Readings) (h : TextReading) (s : Serves text h) where
  pub serves_bounded : (i : Decimal) → h ≡ TextReading.Number i → Bounded i
  serves_bounded i e = number_bounded text (numbers.read text) i refl (number_of (subst (Serves text) e s))

  pub serves-number : (i : Decimal) (r : NumberRelation) (t : Bool) → relation ≡ Relation.Numbers r → h ≡ TextReading.Number i → t ≡ number_readings_relate r (Some i) w.number → t ≡ relates_read relation text asked w
  unfolding relates_read
  serves-number i r t k f e = rw k (e ∙ ap (λ (n : Option Decimal). number_readings_relate r n w.number) (sym (number_of (subst (Serves text) f s))))

  pub serves-span : (i : Period) (r : DateRelation) (t : Bool) → relation ≡ Relation.Dates r → h ≡ TextReading.Span i → t ≡ date_readings_relate r (Some i) w.date → t ≡ relates_read relation text asked w
  unfolding relates_read
  serves-span i r t k f e = rw k (e ∙ ap (λ (p : Option Period). date_readings_relate r p w.date) (sym (span_read (subst (Serves text) f s))))
