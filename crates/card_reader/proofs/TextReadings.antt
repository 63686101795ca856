-- An item is kept with what its text reads to, by kind.
-- Assumes nothing.
use Rattle.std.specs.Prelude.{Option, Some, None, is_some}
use Prim.Native.Nat.{ℕ}
use mathlib.Core.Path.{◌≡◌, refl, ap, sym, ◌∙◌}
use mathlib.Core.Bool.{Bool, true, false}
use mathlib.Core.List.{List}
use Rattle.base.specs.Kinds.{number, date, period}
use Rattle.base.proofs.Tests.{both_ways}
use Rattle.block.specs.declared.walker.Item.{Item}
use Rattle.number.specs.Reading as numbers
use Rattle.number.specs.declared.Decimal.{Decimal}
use Rattle.date.specs.Texts as dates
use Rattle.date.specs.declared.Date.{Date}
use Rattle.period.specs.Texts as periods
use Rattle.period.specs.Spelling.{span_of_period}
use Rattle.period.specs.declared.Period.{Period}
use Rattle.period.proofs.Spelling as spelling
use Rattle.kind.specs.Readable.{card_readable}
use Rattle.kind.specs.Table as table
use Rattle.card_reader.specs.Readings.{Serves, serves_bytes, serves_number, serves_span}
use Rattle.card_reader.specs.Storing.{Stored, TakesAs}
use Rattle.card_reader.specs.declared.Kept.{Kept}
use Rattle.card_reader.specs.declared.TextReading.{TextReading}

module _ (e : ℕ) (x : Item) (before : Kept) where
  abbrev t : List ℕ
  t = x.text.now

  as_stored : (kind : ℕ) (h : TextReading) (after : Kept) → true ≡ card_readable kind t → Serves t h → Stored e x h before after → TakesAs kind e x before after true
  as_stored kind h after a s st = record { answer = a; stored = λ _. (h, (s, st)); stays = λ z. both_ways refl z }

  as_misfit : (kind : ℕ) → false ≡ card_readable kind t → TakesAs kind e x before before false
  as_misfit kind a = record { answer = a; stored = λ y. both_ways y refl; stays = λ _. refl }

  -- ---- a text that is kept by its bytes

  module _ (kind : ℕ) (r : Bool) (a : r ≡ card_readable kind t) where
    pub bytes_taken : r ≡ true → (after : Kept) → Stored e x TextReading.Bytes before after → TakesAs kind e x before after true
    bytes_taken h after st = as_stored kind TextReading.Bytes after (sym h ∙ a) serves_bytes st

    pub bytes_misfit : r ≡ false → TakesAs kind e x before before false
    bytes_misfit h = as_misfit kind (sym h ∙ a)

  -- ---- a number

  module _ (r : Option Decimal) (q : r ≡ numbers.read t) where
    number-readable : is_some r ≡ card_readable number t
    unfolding card_readable table.of_kind table.kinds numbers.readable
    number-readable = ap is_some q

    pub number_taken : (n : Decimal) → r ≡ Some n → (after : Kept) → Stored e x (TextReading.Number n) before after → TakesAs number e x before after true
    number_taken n h after st = as_stored number (TextReading.Number n) after (sym (ap is_some h) ∙ number-readable) (serves_number {n = n} (sym q ∙ h)) st

    pub number_misfit : r ≡ None → TakesAs number e x before before false
    number_misfit h = as_misfit number (sym (ap is_some h) ∙ number-readable)

  -- ---- a date

  module _ (r : Option Date) (q : r ≡ dates.read t) where
    date-readable : is_some r ≡ card_readable date t
    unfolding card_readable table.of_kind table.kinds dates.readable
    date-readable = ap is_some q

    date_span : (d : Date) → r ≡ Some d → periods.read_span t ≡ Some (periods.known d)
    unfolding periods.read_span periods.span_or
    date_span d h = ap (λ (y : Option Date). periods.span_or y (periods.read t)) (sym q ∙ h)

    pub date_taken : (d : Date) (p : Period) → r ≡ Some d → p ≡ periods.known d → (after : Kept) → Stored e x (TextReading.Span p) before after → TakesAs date e x before after true
    date_taken d p h k after st = as_stored date (TextReading.Span p) after (sym (ap is_some h) ∙ date-readable) (serves_span {p = p} (date_span d h ∙ ap Some (sym k))) st

    pub date_misfit : r ≡ None → TakesAs date e x before before false
    date_misfit h = as_misfit date (sym (ap is_some h) ∙ date-readable)

  -- ---- a period

  module _ (r : Option Period) (q : r ≡ periods.read t) where
    period-readable : is_some r ≡ card_readable period t
    unfolding card_readable table.of_kind table.kinds periods.readable
    period-readable = ap is_some q

    period_span : (p : Period) → r ≡ Some p → periods.read_span t ≡ Some p
    period_span p h = (spelling.span_iff t p).1 (span_of_period ((spelling.read_iff t p).0 (sym q ∙ h)))

    pub period_taken : (p : Period) → r ≡ Some p → (after : Kept) → Stored e x (TextReading.Span p) before after → TakesAs period e x before after true
    period_taken p h after st = as_stored period (TextReading.Span p) after (sym (ap is_some h) ∙ period-readable) (serves_span {p = p} (period_span p h)) st

    pub period_misfit : r ≡ None → TakesAs period e x before before false
    period_misfit h = as_misfit period (sym (ap is_some h) ∙ period-readable)
