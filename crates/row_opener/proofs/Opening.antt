-- Values opened once: a list has each at its row's place.
-- The loop over the rows keeps `Opening`: the list has the values of the rows so far (`Opens`), one row more at each turn (`opening_next`).
-- Parts of rows are opened by parts of the list.
-- Assumes nothing.
use Rattle.std.specs.Prelude.{Option, Some, None}
use Prim.Native.Nat.{ℕ, ◌+◌, ◌-◌, ◌≤◌, ◌<◌}
use native.Mathlib.Omega.{arith}
use mathlib.Core.Path.{◌≡◌, refl, sym, ap, subst, ◌∙◌}
use mathlib.Core.Bool.{Bool, true, false}
use mathlib.Core.List.{List}
use lib.Dec.{eqb}
use lib.ListN.{length, get_or, take, drop, set, length-set, length-drop}
use lib.Seq.{get_or-set_same, get_or-set_other, get_or-take, get_or-drop, take_all}
use Rattle.std.proofs.lemmas.Option.{none-some}
use Rattle.number.specs.declared.Decimal.{Decimal}
use Rattle.date.specs.declared.Date.{Date}
use Rattle.base.specs.Parts.{part}
use Rattle.base.proofs.Parts.{part_length}
use borrow.Author.Tests.{eqb-true, eqb-false}
use Rattle.syntax.specs.Placed.{PlacedValue}
use Rattle.syntax.specs.Scan.{value_at}
use Rattle.syntax.specs.declared.Connective.{Connective}
use Rattle.syntax.specs.declared.RawValue.{RawValue}
use Rattle.kind.specs.Table.{meaning_of}
use Rattle.kind.specs.Readable.{is_true}
use Rattle.kind.specs.Relations.{readings_of}
use Rattle.kind.specs.declared.Relation.{Relation}
use Rattle.kind.specs.declared.Readings.{Readings}
use Rattle.kind.specs.declared.Meaning.{Meaning}
use Rattle.judge.specs.Once.{readings_for}
use Rattle.rows.specs.Cells.{row_of}
use Rattle.rows.specs.Shapes.{value_in}
use Rattle.row_opener.specs.Opening.{reading_by, reading_of, readings_in, opened_value, opened_for, opened_row, Opens}
use Rattle.row_opener.specs.declared.ValueReading.{ValueReading}
use Rattle.rows.specs.declared.Probe.{Probe}
use Rattle.rows.specs.declared.Row.{Row}
use Rattle.row_opener.specs.declared.Opened.{Opened}

-- ---- `open_rows`

pub record Opening (kinds xs rows : List ℕ) (values : List (Option Opened)) (i : ℕ) : Type 0 where
  pub opens : Opens kinds xs rows values i
  pub within : i ≤ length rows

module _ (kinds xs rows : List ℕ) (values : List (Option Opened)) where
  pub opening_start : length rows ≤ length values → Opening kinds xs rows values 0
  opening_start a = record { opens = record { room = a; each = λ j h. absurd (omega (arith, h)) }; within = omega arith }

  module _ (i : ℕ) (s : Opening kinds xs rows values i) where
    pub opening_room : i < length rows → i < length values
    opening_room l = omega (arith, l, s.opens.room)

    pub opening_next : i < length rows → (o : Option Opened) → o ≡ opened_row kinds xs (get_or rows i 0) → Opening kinds xs rows (set values i o) (i + 1)
    opening_next l o e =
        record {
          opens = record {
            room = omega (arith, s.opens.room, length-set values i o);
            each = λ j h. by_place j h (eqb j i) refl;
          };
          within = omega (arith, l);
        }
      where
        by_place : (j : ℕ) → j < i + 1 → (t : Bool) → eqb j i ≡ t → get_or (set values i o) j None ≡ opened_row kinds xs (get_or rows j 0)
        by_place j h true k =
            subst (λ (m : ℕ). get_or (set values i o) m None ≡ opened_row kinds xs (get_or rows m 0)) (sym (eqb-true j i k))
            (get_or-set_same values i o None (opening_room l) ∙ e)
        by_place j h false k =
            let other : j ≡ i → ⊥ = eqb-false j i k in
            get_or-set_other values i j o None other ∙ s.opens.each j (omega (arith, h, other))

    pub opening_end : length rows ≤ i → Opens kinds xs rows values (length rows)
    opening_end l =
        let all : i ≡ length rows = omega (arith, l, s.within) in
        subst (λ (n : ℕ). Opens kinds xs rows values n) all s.opens

-- ---- what a value reads to

abbrev readings : Option Decimal → Option Date → Readings
readings n d = record { number = n; date = d }

-- what reads to a number is not read as a date
abbrev Alone : Readings → Type 0
Alone r = (a : Decimal) → r.number ≡ Some a → r.date ≡ None

none_alone : (d : Option Date) → Alone (readings None d)
none_alone d a h = absurd (none-some a h)

relation_alone : (r : Relation) (w : List ℕ) → Alone (readings_of r w)
unfolding readings_of
relation_alone (Relation.Strings r) w = none_alone None
relation_alone (Relation.Numbers r) w = λ a h. refl
relation_alone (Relation.Dates r) w = none_alone (readings_of (Relation.Dates r) w).date
relation_alone Relation.Tokens w = none_alone None
relation_alone Relation.References w = none_alone None

meaning_alone : (m : Meaning) (w : List ℕ) → Alone (readings_for m w)
unfolding readings_for
meaning_alone Meaning.Present w = none_alone None
meaning_alone (Meaning.Relates r) w = relation_alone r w
meaning_alone (Meaning.Differs r) w = relation_alone r w
meaning_alone Meaning.Nothing w = none_alone None

-- so one reading says what both say
reading_back : (n : Option Decimal) (d : Option Date) → Alone (readings n d) → readings_in (reading_by n d) ≡ readings n d
unfolding readings_in
reading_back (Some a) d s = ap (λ (e : Option Date). readings (Some a) e) (sym (s a refl))
reading_back None (Some d) s = refl
reading_back None None s = refl

pub opened_reads : (m : Meaning) (v : RawValue) (w : List ℕ) → readings_in (opened_value m v w).reading ≡ readings_for m w
unfolding opened_value reading_of
opened_reads m v w = reading_back (readings_for m w).number (readings_for m w).date (meaning_alone m w)

-- ---- the functions that open a value

pub value_is : (m : Meaning) (v : RawValue) (w : List ℕ) (t : Bool) (r : Readings) (q : ValueReading) → t ≡ is_true w → r ≡ readings_for m w → q ≡ reading_of r
    → ◌≡◌ {A = Opened} (record { escaped = v.escaped; truth = t; start = v.start; end = v.end; reading = q }) (opened_value m v w)
unfolding opened_value
value_is m v w t r q e h k = rw (e, k, h)

module _ (kinds xs : List ℕ) (p : Probe) where
  module _ (f : Option RawValue) (e : f ≡ value_at xs p.position) where
    pub for_nothing : f ≡ None → None ≡ opened_for kinds xs p
    unfolding opened_for
    for_nothing h = rw (sym e ∙ h)

    pub for_value : (o : Opened) (v : RawValue) (m : Meaning) (kind : ℕ) → f ≡ Some v → kind ≡ get_or kinds p.index 0 → m ≡ meaning_of p.operator kind → o ≡ opened_value m v (value_in xs v) → Some o ≡ opened_for kinds xs p
    unfolding opened_for
    for_value o v m kind h i j c = rw (sym e ∙ h) (ap Some (c ∙ ap (λ (n : Meaning). opened_value n v (value_in xs v)) (j ∙ ap (meaning_of p.operator) i)))

module _ (kinds xs : List ℕ) (c : ℕ) (r : Row) (e : r ≡ row_of c) where
  pub row_test : (o : Option Opened) (p : Probe) → r ≡ Row.Test p → o ≡ opened_for kinds xs p → o ≡ opened_row kinds xs c
  unfolding opened_row
  row_test o p h k = rw (sym e ∙ h) k

  pub row_bracket : (n : ℕ) → r ≡ Row.Bracket n → None ≡ opened_row kinds xs c
  unfolding opened_row
  row_bracket n h = rw (sym e ∙ h)

  pub row_not : r ≡ Row.Not → None ≡ opened_row kinds xs c
  unfolding opened_row
  row_not h = rw (sym e ∙ h)

  pub row_connect : (a : Connective) (n : ℕ) → r ≡ Row.Connect a n → None ≡ opened_row kinds xs c
  unfolding opened_row
  row_connect a n h = rw (sym e ∙ h)

  pub row_unknown : r ≡ Row.Unknown → None ≡ opened_row kinds xs c
  unfolding opened_row
  row_unknown h = rw (sym e ∙ h)

-- a value of the text stands within it
pub placed_few : (xs : List ℕ) (v : RawValue) → PlacedValue xs v → length xs ≤ 1024 → (v.start ≤ 1024) × (v.end ≤ 1024)
placed_few xs v q l = (omega (arith, q.order, q.within, l), omega (arith, q.within, l))

-- ---- parts of rows

module _ {kinds xs rows : List ℕ} {values : List (Option Opened)} (o : Opens kinds xs rows values (length rows)) where
  pub opens_second : (m e : ℕ) → m ≤ e → e ≤ length rows → Opens kinds xs (part rows m e) (take (length values - m) (drop m values)) (length (part rows m e))
  opens_second m e h k =
      let n : length (part rows m e) ≡ e - m = part_length rows m e k in
      let vs : take (length values - m) (drop m values) ≡ drop m values = take_all (length values - m) (drop m values) (omega (arith, length-drop m values)) in
      rw vs
      (record {
        room = omega (arith, n, h, k, o.room, length-drop m values);
        each = λ j i. at j (omega (arith, i, n));
      })
    where
      at : (j : ℕ) → j < e - m → get_or (drop m values) j None ≡ opened_row kinds xs (get_or (part rows m e) j 0)
      at j i =
          get_or-drop m values j None
          ∙ o.each (m + j) (omega (arith, i, k, h))
          ∙ ap (opened_row kinds xs) (sym (get_or-take (e - m) (drop m rows) j 0 i ∙ get_or-drop m rows j 0))
