-- The reader is complete: a spelling is read to its date.
-- Assumes nothing.
use Rattle.std.specs.Prelude.{Some}
use Prim.Native.Nat.{ℕ, ◌≤◌}
use mathlib.Core.Path.{◌≡◌, refl, sym, ◌∙◌}
use mathlib.Core.List.{List, [], ◌∷◌, ◌++◌}
use native.Mathlib.Omega.{arith}
use lib.ListN.{length}
use lib.IntN.{ℤ}
use Rattle.date.specs.Fields.{ValidYear, ValidMonth, ValidDay, ValidTime, ValidZone}
use Rattle.date.specs.Spans.{year_date, month_date, day_date, second_date}
use Rattle.date.specs.Marks.{hyphen, colon, plus, letter_t}
use Rattle.date.specs.Texts.{signed, zone_at, read_year, read_month, read_day, read_local, zoned, read}
use Rattle.date.specs.Spelling.{two, four, year_text, month_text, day_text, local_text, signed_text, SpellsZone, spells_utc, spells_east, spells_west, Spells, spells_year, spells_month, spells_day, spells_second}
use Rattle.date.specs.declared.Date.{Date}
use Rattle.date.proofs.Calendar.{day_below}
use Rattle.date.proofs.Fields.{year_passes, month_passes, day_passes, time_passes, zone_passes}
use Rattle.date.proofs.Texts.{read_year_lem, read_month_lem, read_day_lem, read_long}
use Rattle.date.proofs.Positions.{two_reads, field_reads, four_reads}

-- ---- a year, a month, a day

year_reads : {y : ℕ} → ValidYear y → Some (year_date y) ≡ read (year_text y)
unfolding year_text four two read_year
year_reads {y} v = read_year_lem (year_text y) refl (rw (four_reads y [] (omega arith), year_passes v))

month_reads : {y m : ℕ} → ValidMonth y m → Some (month_date y m) ≡ read (month_text y m)
unfolding year_text month_text four two read_month
month_reads {y} {m} v =
    let s : List ℕ = month_text y m in
    let not4 : length s ≡ 4 → ⊥ = omega arith in
    read_month_lem s not4 refl
    (rw (four_reads y (hyphen ∷ two m) (omega arith), field_reads s 4 hyphen m (omega arith) refl refl refl, month_passes v))

day_reads : {y m d : ℕ} → ValidDay y m d → Some (day_date y m d) ≡ read (day_text y m d)
unfolding year_text month_text day_text four two read_day
day_reads {y} {m} {d} v =
    let s : List ℕ = day_text y m d in
    let not4 : length s ≡ 4 → ⊥ = omega arith in
    let not7 : length s ≡ 7 → ⊥ = omega arith in
    read_day_lem s not4 not7 refl
    (rw (four_reads y ((hyphen ∷ two m) ++ (hyphen ∷ two d)) (omega arith), field_reads s 4 hyphen m (omega arith) refl refl refl, field_reads s 7 hyphen d (day_below v) refl refl refl, day_passes v))

-- ---- a second, before its zone

module _ {y m d hour minute second : ℕ} (v : ValidDay y m d) (t : ValidTime hour minute second) (zone : List ℕ) where
  abbrev whole : List ℕ
  whole = local_text y m d hour minute second ++ zone

  local_reads : (offset : ℤ) → read_local whole offset ≡ Some (second_date y m d hour minute second offset)
  unfolding year_text month_text day_text local_text four two read_local
  local_reads offset =
      rw (four_reads y ((hyphen ∷ two m) ++ (hyphen ∷ two d) ++ (letter_t ∷ two hour) ++ (colon ∷ two minute) ++ (colon ∷ two second) ++ zone) (omega arith), field_reads whole 4 hyphen m (omega arith) refl refl refl, field_reads whole 7 hyphen d (day_below v) refl refl refl, field_reads whole 10 letter_t hour (omega arith) refl refl refl, field_reads whole 13 colon minute (omega arith) refl refl refl, field_reads whole 16 colon second (omega arith) refl refl refl, day_passes v, time_passes t)

-- ---- its zone

module _ (y m d hour minute second : ℕ) where
  signed_reads : (sign : ℕ) {h k : ℕ} → ValidZone h k → zone_at (local_text y m d hour minute second ++ signed_text sign h k) 19 ≡ signed sign h k
  unfolding year_text month_text day_text local_text signed_text four two zone_at
  signed_reads sign {h} {k} v =
      let s : List ℕ = local_text y m d hour minute second ++ signed_text sign h k in
      rw (two_reads s 20 h (omega arith) refl refl, field_reads s 22 colon k (omega arith) refl refl refl)

  zone_reads : {zone : List ℕ} {offset : ℤ} → SpellsZone zone offset → zone_at (local_text y m d hour minute second ++ zone) 19 ≡ Some offset
  unfolding year_text month_text day_text local_text four two zone_at signed
  zone_reads spells_utc = refl
  zone_reads (spells_east v) = signed_reads plus v ∙ rw (zone_passes v)
  zone_reads (spells_west v) = signed_reads hyphen v ∙ rw (zone_passes v)

  zone_length : {zone : List ℕ} {offset : ℤ} → SpellsZone zone offset → 20 ≤ length (local_text y m d hour minute second ++ zone)
  unfolding year_text month_text day_text local_text signed_text four two
  zone_length spells_utc = omega arith
  zone_length (spells_east v) = omega arith
  zone_length (spells_west v) = omega arith

second_reads : {y m d hour minute second : ℕ} {zone : List ℕ} {offset : ℤ} → ValidDay y m d → ValidTime hour minute second → SpellsZone zone offset → Some (second_date y m d hour minute second offset) ≡ read (local_text y m d hour minute second ++ zone)
unfolding zoned
second_reads {y} {m} {d} {hour} {minute} {second} {zone} {offset} v t z =
    let s : List ℕ = local_text y m d hour minute second ++ zone in
    let l : 20 ≤ length s = zone_length y m d hour minute second z in
    let not4 : length s ≡ 4 → ⊥ = omega arith in
    let not7 : length s ≡ 7 → ⊥ = omega arith in
    let not10 : length s ≡ 10 → ⊥ = omega arith in
    sym (local_reads v t zone offset) ∙ read_long s not4 not7 not10 l (sym (zone_reads y m d hour minute second z))

-- ---- every spelling

pub spells_reads : {s : List ℕ} {d : Date} → Spells s d → read s ≡ Some d
spells_reads (spells_year v) = sym (year_reads v)
spells_reads (spells_month v) = sym (month_reads v)
spells_reads (spells_day v) = sym (day_reads v)
spells_reads (spells_second v t z) = sym (second_reads v t z)
