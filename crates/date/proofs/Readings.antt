-- What holds of every date that is read: it starts before it ends, and both ends are far from the ends of an i64.
-- Assumes nothing.
use Rattle.std.specs.Prelude.{Some}
use Prim.Native.Nat.{ℕ, ◌+◌, ◌*◌, ◌^◌, ◌≤◌, ◌<◌}
use mathlib.Core.Path.{◌≡◌, refl}
use mathlib.Core.List.{List}
use native.Mathlib.Omega.{arith}
use lib.Dec.{lit≤}
use lib.IntN.{ℤ, pos}
use lib.Signed.{≤ℤ_refl}
use Rattle.base.proofs.Integers.{nat_abs_neg, lt_z_iff}
use Rattle.date.specs.Calendar.{year_length}
use Rattle.date.specs.Fields.{ValidDay, ValidTime, ValidOffset}
use Rattle.date.specs.Spans.{date_of, days_from, second_from, year_date, month_date, day_date, second_date, Proper}
use Rattle.date.specs.Texts.{read}
use Rattle.date.specs.Instants.{InRange}
use Rattle.date.specs.Spelling.{SpellsZone, spells_utc, spells_east, spells_west, Spells, spells_year, spells_month, spells_day, spells_second}
use Rattle.date.specs.declared.Date.{Date}
use Rattle.date.proofs.Calendar.{day_bound, day_small, month_first, month_small, year_small}
use Rattle.date.proofs.Fields.{time_bound}
use Rattle.date.proofs.Spans.{instant_mag, instant_order}
use Rattle.date.proofs.Sound.{reads_spells}

date_proper : (from to : ℕ) (z : ℤ) → from < to → to < 2 ^ 40 → ValidOffset z → Proper (date_of from to z)
unfolding date_of
date_proper from to z h k q =
    record {
      order = instant_order from to z h;
      start_small = instant_mag from z (omega arith) q;
      end_small = instant_mag to z k q;
    }

days_proper : (first count : ℕ) → 1 ≤ count → first + count < 4000000 → Proper (days_from first count)
unfolding days_from
days_proper first count h k = date_proper _ _ (pos 0) (omega arith) (omega arith) (lit≤ tt)

spells_offset : {zone : List ℕ} {offset : ℤ} → SpellsZone zone offset → ValidOffset offset
spells_offset spells_utc = lit≤ tt
spells_offset (spells_east v) = v.most
spells_offset (spells_west {h} {m} v) = rw (nat_abs_neg (pos (h * 60 + m))) v.most

second_proper : {y m d hour minute second : ℕ} (offset : ℤ) → ValidDay y m d → ValidTime hour minute second → ValidOffset offset → Proper (second_date y m d hour minute second offset)
unfolding second_date second_from
second_proper offset v t q =
    date_proper _ _ offset (omega arith) (omega (arith, day_bound v refl, time_bound t refl)) q

spells_proper : {s : List ℕ} {d : Date} → Spells s d → Proper d
unfolding year_date month_date day_date year_length
spells_proper (spells_year v) = days_proper _ _ (omega arith) (year_small v refl refl)
spells_proper (spells_month v) = days_proper _ _ (month_first v) (month_small v refl refl)
spells_proper (spells_day v) = days_proper _ _ (lit≤ tt) (day_small v refl)
spells_proper (spells_second v t z) = second_proper _ v t (spells_offset z)

pub read_proper : (s : List ℕ) {d : Date} → read s ≡ Some d → Proper d
read_proper s e = spells_proper (reads_spells s e)

-- its start is one of its instants
pub read_first : (s : List ℕ) {d : Date} → read s ≡ Some d → InRange d d.start
read_first s {d} e = record { from = ≤ℤ_refl d.start; before = (lt_z_iff d.start d.end).0 (read_proper s e).order }
