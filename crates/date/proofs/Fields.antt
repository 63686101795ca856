-- Laws of the fields: each test passes exactly where its record holds.
-- Assumes nothing.
use Prim.Native.Nat.{ℕ, ◌+◌, ◌*◌, ◌<◌}
use mathlib.Core.Bool.{Bool, true, ◌&&◌}
use mathlib.Core.Path.{◌≡◌}
use native.Mathlib.Omega.{arith}
use lib.Dec.{leb}
use borrow.Author.Tests.{leb-true, le-leb}
use Rattle.base.proofs.Tests.{and_left, and_right, and_both}
use Rattle.date.specs.Calendar.{leap_year, month_length}
use Rattle.base.specs.Between.{between}
use Rattle.base.proofs.Between.{between_low, between_high, between-passes}
use Rattle.date.specs.Fields.{ValidYear, ValidMonth, ValidDay, ValidTime, ValidZone, valid_year, valid_month, valid_day, valid_time, valid_zone}
use Rattle.date.specs.Spans.{second_of_day}

-- ---- a test that passed says its record

pub year_says : {y : ℕ} → valid_year y ≡ true → ValidYear y
year_says {y} h = record { low = between_low 1 9999 y h; high = between_high 1 9999 y h }

pub month_says : {y m : ℕ} → valid_month y m ≡ true → ValidMonth y m
unfolding valid_month
month_says {y} {m} h =
    let month : between 1 12 m ≡ true = and_right (valid_year y) (between 1 12 m) h in
    record {
      year = year_says (and_left (valid_year y) (between 1 12 m) h);
      low = between_low 1 12 m month;
      high = between_high 1 12 m month;
    }

pub day_says : {y m d : ℕ} → valid_day y m d ≡ true → ValidDay y m d
unfolding valid_day
day_says {y} {m} {d} h =
    let last : ℕ = month_length (leap_year y) m in
    let day : between 1 last d ≡ true = and_right (valid_month y m) (between 1 last d) h in
    record {
      month = month_says (and_left (valid_month y m) (between 1 last d) h);
      low = between_low 1 last d day;
      high = between_high 1 last d day;
    }

pub time_says : {h m s : ℕ} → valid_time h m s ≡ true → ValidTime h m s
unfolding valid_time
time_says {h} {m} {s} t =
    let rest : (leb m 59 && leb s 59) ≡ true = and_right (leb h 23) (leb m 59 && leb s 59) t in
    record {
      hour = leb-true h 23 (and_left (leb h 23) (leb m 59 && leb s 59) t);
      minute = leb-true m 59 (and_left (leb m 59) (leb s 59) rest);
      second = leb-true s 59 (and_right (leb m 59) (leb s 59) rest);
    }

pub zone_says : {h m : ℕ} → valid_zone h m ≡ true → ValidZone h m
unfolding valid_zone
zone_says {h} {m} t =
    record {
      minute = leb-true m 59 (and_left (leb m 59) (leb (h * 60 + m) 840) t);
      most = leb-true (h * 60 + m) 840 (and_right (leb m 59) (leb (h * 60 + m) 840) t);
    }

-- ---- where a record holds, its test passes

pub year_passes : {y : ℕ} → ValidYear y → valid_year y ≡ true
year_passes v = between-passes v.low v.high

pub month_passes : {y m : ℕ} → ValidMonth y m → valid_month y m ≡ true
unfolding valid_month
month_passes {y} {m} v = and_both (valid_year y) (between 1 12 m) (year_passes v.year) (between-passes v.low v.high)

pub day_passes : {y m d : ℕ} → ValidDay y m d → valid_day y m d ≡ true
unfolding valid_day
day_passes {y} {m} {d} v =
    and_both (valid_month y m) (between 1 (month_length (leap_year y) m) d) (month_passes v.month) (between-passes v.low v.high)

pub time_passes : {h m s : ℕ} → ValidTime h m s → valid_time h m s ≡ true
unfolding valid_time
time_passes {h} {m} {s} v = rw (le-leb h 23 v.hour, le-leb m 59 v.minute, le-leb s 59 v.second)

pub zone_passes : {h m : ℕ} → ValidZone h m → valid_zone h m ≡ true
unfolding valid_zone
zone_passes {h} {m} v = rw (le-leb m 59 v.minute, le-leb (h * 60 + m) 840 v.most)

-- ---- a time lies within its day

pub time_bound : {h m s n : ℕ} → ValidTime h m s → n ≡ second_of_day h m s → n < 86400
time_bound v e = omega arith

-- ---- a day's test as the code makes it

pub day_test : (y m d : ℕ) {last : ℕ} {p q : Bool} → p ≡ valid_month y m → p ≡ true → last ≡ month_length (leap_year y) m → q ≡ between 1 last d → q ≡ valid_day y m d
unfolding valid_day
day_test y m d e h l f = rw (← e, h, ← l) f
