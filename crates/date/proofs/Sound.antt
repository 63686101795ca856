-- The reader is sound: a text that reads to a date is a spelling of it.
-- No induction: a spelling has its fields at fixed places. A field reads as 100 where its mark or a digit is missing, so one that reads
-- below 100 is its mark and two digits (`begins_field`). The laws `begins-` add field after field to what the text is known to begin with,
-- the four digits of the year first. For a year, a month and a day the length says that this is all of the text (`begins_whole`). A second
-- has a zone behind its 19 bytes, which is Z or a sign with hours and minutes (`zone_spelled`). `reads_spells` goes by the length, as the
-- reader does.
-- Assumes nothing.
use Rattle.std.specs.Prelude.{Option, Some, None}
use Prim.Native.Nat.{ℕ, ◌+◌, ◌*◌, ◌≤◌, ◌<◌}
use mathlib.Core.Bool.{cond}
use mathlib.Core.Path.{◌≡◌, refl, sym, ap, ◌∙◌, subst₂}
use mathlib.Core.List.{List, [], ◌∷◌, ◌++◌, append_assoc, append-nil}
use mathlib.Core.Logic.{⊎_elim}
use native.Mathlib.Nat.{le_of_eq}
use native.Mathlib.Omega.{arith}
use lib.Dec.{eqb, ltb}
use lib.ListN.{length, get_or, drop, drop_of_length-le}
use lib.IntN.{ℤ, pos, neg_ℤ}
use borrow.Author.Tests.{eqb-true, ltb-false}
use Rattle.base.proofs.Lists.{cons_same, drop-next}
use Rattle.base.proofs.Tests.{cond_either, cond-first}
use Rattle.date.specs.Fields.{ValidYear, ValidMonth, ValidDay, ValidTime, ValidZone, valid_year, valid_month, valid_day, valid_time, valid_zone}
use Rattle.date.specs.Spans.{year_date, month_date, day_date, second_date}
use Rattle.date.specs.Marks.{hyphen, colon, plus, letter_t, letter_z}
use Rattle.date.specs.Texts.{two_at, four_at, field_at, signed, zone_at, read_year, read_month, read_day, read_local, zoned, read}
use Rattle.date.specs.Spelling.{two, year_text, month_text, day_text, local_text, signed_text, SpellsZone, spells_utc, spells_east, spells_west, Spells, spells_year, spells_month, spells_day, spells_second}
use Rattle.date.specs.declared.Date.{Date}
use Rattle.date.proofs.Calendar.{day_below}
use Rattle.date.proofs.Fields.{year_says, month_says, day_says, time_says, zone_says}
use Rattle.date.proofs.Positions.{two-part, field_part, four-part}

-- ---- a refusal is no value

no_date : {d : Date} → None ≡ Some d → ⊥
no_date e = let z : ◌≡◌ {A = ℕ} 0 1 = cc in omega arith

no_offset : {z : ℤ} → None ≡ Some z → ⊥
no_offset e = let z : ◌≡◌ {A = ℕ} 0 1 = cc in omega arith

-- ---- the text as far as its fields are numbers

-- the first n bytes of s are the text
record Begins (s text : List ℕ) (n : ℕ) : Type 0 where
  split : s ≡ text ++ drop n s

begins_whole : {s text : List ℕ} {n : ℕ} → length s ≡ n → Begins s text n → s ≡ text
begins_whole {s} {text} {n} l b =
    b.split ∙ ap (λ (r : List ℕ). text ++ r) (drop_of_length-le s (le_of_eq l)) ∙ append-nil text

begins_field : {text : List ℕ} (s : List ℕ) (at mark : ℕ) → at + 3 ≤ length s → field_at s at mark < 100 → Begins s text at → Begins s (text ++ (mark ∷ two (field_at s at mark))) (at + 3)
begins_field {text} s at mark l h b =
    record {
      split =
          b.split ∙ ap (λ (r : List ℕ). text ++ r) (field_part s at mark l h)
          ∙ sym (append_assoc text (mark ∷ two (field_at s at mark)) (drop (at + 3) s));
    }

begins_year : (s : List ℕ) → 4 ≤ length s → ValidYear (four_at s 0) → Begins s (year_text (four_at s 0)) 4
unfolding year_text
begins_year s l v = record { split = four-part s 0 l (omega arith) }

begins_month : (s : List ℕ) → 7 ≤ length s → ValidMonth (four_at s 0) (field_at s 4 hyphen) → Begins s (month_text (four_at s 0) (field_at s 4 hyphen)) 7
unfolding month_text
begins_month s l v = begins_field s 4 hyphen l (omega arith) (begins_year s (omega arith) v.year)

begins_day : (s : List ℕ) → 10 ≤ length s → ValidDay (four_at s 0) (field_at s 4 hyphen) (field_at s 7 hyphen) → Begins s (day_text (four_at s 0) (field_at s 4 hyphen) (field_at s 7 hyphen)) 10
unfolding day_text
begins_day s l v = begins_field s 7 hyphen l (day_below v) (begins_month s (omega arith) v.month)

begins_local : (s : List ℕ) → 19 ≤ length s → ValidDay (four_at s 0) (field_at s 4 hyphen) (field_at s 7 hyphen) → ValidTime (field_at s 10 letter_t) (field_at s 13 colon) (field_at s 16 colon) → Begins s (local_text (four_at s 0) (field_at s 4 hyphen) (field_at s 7 hyphen) (field_at s 10 letter_t) (field_at s 13 colon) (field_at s 16 colon)) 19
unfolding local_text
begins_local s l v t =
    begins_field s 16 colon l (omega arith)
    (begins_field s 13 colon (omega arith) (omega arith)
    (begins_field s 10 letter_t (omega arith) (omega arith) (begins_day s (omega arith) v)))

-- ---- a zone

offset_same : {x z : ℤ} → Some x ≡ Some z → x ≡ z
offset_same e = cc

zone_written : {text rest : List ℕ} {x z : ℤ} → rest ≡ text → Some x ≡ Some z → SpellsZone text x → SpellsZone rest z
zone_written e f h = subst₂ SpellsZone (sym e) (offset_same f) h

utc_spelled : (s : List ℕ) {z : ℤ} → length s ≡ 20 → cond (eqb (get_or s 19 0) letter_z) (Some (pos 0)) None ≡ Some z → SpellsZone (drop 19 s) z
utc_spelled s l e =
    let p : _ = cond-first (eqb (get_or s 19 0) letter_z) (Some (pos 0)) None no_offset e in
    let text : drop 19 s ≡ letter_z ∷ [] =
    drop-next s 19 (omega arith) ∙ cons_same (eqb-true (get_or s 19 0) letter_z p.0) (drop_of_length-le s (le_of_eq l)) in
    zone_written text p.1 spells_utc

-- a sign and hh:mm
signed_part : (s : List ℕ) (sign : ℕ) → get_or s 19 0 ≡ sign → length s ≡ 25 → ValidZone (two_at s 20) (field_at s 22 colon) → drop 19 s ≡ signed_text sign (two_at s 20) (field_at s 22 colon)
unfolding signed_text two
signed_part s sign e l v =
    drop-next s 19 (omega arith)
    ∙ cons_same e
    (two-part s 20 (omega arith) (omega arith)
    ∙ ap (λ (r : List ℕ). two (two_at s 20) ++ r)
    (field_part s 22 colon (omega arith) (omega arith)
    ∙ ap (λ (r : List ℕ). (colon ∷ two (field_at s 22 colon)) ++ r) (drop_of_length-le s (le_of_eq l))))

signed_spelled : (s : List ℕ) {z : ℤ} → length s ≡ 25 → signed (get_or s 19 0) (two_at s 20) (field_at s 22 colon) ≡ Some z → SpellsZone (drop 19 s) z
unfolding signed
signed_spelled s l e =
    let sign : ℕ = get_or s 19 0 in
    let minutes : ℕ = two_at s 20 * 60 + field_at s 22 colon in
    let west : (Option ℤ) = cond (eqb sign hyphen) (Some (neg_ℤ (pos minutes))) None in
    let p : _ = cond-first (valid_zone (two_at s 20) (field_at s 22 colon)) (cond (eqb sign plus) (Some (pos minutes)) west) None no_offset e in
    let v : ValidZone (two_at s 20) (field_at s 22 colon) = zone_says p.0 in
    ⊎_elim
    (λ q. zone_written (signed_part s plus (eqb-true sign plus q.0) l v) q.1 (spells_east v))
    (λ q. let r : _ = cond-first (eqb sign hyphen) (Some (neg_ℤ (pos minutes))) None no_offset q.1 in
    zone_written (signed_part s hyphen (eqb-true sign hyphen r.0) l v) r.1 (spells_west v))
    (cond_either (eqb sign plus) (Some (pos minutes)) west p.1)

zone_spelled : (s : List ℕ) {z : ℤ} → zone_at s 19 ≡ Some z → SpellsZone (drop 19 s) z
unfolding zone_at
zone_spelled s e =
    let zone : (Option ℤ) = signed (get_or s 19 0) (two_at s 20) (field_at s 22 colon) in
    ⊎_elim (λ p. utc_spelled s (eqb-true (length s) 20 p.0) p.1)
    (λ p. let q : _ = cond-first (eqb (length s) 25) zone None no_offset p.1 in
    signed_spelled s (eqb-true (length s) 25 q.0) q.1)
    (cond_either (eqb (length s) 20) _ _ e)

-- ---- each spelling

pub date-same : {x d : Date} → Some x ≡ Some d → x ≡ d
date-same e = cc

spelled : {s text : List ℕ} {x d : Date} → s ≡ text → Some x ≡ Some d → Spells text x → Spells s d
spelled e f h = subst₂ Spells (sym e) (date-same f) h

year_spelled : (s : List ℕ) {d : Date} → length s ≡ 4 → read_year s ≡ Some d → Spells s d
unfolding read_year
year_spelled s l e =
    let p : _ = cond-first (valid_year (four_at s 0)) (Some (year_date (four_at s 0))) None no_date e in
    let v : ValidYear (four_at s 0) = year_says p.0 in
    spelled (begins_whole l (begins_year s (omega arith) v)) p.1 (spells_year v)

month_spelled : (s : List ℕ) {d : Date} → length s ≡ 7 → read_month s ≡ Some d → Spells s d
unfolding read_month
month_spelled s l e =
    let y : ℕ = four_at s 0 in
    let m : ℕ = field_at s 4 hyphen in
    let p : _ = cond-first (valid_month y m) (Some (month_date y m)) None no_date e in
    let v : ValidMonth y m = month_says p.0 in
    spelled (begins_whole l (begins_month s (omega arith) v)) p.1 (spells_month v)

day_spelled : (s : List ℕ) {d : Date} → length s ≡ 10 → read_day s ≡ Some d → Spells s d
unfolding read_day
day_spelled s l e =
    let y : ℕ = four_at s 0 in
    let m : ℕ = field_at s 4 hyphen in
    let d : ℕ = field_at s 7 hyphen in
    let p : _ = cond-first (valid_day y m d) (Some (day_date y m d)) None no_date e in
    let v : ValidDay y m d = day_says p.0 in
    spelled (begins_whole l (begins_day s (omega arith) v)) p.1 (spells_day v)

second_spelled : (s : List ℕ) {z : ℤ} {x : Date} → 20 ≤ length s → SpellsZone (drop 19 s) z → read_local s z ≡ Some x → Spells s x
unfolding read_local
second_spelled s {z} l zone e =
    let y : ℕ = four_at s 0 in
    let m : ℕ = field_at s 4 hyphen in
    let d : ℕ = field_at s 7 hyphen in
    let hour : ℕ = field_at s 10 letter_t in
    let minute : ℕ = field_at s 13 colon in
    let second : ℕ = field_at s 16 colon in
    let p : _ = cond-first (valid_day y m d) (cond (valid_time hour minute second) (Some (second_date y m d hour minute second z)) None) None no_date e in
    let q : _ = cond-first (valid_time hour minute second) (Some (second_date y m d hour minute second z)) None no_date p.1 in
    let v : ValidDay y m d = day_says p.0 in
    let t : ValidTime hour minute second = time_says q.0 in
    spelled (begins_local s (omega arith) v t).split q.1 (spells_second v t zone)

zoned_spelled : (s : List ℕ) {d : Date} → 20 ≤ length s → (r : Option ℤ) → zone_at s 19 ≡ r → zoned s r ≡ Some d → Spells s d
unfolding zoned
zoned_spelled s l (Some z) e f = second_spelled s l (zone_spelled s e) f
zoned_spelled s l None e f = absurd (no_date f)

long_spelled : (s : List ℕ) {d : Date} → cond (ltb (length s) 20) None (zoned s (zone_at s 19)) ≡ Some d → Spells s d
long_spelled s e =
    ⊎_elim
    (λ p. absurd (no_date p.1))
    (λ p. zoned_spelled s (ltb-false (length s) 20 p.0) (zone_at s 19) refl p.1)
    (cond_either (ltb (length s) 20) _ _ e)

-- ---- every text

pub reads_spells : (s : List ℕ) {d : Date} → read s ≡ Some d → Spells s d
unfolding read
reads_spells s e =
    ⊎_elim (λ p. year_spelled s (eqb-true (length s) 4 p.0) p.1)
    (λ p. ⊎_elim (λ q. month_spelled s (eqb-true (length s) 7 q.0) q.1)
    (λ q. ⊎_elim (λ r. day_spelled s (eqb-true (length s) 10 r.0) r.1) (λ r. long_spelled s r.1)
    (cond_either (eqb (length s) 10) _ _ q.1))
    (cond_either (eqb (length s) 7) _ _ p.1))
    (cond_either (eqb (length s) 4) _ _ e)
