-- A text reads to a period exactly where it is a spelling of it, since no date has a slash; and what is read has an instant.
-- The reader cuts the text at its first slash. From the reading to the spelling `parts_there` goes by whether the part on either side is
-- empty, as the reader does. The other direction goes by the cases of the spelling (`spells_reads`): what stands before its slash is a date
-- or nothing, and has no slash (`date-plain`), so that the cut gives back its parts. A period has a slash (`not_plain`), so that no text is
-- both a date and a period. The instant is the start, or one before the end where the start is open (`spells_inhabited`).
-- Assumes nothing.
use Rattle.std.specs.Prelude.{Option, Some, None, is_some}
use Prim.Native.Nat.{ℕ, ◌+◌, ◌/◌, ◌%◌}
use native.Mathlib.Omega.{arith}
use mathlib.Core.Bool.{true, false≢true}
use mathlib.Core.Path.{◌≡◌, refl, sym, subst, ◌∙◌}
use mathlib.Core.List.{List, [], ◌∷◌, ◌++◌}
use mathlib.Core.Logic.{◌↔◌}
use lib.IntN.{ℤ}
use lib.Signed.{lt_z, ≤ℤ_refl}
use Rattle.base.specs.Lists.{all_empty, all_cons}
use Rattle.base.specs.Split.{Without}
use Rattle.base.proofs.All.{all_head, all_append, all_right}
use Rattle.base.proofs.Integers.{lt_z_iff}
use Rattle.base.proofs.Split.{split-whole, split_at_lem, split_cases}
use Rattle.base.proofs.Tests.{cond-first}
use Rattle.date.specs.declared.Date.{Date}
use Rattle.date.specs.Marks.{hyphen, colon, plus, letter_t, letter_z}
use Rattle.date.specs.Spelling as date-spelling
use Rattle.date.specs.Texts as texts
use Rattle.date.proofs.Spelling as date-reading
use Rattle.date.proofs.Readings.{read_first}
use Rattle.period.specs.Instants.{Inhabited, from_open, from_known, until_open, until_known}
use Rattle.period.specs.Texts.{slash, period, known, from_to, both_ends, open_end, open_start, read_parts, read, readable, span_or, read_span}
use Rattle.period.specs.Spelling.{Spells, spells_both, spells_first, spells_second, SpellsSpan, span_of_date, span_of_period}
use Rattle.period.specs.declared.Period.{Period}
use Rattle.period.proofs.Relations.{less}
use Rattle.period.proofs.Texts.{parts_first, parts_both}

-- ---- no date has a slash

abbrev Plain : List ℕ → Type 0
Plain = Without slash

plain-next : (x : ℕ) {s : List ℕ} → (x ≡ slash → ⊥) → Plain s → Plain (x ∷ s)
plain-next x h k = all_cons h k

two-plain : (n : ℕ) → Plain (date-spelling.two n)
unfolding date-spelling.two
two-plain n = plain-next (48 + n / 10) (λ e. omega arith) (plain-next (48 + n % 10) (λ e. omega arith) all_empty)

year_plain : (y : ℕ) → Plain (date-spelling.year_text y)
unfolding date-spelling.year_text date-spelling.four
year_plain y = all_append _ (two-plain (y / 100)) (two-plain (y % 100))

-- a mark that is no slash, and two digits
mark-plain : (mark n : ℕ) → (mark ≡ slash → ⊥) → Plain (mark ∷ date-spelling.two n)
mark-plain mark n h = all_cons h (two-plain n)

month_plain : (y m : ℕ) → Plain (date-spelling.month_text y m)
unfolding date-spelling.month_text
month_plain y m = all_append _ (year_plain y) (mark-plain hyphen m (λ e. omega arith))

day_plain : (y m d : ℕ) → Plain (date-spelling.day_text y m d)
unfolding date-spelling.day_text
day_plain y m d = all_append _ (month_plain y m) (mark-plain hyphen d (λ e. omega arith))

local_plain : (y m d hour minute second : ℕ) → Plain (date-spelling.local_text y m d hour minute second)
unfolding date-spelling.local_text
local_plain y m d hour minute second =
    all_append _
    (all_append _ (all_append _ (day_plain y m d) (mark-plain letter_t hour (λ e. omega arith))) (mark-plain colon minute (λ e. omega arith)))
    (mark-plain colon second (λ e. omega arith))

zone_plain : {zone : List ℕ} {offset : ℤ} → date-spelling.SpellsZone zone offset → Plain zone
unfolding date-spelling.signed_text
zone_plain date-spelling.spells_utc = plain-next letter_z (λ e. omega arith) all_empty
zone_plain (date-spelling.spells_east {h} {m} v) = all_append _ (mark-plain plus h (λ e. omega arith)) (mark-plain colon m (λ e. omega arith))
zone_plain (date-spelling.spells_west {h} {m} v) = all_append _ (mark-plain hyphen h (λ e. omega arith)) (mark-plain colon m (λ e. omega arith))

date-plain : {t : List ℕ} {d : Date} → date-spelling.Spells t d → Plain t
date-plain (date-spelling.spells_year {y} v) = year_plain y
date-plain (date-spelling.spells_month {y} {m} v) = month_plain y m
date-plain (date-spelling.spells_day {y} {m} {d} v) = day_plain y m d
date-plain (date-spelling.spells_second {y} {m} {d} {hour} {minute} {second} v t z) = all_append _ (local_plain y m d hour minute second) (zone_plain z)

-- ---- a text that reads to a period spells it

second_there : (b : List ℕ) (p : Period) (r : Option Date) → texts.read b ≡ r → open_start r ≡ Some p → Spells (slash ∷ b) p
unfolding open_start
second_there b p (Some e) h k =
    let z : period None (Some e.end) ≡ p = cc in
    subst (Spells (slash ∷ b)) z (spells_second ((date-reading.read_iff b e).0 h))
second_there b p None h k = let z : ◌≡◌ {A = ℕ} 0 1 = cc in absurd (omega arith)

first_there : (a : List ℕ) (p : Period) (r : Option Date) → texts.read a ≡ r → open_end r ≡ Some p → Spells (a ++ (slash ∷ [])) p
unfolding open_end
first_there a p (Some d) h k =
    let z : period (Some d.start) None ≡ p = cc in
    subst (Spells (a ++ (slash ∷ []))) z (spells_first ((date-reading.read_iff a d).0 h))
first_there a p None h k = let z : ◌≡◌ {A = ℕ} 0 1 = cc in absurd (omega arith)

not_readable : (p : Period) → None ≡ Some p → ⊥
not_readable p e = let z : ◌≡◌ {A = ℕ} 0 1 = cc in omega arith

both_there : (a b : List ℕ) (p : Period) (r s : Option Date) → texts.read a ≡ r → texts.read b ≡ s → both_ends r s ≡ Some p → Spells (a ++ (slash ∷ b)) p
unfolding both_ends from_to
both_there a b p (Some d) (Some e) h g k =
    let w = cond-first (lt_z d.start e.end) (Some (period (Some d.start) (Some e.end))) None (not_readable p) k in
    let same = w.1 in
    let z : period (Some d.start) (Some e.end) ≡ p = cc in
    subst (Spells (a ++ (slash ∷ b))) z (spells_both ((date-reading.read_iff a d).0 h) ((date-reading.read_iff b e).0 g) ((lt_z_iff d.start e.end).0 w.0))
both_there a b p (Some d) None h g k = absurd (not_readable p k)
both_there a b p None s h g k = absurd (not_readable p k)

parts_there : (p : Period) (a b : List ℕ) → read_parts a b ≡ Some p → Spells (a ++ (slash ∷ b)) p
unfolding read_parts
parts_there p [] b h = second_there b p (texts.read b) refl h
parts_there p (x ∷ a) [] h = first_there (x ∷ a) p (texts.read (x ∷ a)) refl (parts_first (x ∷ a) [] _ (λ e. omega arith) refl refl ∙ h)
parts_there p (x ∷ a) (y ∷ b) h =
    both_there (x ∷ a) (y ∷ b) p (texts.read (x ∷ a)) (texts.read (y ∷ b)) refl refl
    (parts_both (x ∷ a) (y ∷ b) _ (λ e. omega arith) (λ e. omega arith) refl ∙ h)

reads_spells : (p : Period) (t : List ℕ) → read t ≡ Some p → Spells t p
unfolding read
reads_spells p =
    split_cases slash (λ (t : List ℕ). read t ≡ Some p → Spells t p)
    (λ c h e. absurd (not_readable p (rw (split-whole slash c h) at e)))
    (λ a b h e. parts_there p a b (rw (split_at_lem slash a b h) at e))

-- ---- and the other way round

-- no date is empty
empty_unreadable : (d : Date) → texts.read [] ≡ Some d → ⊥
unfolding texts.read
empty_unreadable d e = let z : ◌≡◌ {A = ℕ} 0 1 = cc in omega arith

both-back : (a b : List ℕ) {d e : Date} → texts.read a ≡ Some d → texts.read b ≡ Some e → read_parts a b ≡ from_to d e
unfolding both_ends
both-back [] b {d} h g = absurd (empty_unreadable d h)
both-back (x ∷ a) [] {d} {e} h g = absurd (empty_unreadable e g)
both-back (x ∷ a) (y ∷ b) h g = sym (parts_both (x ∷ a) (y ∷ b) _ (λ e. omega arith) (λ e. omega arith) (rw (h, g)))

first_back : (a : List ℕ) {d : Date} → texts.read a ≡ Some d → read_parts a [] ≡ Some (period (Some d.start) None)
unfolding open_end
first_back [] {d} h = absurd (empty_unreadable d h)
first_back (x ∷ a) h = sym (parts_first (x ∷ a) [] _ (λ e. omega arith) refl (rw h))

spells_reads : {t : List ℕ} {p : Period} → Spells t p → read t ≡ Some p
unfolding read from_to read_parts open_start
spells_reads (spells_both {a = a} {b = b} {d = d} {e = e} s r l) =
    rw (split_at_lem slash a b (date-plain s), both-back a b ((date-reading.read_iff a d).1 s) ((date-reading.read_iff b e).1 r), (lt_z_iff d.start e.end).1 l)
spells_reads (spells_first {a = a} {d = d} s) =
    rw (split_at_lem slash a [] (date-plain s)) (first_back a ((date-reading.read_iff a d).1 s))
spells_reads (spells_second {b = b} {e = e} s) =
    rw (split_at_lem slash [] b all_empty, (date-reading.read_iff b e).1 s)

-- the theorem: a text reads to a period exactly where it is a spelling of it
pub read_iff : (t : List ℕ) (p : Period) → (read t ≡ Some p) ↔ Spells t p
read_iff t p = (reads_spells p t, spells_reads)

-- so a text spells one period at most
pub spells_unique : {t : List ℕ} {p q : Period} → Spells t p → Spells t q → p ≡ q
spells_unique {t} {p} {q} s r =
    let e : Some p ≡ Some q = sym (spells_reads s) ∙ spells_reads r in cc

-- and it is readable exactly where it spells one
readable_there : (t : List ℕ) (r : Option Period) → read t ≡ r → is_some r ≡ true → (p : Period) × Spells t p
readable_there t (Some p) e h = (p, reads_spells p t e)
readable_there t None e h = absurd (false≢true h)

pub readable_iff : (t : List ℕ) → (readable t ≡ true) ↔ ((p : Period) × Spells t p)
unfolding readable
readable_iff t = (readable_there t (read t) refl, λ w. rw (spells_reads w.1))

-- ---- a date or a period

not_plain : {t : List ℕ} {p : Period} → Spells t p → Plain t → ⊥
not_plain (spells_both {a = a} s r l) h = all_head _ (all_right _ a h) refl
not_plain (spells_first {a = a} s) h = all_head _ (all_right _ a h) refl
not_plain (spells_second s) h = all_head _ h refl

-- no period is a date
period_no_date : (t : List ℕ) {p : Period} → Spells t p → (r : Option Date) → texts.read t ≡ r → r ≡ None
period_no_date t s (Some d) e = absurd (not_plain s (date-plain ((date-reading.read_iff t d).0 e)))
period_no_date t s None e = refl

span_there : (t : List ℕ) (p : Period) (r : Option Date) → texts.read t ≡ r → span_or r (read t) ≡ Some p → SpellsSpan t p
unfolding span_or
span_there t p (Some d) e h =
    let z : known d ≡ p = cc in
    subst (SpellsSpan t) z (span_of_date ((date-reading.read_iff t d).0 e))
span_there t p None e h = span_of_period (reads_spells p t h)

span_back : {t : List ℕ} {p : Period} → SpellsSpan t p → read_span t ≡ Some p
unfolding read_span span_or
span_back (span_of_date {t = t} {d = d} s) = rw ((date-reading.read_iff t d).1 s)
span_back (span_of_period {t = t} s) = rw (period_no_date t s (texts.read t) refl) (spells_reads s)

pub span_iff : (t : List ℕ) (p : Period) → (read_span t ≡ Some p) ↔ SpellsSpan t p
unfolding read_span
span_iff t p = (span_there t p (texts.read t) refl, span_back)

-- ---- what is read has an instant

spells_inhabited : {t : List ℕ} {p : Period} → Spells t p → Inhabited p
spells_inhabited (spells_both {d = d} s r l) = (d.start, record { from = from_known (≤ℤ_refl d.start); before = until_known l })
spells_inhabited (spells_first {d = d} s) = (d.start, record { from = from_known (≤ℤ_refl d.start); before = until_open })
spells_inhabited (spells_second {e = e} s) = let y = less e.end in (y.0, record { from = from_open; before = until_known y.1 })

pub span_inhabited : {t : List ℕ} {p : Period} → SpellsSpan t p → Inhabited p
unfolding known
span_inhabited (span_of_date {t = t} {d = d} s) =
    let first = read_first t ((date-reading.read_iff t d).1 s) in
    (d.start, record { from = from_known first.from; before = until_known first.before })
span_inhabited (span_of_period s) = spells_inhabited s
