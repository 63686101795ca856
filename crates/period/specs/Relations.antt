-- The relations of a card's period I and a filter's date F, as spans from start to end (01: i0 to i1, f0 to f1), computed. 02: "a missing
-- end lying beyond every date that can be written".
-- Assumes nothing.
use Rattle.std.specs.Prelude.{Bool, true, not, ◌&&◌, ◌||◌, ℤ, Option, Some, None}
use Rattle.std.specs.Int.Signed.{lt_z, le_z}
use Rattle.date.specs.declared.Date.{Date}
use Rattle.period.specs.declared.Period.{Period}

-- ---- an end and an instant t

-- the start lies before t
unfoldable pub starts_before : Option ℤ → ℤ → Bool
starts_before None t = true
starts_before (Some s) t = lt_z s t

-- the start lies at t or before
unfoldable pub starts_no_later : Option ℤ → ℤ → Bool
starts_no_later None t = true
starts_no_later (Some s) t = le_z s t

-- the end lies behind t
unfoldable pub ends_after : Option ℤ → ℤ → Bool
ends_after None t = true
ends_after (Some e) t = lt_z t e

-- the end lies at t or behind
unfoldable pub ends_no_earlier : Option ℤ → ℤ → Bool
ends_no_earlier None t = true
ends_no_earlier (Some e) t = le_z t e

-- ---- a period and a date

-- gt: i1 > f1
abbrev pub later : Period → Date → Bool
later i f = ends_after i.end f.end

-- lt: i0 < f0
abbrev pub earlier : Period → Date → Bool
earlier i f = starts_before i.start f.start

-- eq: I inside F: f0 <= i0 and i1 <= f1
unfoldable pub inside : Period → Date → Bool
inside i f = not (starts_before i.start f.start) && not (ends_after i.end f.end)

-- ge: gt or I inside F
unfoldable pub later_or_inside : Period → Date → Bool
later_or_inside i f = later i f || inside i f

-- le: lt or I inside F
unfoldable pub earlier_or_inside : Period → Date → Bool
earlier_or_inside i f = earlier i f || inside i f

-- sa: i0 >= f1
abbrev pub starts_after : Period → Date → Bool
starts_after i f = not (starts_before i.start f.end)

-- eb: i1 <= f0
abbrev pub ends_before : Period → Date → Bool
ends_before i f = not (ends_after i.end f.start)

-- po: i0 < f1 and f0 < i1
unfoldable pub overlaps : Period → Date → Bool
overlaps i f = starts_before i.start f.end && ends_after i.end f.start

-- co: F inside I: i0 <= f0 and f1 <= i1
unfoldable pub covers : Period → Date → Bool
covers i f = starts_no_later i.start f.start && ends_no_earlier i.end f.end
