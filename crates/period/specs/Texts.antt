-- What a card's text reads to, computed. `Spelling` says the same by the writers, and a theorem that the two agree.
-- Assumes nothing.
use Rattle.std.specs.Prelude.{ℕ, Bool, cond, List, eqb, length, Option, Some, None, is_some, ℤ}
use Prim.Native.Char.{code}
use Rattle.std.specs.Int.Signed.{lt_z}
use Rattle.base.specs.Split.{Split, whole, parts, split}
use Rattle.date.specs.declared.Date.{Date}
use Rattle.date.specs.Texts as texts
use Rattle.period.specs.declared.Period.{Period}

-- the byte between two dates
abbrev pub slash : ℕ
slash = code "/"

-- a period by its two ends
abbrev pub period : Option ℤ → Option ℤ → Period
period start end = record { start = start; end = end }

-- a card's date: the period with both ends known
unfoldable pub known : Date → Period
known d = period (Some d.start) (Some d.end)

-- "the span running from the start of the first to the end of the second"; "a span that would not end after it starts is unreadable"
unfoldable pub from_to : Date → Date → Option Period
from_to a b = cond (lt_z a.start b.end) (Some (period (Some a.start) (Some b.end))) None

-- two dates
unfoldable pub both_ends : Option Date → Option Date → Option Period
both_ends (Some a) (Some b) = from_to a b
both_ends (Some a) None = None
both_ends None b = None

-- the first alone
unfoldable pub open_end : Option Date → Option Period
open_end (Some a) = Some (period (Some a.start) None)
open_end None = None

-- the second alone
unfoldable pub open_start : Option Date → Option Period
open_start (Some b) = Some (period None (Some b.end))
open_start None = None

-- what stands before the slash, and behind it: "either one missing but not both", since no empty text is a date
unfoldable pub read_parts : List ℕ → List ℕ → Option Period
read_parts a b =
    cond (eqb (length a) 0) (open_start (texts.read b))
    (cond (eqb (length b) 0) (open_end (texts.read a)) (both_ends (texts.read a) (texts.read b)))

abbrev pub read_split : Split → Option Period
read_split (whole t) = None
read_split (parts a b) = read_parts a b

-- "two dates with a slash between"; no date has a slash
unfoldable pub read : List ℕ → Option Period
read t = read_split (split slash t)

-- 01: readable
unfoldable pub readable : List ℕ → Bool
readable t = is_some (read t)

-- the span of a card's date or period; no text is both, since a date has no slash
unfoldable pub span_or : Option Date → Option Period → Option Period
span_or (Some d) r = Some (known d)
span_or None r = r

unfoldable pub read_span : List ℕ → Option Period
read_span t = span_or (texts.read t) (read t)
