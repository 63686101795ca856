-- Whether a card's text stands in a relation to a filter's value. Texts that are not readable stand in none.
-- Assumes nothing.
use Rattle.std.specs.Prelude.{ℕ, ◌≡◌, Bool, false, List, Option, Some, None}
use Rattle.text.specs.Compare as texts
use Rattle.number.specs.Value as number
use Rattle.number.specs.Billionths as billionths
use Rattle.number.specs.Reading as numbers
use Rattle.number.specs.declared.Decimal.{Decimal}
use Rattle.date.specs.Texts as dates
use Rattle.date.specs.declared.Date.{Date}
use Rattle.period.specs.Relations as period
use Rattle.period.specs.Texts as periods
use Rattle.period.specs.declared.Period.{Period}
use Rattle.token.specs.Match as tokens
use Rattle.kind.specs.declared.StringRelation.{StringRelation}
use Rattle.kind.specs.declared.NumberRelation.{NumberRelation}
use Rattle.kind.specs.declared.DateRelation.{DateRelation}
use Rattle.kind.specs.declared.Relation.{Relation}
use Rattle.kind.specs.declared.Readings.{Readings}

-- i is the card's text, f the filter's value
unfoldable pub strings_relate : StringRelation → List ℕ → List ℕ → Bool
strings_relate StringRelation.Same i f = texts.same i f
strings_relate StringRelation.Contains i f = texts.contains i f
strings_relate StringRelation.Starts i f = texts.starts i f
strings_relate StringRelation.Ends i f = texts.ends i f

-- i is the card's number, f the filter's
unfoldable pub numbers_relate : NumberRelation → Decimal → Decimal → Bool
numbers_relate NumberRelation.Inside i f = billionths.inside i f
numbers_relate NumberRelation.Greater i f = number.greater i f
numbers_relate NumberRelation.Less i f = number.less i f
numbers_relate NumberRelation.AtLeast i f = number.at_least i f
numbers_relate NumberRelation.AtMost i f = number.at_most i f
numbers_relate NumberRelation.Covers i f = number.covers i f

abbrev pub number_readings_relate : NumberRelation → Option Decimal → Option Decimal → Bool
number_readings_relate r (Some i) (Some f) = numbers_relate r i f
number_readings_relate r (Some i) None = false
number_readings_relate r None f = false

-- i is the card's period, f the filter's date
unfoldable pub dates_relate : DateRelation → Period → Date → Bool
dates_relate DateRelation.Inside i f = period.inside i f
dates_relate DateRelation.Later i f = period.later i f
dates_relate DateRelation.Earlier i f = period.earlier i f
dates_relate DateRelation.LaterOrInside i f = period.later_or_inside i f
dates_relate DateRelation.EarlierOrInside i f = period.earlier_or_inside i f
dates_relate DateRelation.StartsAfter i f = period.starts_after i f
dates_relate DateRelation.EndsBefore i f = period.ends_before i f
dates_relate DateRelation.Overlaps i f = period.overlaps i f
dates_relate DateRelation.Covers i f = period.covers i f

abbrev pub date_readings_relate : DateRelation → Option Period → Option Date → Bool
date_readings_relate r (Some i) (Some f) = dates_relate r i f
date_readings_relate r (Some i) None = false
date_readings_relate r None f = false

-- i is the card's text, f the filter's value; a card's date and period are both spans
unfoldable pub relates_to : Relation → List ℕ → List ℕ → Bool
relates_to (Relation.Strings r) i f = strings_relate r i f
relates_to (Relation.Numbers r) i f = number_readings_relate r (numbers.read i) (numbers.read f)
relates_to (Relation.Dates r) i f = date_readings_relate r (periods.read_span i) (dates.read f)
relates_to Relation.Tokens i f = tokens.matches i f
relates_to Relation.References i f = texts.same i f

-- ---- a value that is read once for many texts

-- a number that was read keeps to its bounds
pub record Kept (n : Option Decimal) : Type 0 where
  pub bounded : (d : Decimal) → n ≡ Some d → number.Bounded d

-- of a value whose bytes are compared
abbrev pub unread : Readings
unread = record { number = None; date = None }

-- what a value reads to, where the relation compares what texts read to
unfoldable pub readings_of : Relation → List ℕ → Readings
readings_of (Relation.Strings r) f = unread
readings_of (Relation.Numbers r) f = record { number = numbers.read f; date = None }
readings_of (Relation.Dates r) f = record { number = None; date = dates.read f }
readings_of Relation.Tokens f = unread
readings_of Relation.References f = unread

unfoldable pub relates_read : Relation → List ℕ → List ℕ → Readings → Bool
relates_read (Relation.Strings r) i f v = strings_relate r i f
relates_read (Relation.Numbers r) i f v = number_readings_relate r (numbers.read i) v.number
relates_read (Relation.Dates r) i f v = date_readings_relate r (periods.read_span i) v.date
relates_read Relation.Tokens i f v = tokens.matches i f
relates_read Relation.References i f v = texts.same i f
