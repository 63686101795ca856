-- A period as a set of instants, and what a card's period I and a filter's date F are to each other, by their instants alone. An
-- instant is a second, counted from 1970-01-01T00:00:00Z; those of a date are its range (`InRange`).
-- Assumes nothing.
use Rattle.std.specs.Prelude.{ℤ, ◌≤ℤ◌, ◌<ℤ◌, Option, Some, None, ℤ}
use Rattle.date.specs.declared.Date.{Date}
use Rattle.date.specs.Instants.{InRange}
use Rattle.period.specs.declared.Period.{Period}

-- ---- the instants of a period

-- 02: "a missing end lying beyond every date that can be written": every instant lies behind a missing start
pub data From : Option ℤ → ℤ → Type 0 where
  from_open : {t : ℤ} → From None t
  from_known : {s t : ℤ} → s ≤ℤ t → From (Some s) t

-- and before a missing end
pub data Until : Option ℤ → ℤ → Type 0 where
  until_open : {t : ℤ} → Until None t
  until_known : {e t : ℤ} → t <ℤ e → Until (Some e) t

-- the instant t lies in the period: start in, end out
pub record InPeriod (p : Period) (t : ℤ) : Type 0 where
  pub from : From p.start t
  pub before : Until p.end t

-- the period has an instant: "a span that would not end after it starts is unreadable"
abbrev pub Inhabited : Period → Type 0
Inhabited p = (t : ℤ) × InPeriod p t

-- ---- an instant and a date

-- t comes after every instant of F
abbrev pub AfterAll : Date → ℤ → Type 0
AfterAll f t = (u : ℤ) → InRange f u → u <ℤ t

-- t comes before every instant of F
abbrev pub BeforeAll : Date → ℤ → Type 0
BeforeAll f t = (u : ℤ) → InRange f u → t <ℤ u

-- ---- a period and a date

-- every instant of I lies in F
abbrev pub Held : Period → Date → Type 0
Held i f = (t : ℤ) → InPeriod i t → InRange f t

-- every instant of F lies in I
abbrev pub Holds : Period → Date → Type 0
Holds i f = (t : ℤ) → InRange f t → InPeriod i t

-- some instant lies in both
abbrev pub Meets : Period → Date → Type 0
Meets i f = (t : ℤ) × InPeriod i t × InRange f t

-- some instant of I comes after all of F
abbrev pub SomeAfter : Period → Date → Type 0
SomeAfter i f = (t : ℤ) × InPeriod i t × AfterAll f t

-- some instant of I comes before all of F
abbrev pub SomeBefore : Period → Date → Type 0
SomeBefore i f = (t : ℤ) × InPeriod i t × BeforeAll f t

-- every instant of I comes after all of F
abbrev pub EveryAfter : Period → Date → Type 0
EveryAfter i f = (t : ℤ) → InPeriod i t → AfterAll f t

-- every instant of I comes before all of F
abbrev pub EveryBefore : Period → Date → Type 0
EveryBefore i f = (t : ℤ) → InPeriod i t → BeforeAll f t
