-- Which texts spell which period.
-- Assumes nothing.
use Rattle.std.specs.Prelude.{ℕ, List, [], ◌∷◌, ◌++◌, ◌<ℤ◌, Some, None}
use Rattle.date.specs.declared.Date.{Date}
use Rattle.date.specs.Spelling as dates
use Rattle.period.specs.Texts.{slash, period, known}
use Rattle.period.specs.declared.Period.{Period}

-- 02: "two dates with a slash between, either one missing but not both, the span running from the start of the first to the end of the
-- second"; it ends after it starts
pub data Spells : List ℕ → Period → Type 0 where
  spells_both : {a b : List ℕ} {d e : Date} → dates.Spells a d → dates.Spells b e → d.start <ℤ e.end → Spells (a ++ (slash ∷ b)) (period (Some d.start) (Some e.end))
  spells_first : {a : List ℕ} {d : Date} → dates.Spells a d → Spells (a ++ (slash ∷ [])) (period (Some d.start) None)
  spells_second : {b : List ℕ} {e : Date} → dates.Spells b e → Spells (slash ∷ b) (period None (Some e.end))

-- a card's text under a date or a period, and its span
pub data SpellsSpan : List ℕ → Period → Type 0 where
  span_of_date : {t : List ℕ} {d : Date} → dates.Spells t d → SpellsSpan t (known d)
  span_of_period : {t : List ℕ} {p : Period} → Spells t p → SpellsSpan t p
