-- The table of refusals for search strings: when each line holds, and at which place.
-- Assumes nothing.
use Rattle.std.specs.Prelude.{ℕ, ◌≡◌, ◌⊎◌, List, ◌∷◌, ◌++◌}
use Rattle.base.specs.Lists.{All}
use Rattle.sheet.specs.Sheet.{Parameter}
use Rattle.sheet.specs.Encode.{SheetBlock}
use Rattle.query.specs.Spelling.{Alternative, Query, alternatives_of, SpellsQuery}
use Rattle.query.specs.Lines.{QueryLine}
use Rattle.search.specs.Rules.{AlternativeLine}
use Rattle.answer.specs.Refusals.{SheetLine, OneCardLine, RunLine, CardsLine, RoomLine}
use Rattle.answer.specs.Searching.{match_search_answer}

-- a line of the first alternative for which any line holds: "per alternative, the first deciding"; two of one pair have one place
pub record FirstLine (ps : List Parameter) (list : List Alternative) (n p : ℕ) : Type 0 where
  pub before : List Alternative
  pub one : Alternative
  pub after : List Alternative
  pub split : list ≡ before ++ (one ∷ after)
  pub earlier : All (λ (b : Alternative). (m : ℕ) → AlternativeLine ps b m → ⊥) before
  pub line : AlternativeLine ps one n
  -- "place of 50 and these the pair's first byte"
  pub place : p ≡ one.at

-- the lines about the alternatives
pub data AlternativesLine (sheet text : List ℕ) : ℕ → ℕ → Type 0 where
  line_of_alternative : (s : SheetBlock sheet) {q : Query} {n p : ℕ} → SpellsQuery text q → FirstLine s.parameters (alternatives_of q) n p → AlternativesLine sheet text n p

-- "Refusals, after the sheet's: 10; 50 ..; 51 ..; then per alternative .. 14, 16, 17"
abbrev pub CheckSearchLine : (sheet text : List ℕ) → ℕ → ℕ → Type 0
CheckSearchLine sheet text n p = SheetLine sheet n p ⊎ (QueryLine text n p ⊎ AlternativesLine sheet text n p)

-- "then the cards', and 30"
abbrev pub MatchSearchLine : (sheet text card : List ℕ) → ℕ → ℕ → Type 0
MatchSearchLine sheet text card n p = CheckSearchLine sheet text n p ⊎ OneCardLine sheet card n p

-- every line of select's table for a search string
abbrev pub SelectSearchLine : (sheet text cards : List ℕ) → (room : ℕ) → ℕ → ℕ → Type 0
SelectSearchLine sheet text cards room n p =
    CheckSearchLine sheet text n p ⊎ (RunLine cards n p ⊎ (CardsLine sheet cards n p ⊎ RoomLine (match_search_answer sheet text) cards room n p))
