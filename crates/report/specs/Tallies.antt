-- The rows of a report, as 02 has them: for each parameter how many cards have it, and how many values stand under it.
-- Assumes nothing.
use Rattle.std.specs.Prelude.{ℕ, zero, suc, ◌+◌, cond, List, [], ◌∷◌, eqb, length}
use Rattle.card.specs.Card.{Entry}
use Rattle.judge.specs.Sets.{values_at}
use Rattle.report.specs.declared.Tally.{Tally}

-- a row by its two counts
abbrev pub tally : ℕ → ℕ → Tally
tally c v = record { cards = c; values = v }

-- "the number of cards in the run that have it", the parameter with the index i: cards are given by their entries
unfoldable pub cards_with : ℕ → List (List Entry) → ℕ
cards_with i [] = 0
cards_with i (es ∷ cs) = cond (eqb (length (values_at i es)) 0) (cards_with i cs) (suc (cards_with i cs))

-- "and of values under it": repeats kept
unfoldable pub values_under : ℕ → List (List Entry) → ℕ
values_under i [] = 0
values_under i (es ∷ cs) = length (values_at i es) + values_under i cs

-- "one per parameter in sheet order": n rows, from that of the parameter with the index i on
unfoldable pub tallies : List (List Entry) → (i n : ℕ) → List Tally
tallies cs i zero = []
tallies cs i (suc n) = tally (cards_with i cs) (values_under i cs) ∷ tallies cs (suc i) n
