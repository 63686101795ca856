-- The steps in which the code raises the rows: step j is about row j % n; the first n steps clear the rows, and each n after them raise
-- them by one card.
-- Assumes nothing.
use Rattle.std.specs.Prelude.{ℕ, zero, suc, ◌+◌, ◌*◌, ◌-◌, ◌/◌, ◌%◌, ◌≤◌, ◌<◌, ◌≡◌, Bool, cond, List, ltb, eqb, length, set, get_or, Ok}
use Rattle.base.specs.Parts.{part}
use Rattle.card.specs.Card.{entries_of, read_card}
use Rattle.judge.specs.Sets.{values_at}
use Rattle.report.specs.Tallies.{tally}
use Rattle.report.specs.declared.Tally.{Tally}

-- the row after one card more, which has so many values under its parameter
unfoldable pub raise : ℕ → Tally → Tally
raise n r = cond (eqb n 0) r (tally (r.cards + 1) (r.values + n))

unfoldable pub step_index : ℕ → ℕ → ℕ
step_index n j = j % n

-- the card of a step after the first n
abbrev pub step_card : List ℕ → (n j : ℕ) → List ℕ
step_card cards n j = part cards (512 * (j / n) - 512) (512 * (j / n))

unfoldable pub step_tally : List ℕ → (n j : ℕ) → Tally → Tally
step_tally cards n j r = cond (ltb j n) (tally 0 0) (raise (length (values_at (j % n) (entries_of (step_card cards n j)))) r)

-- the rows after the first k steps
unfoldable pub stepped : List ℕ → ℕ → ℕ → List Tally → List Tally
stepped cards n zero rows = rows
stepped cards n (suc k) rows =
    set (stepped cards n k rows) (step_index n k) (step_tally cards n k (get_or (stepped cards n k rows) (step_index n k) (tally 0 0)))

-- one value more, where it is under the parameter
abbrev pub count_value : ℕ → Bool → ℕ
count_value n same = cond same (n + 1) n

-- how many values a card has under the parameter with the index i
pub record ValuesOf (card : List ℕ) (i n : ℕ) : Type 0 where
  pub count : n ≡ length (values_at i (entries_of card))
  pub most : n ≤ 64

-- a row that can be raised by so many values
pub record Small (values : ℕ) (r : Tally) : Type 0 where
  pub few_cards : r.cards < 128
  pub few_values : r.values ≤ 8192
  pub more : values ≤ 64

-- what step j asks of the cards and of its row: after the first n, a card in the run that is well formed, and a row that can be raised
pub record Raisable (cards : List ℕ) (n j : ℕ) (r : Tally) : Type 0 where
  pub some : 0 < n
  pub short : length cards ≤ 65536
  pub inside : n ≤ j → 512 * (j / n) ≤ length cards
  pub well_formed : n ≤ j → read_card (step_card cards n j) ≡ (Ok tt)
  pub few_cards : n ≤ j → r.cards < 128
  pub few_values : n ≤ j → r.values ≤ 8192

-- and of the rows that there are
pub record Ready (cards : List ℕ) (n j : ℕ) (rows : List Tally) : Type 0 where
  pub room : step_index n j < length rows
  pub raisable : Raisable cards n j (get_or (stepped cards n j rows) (step_index n j) (tally 0 0))
