-- A run of cards, and what a selection from it has to do with match on each card.
-- Assumes nothing.
use Rattle.std.specs.Prelude.{ℕ, ◌≤◌, ◌<◌, ◌≡◌, refl, length, drop}
use Rattle.std.proofs.Math.Decide.{ℕ_discrete}
use Rattle.std.proofs.Common.{arith}
use mathlib.Core.List.{List, ◌++◌, map, filter, flatten}
use Rattle.base.specs.Lists.{Listed, All}
use Rattle.card.specs.Card.{record_number}
use Rattle.refusal.specs.Answers.{Answer, count, counts, refused}

-- a run of cards: at most 128 blocks of 512 bytes, one after the other
pub record Run (cards : List ℕ) (bs : List (List ℕ)) : Type 0 where
  pub few : length bs ≤ 128
  pub sizes : All (λ (b : List ℕ). length b ≡ 512) bs
  pub whole : cards ≡ flatten bs

-- whether the answer is yes
unfoldable pub is_yes : (a : Answer) → Dec (a ≡ Answer.yes)
is_yes Answer.yes = yes refl
is_yes Answer.no = no (λ e. let z : ◌≡◌ {A = ℕ} 0 1 = cc in omega arith)
is_yes (count n) = no (λ e. let z : ◌≡◌ {A = ℕ} 0 1 = cc in omega arith)
is_yes (counts y n) = no (λ e. let z : ◌≡◌ {A = ℕ} 0 1 = cc in omega arith)
is_yes (refused n p) = no (λ e. let z : ◌≡◌ {A = ℕ} 0 1 = cc in omega arith)

-- the cards on which match answers yes, in card order
abbrev pub matching_cards : (match : List ℕ → Answer) → List (List ℕ) → List (List ℕ)
matching_cards match bs = filter (λ b. is_yes (match b)) bs

-- their record numbers, repeats kept
abbrev pub matching_numbers : (match : List ℕ → Answer) → List (List ℕ) → List ℕ
matching_numbers match bs = map record_number (matching_cards match bs)

-- how often a number stands in a list
abbrev pub occurrences : ℕ → List ℕ → ℕ
occurrences x ns = length (filter (λ n. ℕ_discrete n x) ns)

-- the cards that bear a record number
abbrev pub bearing : ℕ → List (List ℕ) → List (List ℕ)
bearing x bs = filter (λ b. ℕ_discrete (record_number b) x) bs

-- match refuses the card with the index i with the number n, and none before it
pub record RefusesCard (match : List ℕ → Answer) (bs : List (List ℕ)) (n i : ℕ) : Type 0 where
  pub card : List ℕ
  pub at : Listed bs i card
  pub refuses : match card ≡ refused n 0
  pub earlier : All (λ (b : List ℕ). (m p : ℕ) → match b ≡ refused m p → ⊥) at.before

-- where no line of the table holds, select answers the number of the matching cards, and writes their record numbers before what the
-- list held; select is its answer, and cells are those of the list afterwards
pub record SelectAnswers (match : List ℕ → Answer) (select : Answer) (cells list : List ℕ) (bs : List (List ℕ)) : Type 0 where
  pub counts : select ≡ count (length (matching_cards match bs))
  pub writes : cells ≡ matching_numbers match bs ++ drop (length (matching_cards match bs)) list

-- what select answers, and writes into the list, by what match answers on each card of the run
pub record SelectsByMatch (match : List ℕ → Answer) (select : Answer) (cells list : List ℕ) (bs : List (List ℕ)) : Type 0 where
  -- the count is that of the cards on which match answers yes
  pub counts : (n : ℕ) → select ≡ count n → n ≡ length (matching_cards match bs)
  -- their numbers stand from the first cell on, and later cells are as they were
  pub writes : (n : ℕ) → select ≡ count n
      → cells ≡ matching_numbers match bs ++ drop n list
  -- "for 21 to 23 the first faulty card decides"
  pub refuses : (n i : ℕ) → select ≡ refused n i → 21 ≤ n → n ≤ 23 → RefusesCard match bs n i
  -- 30: "list shorter than the matches", and the place is their number
  pub lacks_room : (i : ℕ) → select ≡ refused 30 i
      → (i ≡ length (matching_cards match bs)) × (length list < i)
