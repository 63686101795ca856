-- Laws of the steps that raise the rows: one after the other they are passes over the rows, the first clears them, and each other adds a card.
-- Assumes nothing.
use Rattle.std.specs.Prelude.{Ok}
use Prim.Native.Nat.{ℕ, zero, suc, ◌+◌, ◌*◌, ◌/◌, ◌%◌, ◌≤◌, ◌<◌, ◌^◌}
use native.Mathlib.Nat.{add-zero, add-suc, mod-zero, le-div_iff_mul-le}
use native.Mathlib.Omega.{arith}
use mathlib.Core.Path.{◌≡◌, refl, ap, sym, ◌∙◌}
use mathlib.Core.List.{List}
use lib.ListN.{length, set, get_or, length-set}
use borrow.Author.Tests.{lt-ltb, le-ltb}
use Rattle.card.specs.Card.{read_card}
use Rattle.report.specs.Tallies.{tally}
use Rattle.report.specs.Steps.{raise, step_index, step_card, step_tally, stepped, ValuesOf, Small, Raisable}
use Rattle.report.specs.declared.Tally.{Tally}

-- ---- one step

pub length-stepped : (cards : List ℕ) (n k : ℕ) (rows : List Tally) → length (stepped cards n k rows) ≡ length rows
unfolding stepped
length-stepped cards n zero rows = refl
length-stepped cards n (suc k) rows = length-set (stepped cards n k rows) (step_index n k) _ ∙ length-stepped cards n k rows

pub stepped_none : (cards : List ℕ) (n : ℕ) (rows : List Tally) → stepped cards n 0 rows ≡ rows
unfolding stepped
stepped_none cards n rows = refl

one_more : (k : ℕ) → k + 1 ≡ suc k
one_more k = add-suc k zero ∙ ap suc (add-zero k)

pub stepped_more : (cards : List ℕ) (n k : ℕ) (rows : List Tally)
    → stepped cards n (k + 1) rows ≡ set (stepped cards n k rows) (step_index n k) (step_tally cards n k (get_or (stepped cards n k rows) (step_index n k) (tally 0 0)))
unfolding stepped
stepped_more cards n k rows = ap (λ (j : ℕ). stepped cards n j rows) (one_more k)

-- a step more over the rows after the first k
pub stepped_next : (cards : List ℕ) (n k : ℕ) (rows : List Tally) (now : List Tally) (i : ℕ) (r : Tally)
    → now ≡ stepped cards n k rows → i ≡ step_index n k → r ≡ step_tally cards n k (get_or now i (tally 0 0)) → set now i r ≡ stepped cards n (k + 1) rows
stepped_next cards n k rows now i r e f g =
    let more = stepped_more cards n k rows in
    sym (rw (sym e, sym f, sym g) at more)

pub index_none : (n j : ℕ) → n ≡ 0 → j ≡ step_index n j
unfolding step_index
index_none n j e = rw e (sym (mod-zero j))

pub index_some : (n j r : ℕ) → r ≡ j % n → r ≡ step_index n j
unfolding step_index
index_some n j r e = e

-- ---- what a step asks, and what it makes of its row

module _ (cards : List ℕ) (n j : ℕ) (r : Tally) where
  pub step_clears : j < n → tally 0 0 ≡ step_tally cards n j r
  unfolding step_tally
  step_clears h = rw (lt-ltb j n h)

  pub step_raises : n ≤ j → (v : ℕ) (s : Tally) → ValuesOf (step_card cards n j) (j % n) v → s ≡ raise v r → s ≡ step_tally cards n j r
  unfolding step_tally
  step_raises h v s k e = e ∙ rw (le-ltb j n h, k.count)

  module _ (can : Raisable cards n j r) (h : n ≤ j) where
    -- the card is one of the run
    pub step-card : 512 ≤ 512 * (j / n)
    step-card = let one : 1 ≤ j / n = (le-div_iff_mul-le can.some).1 (omega arith) in omega arith

    pub step-inside : 512 * (j / n) ≤ length cards
    step-inside = can.inside h

    pub step_fits : 512 * (j / n) < 2 ^ 64
    step_fits = omega (arith, can.inside h, can.short)

    pub step_well_formed : read_card (step_card cards n j) ≡ (Ok tt)
    step_well_formed = can.well_formed h

    pub step_row : (v : ℕ) → ValuesOf (step_card cards n j) (j % n) v → Small v r
    step_row v k = record { few_cards = can.few_cards h; few_values = can.few_values h; more = k.most }
