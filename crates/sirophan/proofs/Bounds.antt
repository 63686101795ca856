-- How large the numbers are that select answers: no count is larger than the list, and the place of a refused card is its index.
-- Assumes nothing.
use Prim.Native.Nat.{ℕ, ◌≤◌, ◌<◌}
use native.Mathlib.Omega.{arith}
use mathlib.Core.Path.{◌≡◌, refl, ap}
use mathlib.Core.Logic.{⊎_elim}
use mathlib.Core.List.{List}
use lib.Dec.{leb}
use lib.ListN.{length, length-append}
use borrow.Author.Tests.{leb-true}
use Rattle.base.proofs.Tests.{cond-elim}
use Rattle.refusal.specs.Answers.{count, refused, PlaceBound}
use Rattle.refusal.specs.Steps.{Step, found, stop, ◌>>=◌, answer}
use Rattle.answer.specs.Operations.{Question, accept_run, accept_cards, matching, accept_room, selection, select_by}
use Rattle.answer.proofs.Outcomes.{OtherNumber}
use Rattle.answer.proofs.Runs.{run_iff, run_or_none}
use Rattle.answer.proofs.Selection.{selects_by_match}

-- what a selection for `room` cells comes to
data Bounded (room : ℕ) : Step (List ℕ) → Type 0 where
  listed : {ns : List ℕ} → length ns ≤ room → Bounded room (found ns)
  stopped : {n p : ℕ} → PlaceBound n p → Bounded room (stop n p)

bounded_then : {A : Type 0} {room : ℕ} (s : Step A) {next : A → Step (List ℕ)}
    → ((n p : ℕ) → s ≡ stop n p → PlaceBound n p) → ((a : A) → s ≡ found a → Bounded room (next a)) → Bounded room (s >>= next)
bounded_then (found a) f g = g a refl
bounded_then (stop n p) f g = stopped (f n p refl)

-- a refusal with another number than 21 to 23
other_number : {n p : ℕ} → (21 ≤ n → n ≤ 23 → ⊥) → PlaceBound n p
other_number h = record { within = λ low high. absurd (h low high) }

module _ (asked : Step Question) (other : (n p : ℕ) → asked ≡ stop n p → OtherNumber n) (cards list : List ℕ) where
  module _ (q : Question) (bs : List (List ℕ)) (e : asked ≡ found q) (f : accept_run cards ≡ found bs) (n p : ℕ) where
    card-answer : accept_cards q.parameters 0 bs ≡ stop n p → select_by asked cards (length list) ≡ refused n p
    unfolding select_by selection
    card-answer g = rw (e, f, g)

    -- a card that is refused stands in the run at its place
    card_place : accept_cards q.parameters 0 bs ≡ stop n p → PlaceBound n p
    card_place g = record {
      within = λ low high.
          let run = (run_iff cards bs).0 f in
          let few = run.few in
          let card = (selects_by_match asked other cards list bs run).refuses n p (card-answer g) low high in
          let index = card.at.index in
          omega (arith, simp length-append at (ap length card.at.split));
    }

  run_place : (n p : ℕ) → accept_run cards ≡ stop n p → PlaceBound n p
  run_place n p e =
      other_number (λ low high. ⊎_elim (λ w. let f = w.1 in let z : ◌≡◌ {A = ℕ} 0 1 = cc in omega arith) (λ f. let z : n ≡ 20 = cc in omega arith) (run_or_none cards))

  selection_bounded : Bounded (length list) (selection asked cards (length list))
  unfolding selection accept_room
  selection_bounded =
      bounded_then asked (λ n p e. other_number (λ low high. other n p e low (omega arith)))
      (λ q e. bounded_then (accept_run cards) run_place
      (λ bs f. bounded_then (accept_cards q.parameters 0 bs) (card_place q bs e f)
      (λ cs g. let ns = matching q.says cs in
      cond-elim (Bounded (length list)) (leb (length ns) (length list)) (λ h. listed (leb-true (length ns) (length list) h))
      (λ _. stopped (other_number (λ low high. omega arith))))))

  pub count_within : (n : ℕ) → select_by asked cards (length list) ≡ count n → n ≤ length list
  unfolding select_by
  count_within n = by_bound selection_bounded
    where
      by_bound : {t : Step (List ℕ)} → Bounded (length list) t → answer (t >>= λ ns. found (count (length ns))) ≡ count n → n ≤ length list
      by_bound (listed {ns = ns} h) a = let same : length ns ≡ n = cc in omega arith
      by_bound (stopped h) a = absurd (let z : ◌≡◌ {A = ℕ} 0 1 = cc in omega arith)

  pub place_within : (n p : ℕ) → select_by asked cards (length list) ≡ refused n p → 21 ≤ n → n ≤ 23 → p < 128
  unfolding select_by
  place_within n p = by_bound selection_bounded
    where
      by_bound : {t : Step (List ℕ)} → Bounded (length list) t → answer (t >>= λ ns. found (count (length ns))) ≡ refused n p → 21 ≤ n → n ≤ 23 → p < 128
      by_bound (listed h) a = absurd (let z : ◌≡◌ {A = ℕ} 0 1 = cc in omega arith)
      by_bound (stopped {n = m} {p = q} h) a =
          let number : m ≡ n = cc in
          let place : q ≡ p = cc in
          rw (← number, ← place) h.within
