-- A selection goes by match: it writes the numbers of the cards on which match answers yes, and refuses the first card that match refuses.
-- By induction on the cards of the run: all are accepted, or a first one is refused and those before it are accepted (`cards_outcome`). On a card
-- that is accepted match answers what the question says (`match_accepted`); one that is refused match refuses with the same number
-- (`match_stopped`). So the numbers written are those of the cards of match's yes (`matching-numbers`, by induction on the cards), and the
-- card refused is the first that match refuses. The question is refused with no number from 21 to 30 (`OtherNumber`), so 21 to 23 tell of a
-- card and 30 of the room.
-- Assumes nothing.
use Rattle.std.specs.Prelude.{Err, Ok, Result, ⊤}
use Prim.Native.Nat.{ℕ, suc, ◌≤◌, ◌<◌}
use native.Mathlib.Decide.{ℕ_discrete}
use native.Mathlib.Omega.{arith}
use mathlib.Core.Path.{◌≡◌, refl, ap, sym, ◌∙◌, subst}
use mathlib.Core.Bool.{Bool, true, false, cond}
use mathlib.Core.Logic.{◌⊎◌, inl, inr, ⊎_elim}
use mathlib.Core.List.{List, [], ◌∷◌, ◌++◌, map}
use lib.Dec.{leb}
use lib.ListN.{length, drop, length-map}
use borrow.Author.Tests.{leb-false}
use Rattle.base.specs.Lists.{All, all_empty, all_cons}
use Rattle.base.proofs.All.{all_map}
use Rattle.base.proofs.Lists.{filter_map}
use Rattle.base.proofs.Tests.{cond-elim}
use Rattle.sheet.specs.Sheet.{Parameter}
use Rattle.card.specs.Card.{record_number, entries_of, read_card}
use Rattle.judge.specs.Sets.{conforms}
use Rattle.refusal.specs.Answers.{Answer, yes_or_no, count, refused}
use Rattle.refusal.specs.Steps.{Step, found, stop, ◌>>=◌, answer}
use Rattle.answer.specs.Operations.{Card, card_step, accept_card, Question, match_by, filter_question, accept_run, accept_cards, matching, accept_room, selection, select_by, written, cells_by}
use Rattle.answer.specs.Selection.{Run, is_yes, matching_cards, matching_numbers, occurrences, bearing, RefusesCard, SelectsByMatch}
use Rattle.refusal.proofs.Answers.{verdict_not_refused}
use Rattle.answer.proofs.Outcomes.{card_of, Accepted, Stopped, CardsOutcome, all_accepted, one_stopped, OtherNumber, SelectionOutcome, not_asked, card_refused, no_room, numbers_found}
use Rattle.answer.proofs.Inputs.{match_by_lem, question_number}
use Rattle.answer.proofs.Runs.{run_iff}
use Rattle.block.specs.declared.Flaw.{Flaw}

-- ---- a card, at whatever index

module _ (ps : List Parameter) where
  card_steps : (r : Result ⊤ Flaw) (fits : Bool) (c : Card) → ((i : ℕ) → card_step r fits c i ≡ found c) ⊎ ((n : ℕ) × (n ≤ 23) × ((i : ℕ) → card_step r fits c i ≡ stop n i))
  card_steps (Err Flaw.Size) fits c = inr (20, omega arith, λ i. refl)
  card_steps (Err Flaw.Sum) fits c = inr (21, omega arith, λ i. refl)
  card_steps (Err Flaw.Layout) fits c = inr (22, omega arith, λ i. refl)
  card_steps (Ok tt) true c = inl (λ i. refl)
  card_steps (Ok tt) false c = inr (23, omega arith, λ i. refl)

  -- a card is accepted, or refused with one number
  accepted_or_stopped : (b : List ℕ) → Accepted ps b ⊎ ((n : ℕ) × (n ≤ 23) × Stopped ps n b)
  unfolding accept_card
  accepted_or_stopped b = card_steps (read_card b) (conforms ps (entries_of b)) (card_of b)

  -- ---- the cards of a run

  cards_next : {i : ℕ} {b : List ℕ} {bs : List (List ℕ)} {rest : Step (List Card)} → Accepted ps b → CardsOutcome ps (suc i) bs rest
      → CardsOutcome ps i (b ∷ bs) (rest >>= λ cs. found (card_of b ∷ cs))
  cards_next t (all_accepted ts) = all_accepted (all_cons t ts)
  cards_next {i = i} {b = b} t (one_stopped before c after n j e k ts m s) =
      one_stopped (b ∷ before) c after n j (ap (λ (l : List (List ℕ)). b ∷ l) e) (omega arith) (all_cons t ts) m s

  pub cards_outcome : (i : ℕ) (bs : List (List ℕ)) → CardsOutcome ps i bs (accept_cards ps i bs)
  unfolding accept_cards
  cards_outcome i [] = all_accepted all_empty
  cards_outcome i (b ∷ bs) =
      let rest = cards_outcome (suc i) bs in
      ⊎_elim
      (λ t. rw (t i) (cards_next t rest))
      (λ s. rw (s.2 i) (one_stopped [] b bs s.0 i refl (omega arith) all_empty s.1 s.2))
      (accepted_or_stopped b)

-- ---- match on each card of a run

module _ (asked : Step Question) (q : Question) (e : asked ≡ found q) where
  abbrev ps : List Parameter
  ps = q.parameters

  pub match_accepted : (b : List ℕ) → Accepted ps b → match_by asked b ≡ yes_or_no (q.says (entries_of b))
  match_accepted b t = match_by_lem asked (found q) e b ∙ rw (t 0)

  match_stopped : (n : ℕ) (b : List ℕ) → Stopped ps n b → match_by asked b ≡ refused n 0
  match_stopped n b s = match_by_lem asked (found q) e b ∙ rw (s 0)

  accepted_not_refused : (b : List ℕ) → Accepted ps b → (n i : ℕ) → match_by asked b ≡ refused n i → ⊥
  accepted_not_refused b t n i h = verdict_not_refused (q.says (entries_of b)) n i (sym (match_accepted b t) ∙ h)

  -- the numbers of the cards of which yes is said are those on which match answers yes
  numbers-next : (b : List ℕ) (bs : List (List ℕ)) (v : Bool) → match_by asked b ≡ yes_or_no v
      → cond v (record_number b ∷ matching_numbers (match_by asked) bs) (matching_numbers (match_by asked) bs) ≡ matching_numbers (match_by asked) (b ∷ bs)
  unfolding is_yes
  numbers-next b bs true h = rw h
  numbers-next b bs false h = rw h

  pub matching-numbers : {bs : List (List ℕ)} → All (Accepted ps) bs → matching q.says (map card_of bs) ≡ matching_numbers (match_by asked) bs
  unfolding matching
  matching-numbers all_empty = refl
  matching-numbers (all_cons {x = b} {xs = bs} t ts) =
      rw (matching-numbers ts) (numbers-next b bs (q.says (entries_of b)) (match_accepted b t))

-- ---- a selection from a run

module _ (asked : Step Question) (other : (n p : ℕ) → asked ≡ stop n p → OtherNumber n) where
  module _ (bs : List (List ℕ)) (room : ℕ) where
    -- the matches fit into the list, or they do not
    selected_room : (numbers : List ℕ) → numbers ≡ matching_numbers (match_by asked) bs → SelectionOutcome (match_by asked) bs room (accept_room room numbers)
    unfolding accept_room
    selected_room numbers e =
        let few : length numbers ≡ length (matching_cards (match_by asked) bs) = ap length e ∙ length-map (matching_cards (match_by asked) bs) record_number in
        cond-elim (SelectionOutcome (match_by asked) bs room) (leb (length numbers) room)
        (λ _. subst (λ (ns : List ℕ). SelectionOutcome (match_by asked) bs room (found ns)) (sym e) numbers_found)
        (λ h. no_room (length numbers) few (leb-false (length numbers) room h))

    module _ (q : Question) (e : asked ≡ found q) where
      selected_cards : {cards : Step (List Card)} → CardsOutcome q.parameters 0 bs cards → SelectionOutcome (match_by asked) bs room (cards >>= λ cs. accept_room room (matching q.says cs))
      selected_cards (all_accepted ts) = selected_room (matching q.says (map card_of bs)) (matching-numbers asked q e ts)
      selected_cards (one_stopped before b after n j split k ts m s) =
          card_refused n j m
          (record {
            card = b;
            at = record { before = before; after = after; split = split; index = omega arith };
            refuses = match_stopped asked q e n b s;
            earlier = all_map (accepted_not_refused asked q e) ts;
          })

    selected : (cards : List ℕ) → Run cards bs → SelectionOutcome (match_by asked) bs room (selection asked cards room)
    unfolding selection
    selected cards run = by asked refl
      where
        by : (r : Step Question) → asked ≡ r
            → SelectionOutcome (match_by asked) bs room (r >>= λ q. accept_run cards >>= λ cs. accept_cards q.parameters 0 cs >>= λ ds. accept_room room (matching q.says ds))
        by (stop n i) e = not_asked n i (other n i e)
        by (found q) e = rw ((run_iff cards bs).1 run) (selected_cards q e (cards_outcome q.parameters 0 bs))

  -- ---- the theorems

  module _ (cards list : List ℕ) where
    abbrev select : Answer
    select = select_by asked cards (length list)

    abbrev cells : List ℕ
    cells = cells_by asked cards list

    module _ (s : Step (List ℕ)) (e : selection asked cards (length list) ≡ s) where
      answer_by : select ≡ answer (s >>= λ ns. found (count (length ns)))
      unfolding select_by
      answer_by = rw e

      cells_by_lem : cells ≡ written s list
      unfolding cells_by
      cells_by_lem = rw e

    -- "no refusal writes to a list"
    pub refusal_keeps : (n i : ℕ) → select ≡ refused n i → cells ≡ list
    refusal_keeps n i h = by_step (selection asked cards (length list)) refl
      where
        by_step : (s : Step (List ℕ)) → selection asked cards (length list) ≡ s → cells ≡ list
        by_step (stop m j) e = cells_by_lem (stop m j) e
        by_step (found ns) e = absurd (let a = answer_by (found ns) e in let z : ◌≡◌ {A = ℕ} 0 1 = cc in omega arith)

    module _ (bs : List (List ℕ)) where
      by_refusal : (n i : ℕ) → selection asked cards (length list) ≡ stop n i → (21 ≤ n → n ≤ 23 → RefusesCard (match_by asked) bs n i)
          → (n ≡ 30 → (i ≡ length (matching_cards (match_by asked) bs)) × (length list < i)) → SelectsByMatch (match_by asked) select cells list bs
      by_refusal n i e card room =
          let refusal : select ≡ refused n i = answer_by (stop n i) e in
          record {
            counts = λ m h. absurd (let z : ◌≡◌ {A = ℕ} 0 1 = cc in omega arith);
            writes = λ m h. absurd (let z : ◌≡◌ {A = ℕ} 0 1 = cc in omega arith);
            refuses = λ m j h low high.
                let number : n ≡ m = cc in
                let place : i ≡ j = cc in
                rw (← number, ← place) (card (omega arith) (omega arith));
            lacks_room = λ j h.
                let number : n ≡ 30 = cc in
                let place : i ≡ j = cc in
                rw (← place) (room number);
          }

      by_numbers : selection asked cards (length list) ≡ found (matching_numbers (match_by asked) bs) → SelectsByMatch (match_by asked) select cells list bs
      by_numbers e =
          let ns = matching_numbers (match_by asked) bs in
          let counted : select ≡ count (length ns) = answer_by (found ns) e in
          record {
            counts = λ m h. let same : m ≡ length ns = cc in same ∙ length-map (matching_cards (match_by asked) bs) record_number;
            writes = λ m h. let same : length ns ≡ m = cc in cells_by_lem (found ns) e ∙ ap (λ (k : ℕ). ns ++ drop k list) same;
            refuses = λ m j h. absurd (let z : ◌≡◌ {A = ℕ} 0 1 = cc in omega arith);
            lacks_room = λ j h. absurd (let z : ◌≡◌ {A = ℕ} 0 1 = cc in omega arith);
          }

      by_selection : {s : Step (List ℕ)} → selection asked cards (length list) ≡ s → SelectionOutcome (match_by asked) bs (length list) s → SelectsByMatch (match_by asked) select cells list bs
      by_selection e (not_asked n i o) = by_refusal n i e (λ low high. absurd (o low (omega arith))) (λ h. absurd (o (omega arith) (omega arith)))
      by_selection e (card_refused n i l r) = by_refusal n i e (λ low high. r) (λ h. absurd (omega arith))
      by_selection e (no_room i k l) = by_refusal 30 i e (λ low high. absurd (omega arith)) (λ h. (k, l))
      by_selection e numbers_found = by_numbers e

      pub selects_by_match : Run cards bs → SelectsByMatch (match_by asked) select cells list bs
      selects_by_match run = by_selection refl (selected bs (length list) cards run)

-- a filter's question
pub filter_number : (sheet text : List ℕ) (n p : ℕ) → filter_question sheet text ≡ stop n p → OtherNumber n
filter_number sheet text n p e low high = omega (arith, question_number sheet text n p e)

-- ---- record numbers

-- a record number stands among those of the matches as often as matching cards bear it
pub matching-occurrences : (match : List ℕ → Answer) (bs : List (List ℕ)) (x : ℕ) → occurrences x (matching_numbers match bs) ≡ length (bearing x (matching_cards match bs))
matching-occurrences match bs x = filter_map (λ n. ℕ_discrete n x) record_number (matching_cards match bs)
