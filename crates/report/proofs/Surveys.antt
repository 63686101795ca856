-- A survey comes out as a selection does whose list has room for a whole run: it is refused alike, and what select counts are the cards that
-- say yes.
-- Both take the same steps: inputs, run and cards. They differ in what they make of the cards. `Outcome` relates them: both have stopped with
-- one number and place, or both have found (`outcome`, by whether each step stops). The list's room does not stop the selection, since a run
-- has at most 128 cards (`room_enough`). What select counts is what says yes, and yes and no make up the run, both by induction on the cards
-- (`saying-matches`, `saying-whole`).
-- Assumes nothing.
use Rattle.std.specs.Prelude.{Ok}
use Prim.Native.Nat.{ℕ, suc, ◌+◌, ◌≤◌}
use native.Mathlib.Omega.{arith}
use mathlib.Core.Path.{◌≡◌, refl, ap, sym, ◌∙◌, subst}
use mathlib.Core.Bool.{Bool, true, false, cond, not}
use mathlib.Core.List.{List, [], ◌∷◌, map}
use lib.ListN.{length, length-map}
use borrow.Author.Tests.{le-leb}
use Rattle.base.specs.Lists.{All}
use Rattle.base.proofs.All.{all_map}
use Rattle.sheet.specs.Sheet.{parameters_of, read_sheet}
use Rattle.card.specs.Card.{read_card}
use Rattle.syntax.specs.Tree.{tests_of}
use Rattle.refusal.specs.Answers.{count, refused, counted_answer}
use Rattle.refusal.specs.Steps.{Step, found, stop, ◌>>=◌, answer}
use Rattle.answer.specs.Operations.{check_answer, Inputs, accept_inputs, Card, question_of, filter_question, accept_run, accept_cards, matching, accept_room, selection, select_by, select_answer}
use Rattle.answer.specs.Passing.{Passing}
use Rattle.answer.specs.Selection.{Run}
use Rattle.answer.proofs.Outcomes.{card_of, Accepted, CardsOutcome, all_accepted, one_stopped}
use Rattle.answer.proofs.Passing.{passing, card_accepted}
use Rattle.answer.proofs.Runs.{run_iff}
use Rattle.answer.proofs.Selection.{cards_outcome}
use Rattle.report.specs.Operation.{Survey, survey, says, saying}

-- ---- how many cards say yes, and how many no

pub saying-matches : (p : Inputs) (cs : List Card) → length (matching (question_of p).says cs) ≡ saying (says p) cs
unfolding matching saying
saying-matches p [] = refl
saying-matches p (c ∷ cs) = go (says p c) (matching (question_of p).says cs) (saying-matches p cs)
  where
    go : (b : Bool) (ns : List ℕ) {k : ℕ} → length ns ≡ k → length (cond b (c.number ∷ ns) ns) ≡ cond b (suc k) k
    go true ns e = ap suc e
    go false ns e = e

pub saying-whole : (test : Card → Bool) (cs : List Card) → saying test cs + saying (λ c. not (test c)) cs ≡ length cs
unfolding saying
saying-whole test [] = refl
saying-whole test (c ∷ cs) = go (test c) (saying test cs) (saying (λ c. not (test c)) cs) (saying-whole test cs)
  where
    go : (b : Bool) (x y : ℕ) {n : ℕ} → x + y ≡ n → cond b (suc x) x + cond (not b) (suc y) y ≡ suc n
    go true x y e = omega arith
    go false x y e = omega arith

-- ---- what a survey finds

module _ (sheet text cards : List ℕ) where
  -- a run of conforming cards, under a sheet and a filter that check passes
  pub record Found (s : Survey) : Type 0 where
    pub blocks : List (List ℕ)
    pub run : Run cards blocks
    pub inputs_accepted : accept_inputs sheet text ≡ found s.inputs
    pub accepted : All (Accepted s.inputs.parameters) blocks
    pub same : s.cards ≡ map card_of blocks

  -- the selection is that of the survey
  abbrev matches_of : Survey → List ℕ
  matches_of s = matching (question_of s.inputs).says s.cards

  data Outcome : Step Survey → Step (List ℕ) → Type 0 where
    stopped : (n p : ℕ) → Outcome (stop n p) (stop n p)
    surveyed : (s : Survey) → Found s → Outcome (found s) (found (matches_of s))

  -- all matches of a run have room
  room_enough : (p : Inputs) (bs : List (List ℕ)) → Run cards bs → accept_room 128 (matching (question_of p).says (map card_of bs)) ≡ found (matching (question_of p).says (map card_of bs))
  unfolding accept_room
  room_enough p bs run =
      let few : length (matching (question_of p).says (map card_of bs)) ≤ 128 =
      omega (arith, saying-matches p (map card_of bs), saying-whole (says p) (map card_of bs), length-map bs card_of, run.few)
      in
      rw (le-leb (length (matching (question_of p).says (map card_of bs))) 128 few)

  by_cards : (p : Inputs) (bs : List (List ℕ)) → accept_inputs sheet text ≡ found p → Run cards bs → {cs : Step (List Card)} → CardsOutcome p.parameters 0 bs cs
      → Outcome (cs >>= λ ds. found (record { inputs = p; cards = ds })) (cs >>= λ ds. accept_room 128 (matching (question_of p).says ds))
  by_cards p bs e run (all_accepted ts) =
      rw (room_enough p bs run) (surveyed (record { inputs = p; cards = map card_of bs }) (record { blocks = bs; run = run; inputs_accepted = e; accepted = ts; same = refl }))
  by_cards p bs e run (one_stopped before b after n j split k ts m s) = stopped n j

  by_run : (p : Inputs) → accept_inputs sheet text ≡ found p → (r : Step (List (List ℕ))) → accept_run cards ≡ r
      → Outcome (r >>= λ bs. accept_cards p.parameters 0 bs >>= λ ds. found (record { inputs = p; cards = ds })) (r >>= λ bs. accept_cards p.parameters 0 bs >>= λ ds. accept_room 128 (matching (question_of p).says ds))
  by_run p e (stop n i) h = stopped n i
  by_run p e (found bs) h = by_cards p bs e ((run_iff cards bs).0 h) (cards_outcome p.parameters 0 bs)

  outcome : Outcome (survey sheet text cards) (selection (filter_question sheet text) cards 128)
  unfolding survey selection filter_question
  outcome = by_inputs (accept_inputs sheet text) refl
    where
      by_inputs : (r : Step Inputs) → accept_inputs sheet text ≡ r
          → Outcome (r >>= λ p. accept_run cards >>= λ bs. accept_cards p.parameters 0 bs >>= λ ds. found (record { inputs = p; cards = ds }))
          ((r >>= λ p. found (question_of p)) >>= λ q. accept_run cards >>= λ bs. accept_cards q.parameters 0 bs >>= λ ds. accept_room 128 (matching q.says ds))
      by_inputs (stop n i) e = stopped n i
      by_inputs (found p) e = by_run p e (accept_run cards) refl

  -- ---- what it comes to, and by what select answers

  pub survey-found : (s : Survey) → survey sheet text cards ≡ found s → Found s
  survey-found s = go outcome
    where
      go : {r : Step Survey} {t : Step (List ℕ)} → Outcome r t → r ≡ found s → Found s
      go (stopped m q) h = absurd (let z : ◌≡◌ {A = ℕ} 0 1 = cc in omega arith)
      go (surveyed t f) h = let same : t ≡ s = cc in subst Found same f

  pub survey_stopped : (n p : ℕ) → survey sheet text cards ≡ stop n p → select_answer sheet text cards 128 ≡ refused n p
  unfolding select_by
  survey_stopped n p = go outcome
    where
      go : {r : Step Survey} {t : Step (List ℕ)} → Outcome r t → r ≡ stop n p → answer (t >>= λ ns. found (count (length ns))) ≡ refused n p
      go (stopped m q) h = cc
      go (surveyed t f) h = absurd (let z : ◌≡◌ {A = ℕ} 0 1 = cc in omega arith)

  -- where it refuses, the survey stops so
  pub survey_refused : (n p : ℕ) → select_answer sheet text cards 128 ≡ refused n p → survey sheet text cards ≡ stop n p
  unfolding select_by
  survey_refused n p = go outcome
    where
      go : {s : Step Survey} {t : Step (List ℕ)} → Outcome s t → answer (t >>= λ ns. found (count (length ns))) ≡ refused n p → s ≡ stop n p
      go (stopped m q) h = cc
      go (surveyed s f) h = absurd (let z : ◌≡◌ {A = ℕ} 0 1 = cc in omega arith)

  -- where it counts, the survey finds as many cards that say yes
  pub record Counted (y : ℕ) : Type 0 where
    pub survey_of : Survey
    pub finds : survey sheet text cards ≡ found survey_of
    pub found_as : Found survey_of
    pub yes : saying (says survey_of.inputs) survey_of.cards ≡ y

  pub survey-counted : (y : ℕ) → select_answer sheet text cards 128 ≡ count y → Counted y
  unfolding select_by
  survey-counted y = go outcome refl
    where
      go : {s : Step Survey} {t : Step (List ℕ)} → Outcome s t → survey sheet text cards ≡ s → answer (t >>= λ ns. found (count (length ns))) ≡ count y → Counted y
      go (stopped m q) e h = absurd (let z : ◌≡◌ {A = ℕ} 0 1 = cc in omega arith)
      go (surveyed s f) e h =
          let same : length (matches_of s) ≡ y = cc in
          record { survey_of = s; finds = e; found_as = f; yes = sym (saying-matches s.inputs s.cards) ∙ same }

  -- ---- the sheet and the cards of a survey

  module _ (s : Survey) (f : Found s) where
    checked : counted_answer (Ok (length (tests_of s.inputs.filter))) ≡ check_answer sheet text
    unfolding counted_answer check_answer
    checked = rw f.inputs_accepted

    passes : Passing sheet text
    passes = passing sheet text (Ok (length (tests_of s.inputs.filter))) (length (tests_of s.inputs.filter)) checked refl

    pub found_sheet : read_sheet sheet ≡ (Ok tt)
    found_sheet = passes.sheet_well_formed

    pub found_parameters : s.inputs.parameters ≡ parameters_of sheet
    found_parameters = let e = f.inputs_accepted in let g = passes.inputs_accepted in cc

    pub found_cards : All (λ (b : List ℕ). read_card b ≡ (Ok tt)) f.blocks
    found_cards = all_map (λ b t. (card_accepted s.inputs.parameters 0 b (card_of b) (t 0)).0) f.accepted
