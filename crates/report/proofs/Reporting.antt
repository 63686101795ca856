-- A report goes by match: it counts the cards on which match answers yes, and those on which it answers no, and refuses the first card that
-- match refuses.
-- A survey that was found has the cards of the run, each accepted. As many of them say yes as match answers yes on (`yes_matches`, from what is
-- known of select), and as many no as it answers no on (`no_matches`, by induction on the cards). A survey that has stopped stopped as select
-- does (Surveys), and of select it is known that, with a number from 21 to 23, it refuses the first card that match refuses (`card_refused`).
-- The theorems go by whether the report has found a survey or has stopped.
-- Assumes nothing.
use Prim.Native.Nat.{ℕ, suc, ◌+◌, ◌≤◌}
use native.Mathlib.Omega.{arith}
use mathlib.Core.Path.{◌≡◌, refl, ap, ap₂, sym, ◌∙◌, subst}
use mathlib.Core.Bool.{Bool, true, false, cond, not}
use mathlib.Core.List.{List, ◌∷◌, map, map-map}
use lib.Dec.{leb}
use lib.ListN.{length, replicate, length-replicate, length-map}
use Rattle.base.specs.Bytes.{Bytes}
use Rattle.base.specs.Lists.{All, all_empty, all_cons}
use Rattle.sheet.specs.Encode.{SheetBlock}
use Rattle.card.specs.Card.{entries_of, record_number}
use Rattle.refusal.specs.Answers.{counts, refused, yes_or_no}
use Rattle.refusal.specs.Steps.{Step, found, stop, ◌>>=◌, answer}
use Rattle.answer.specs.Operations.{Inputs, accept_inputs, Card, question_of, filter_question, match_answer, select_answer}
use Rattle.answer.specs.Selection.{Run, matching_cards, RefusesCard}
use Rattle.answer.proofs.CheckTable.{sheet_parameters}
use Rattle.answer.proofs.Outcomes.{card_of, Accepted}
use Rattle.answer.proofs.Inputs.{question_by}
use Rattle.answer.proofs.RunTable.{run_unique}
use Rattle.answer.proofs.Selection.{match_accepted, matching-numbers, selects_by_match, filter_number}
use Rattle.report.specs.Operation.{Survey, survey, accept_rows, says, saying, verdicts, reporting, report_answer, entries_in, tallied, report_rows}
use Rattle.report.specs.Refusals.{ReportLine}
use Rattle.report.specs.Reporting.{is_no, other_cards, rows_of, ReportAnswers, ReportsByMatch}
use Rattle.report.specs.declared.Tally.{Tally}
use Rattle.report.proofs.Surveys.{saying-matches, saying-whole, Found, survey_stopped, survey-found, found_parameters}
use Rattle.report.proofs.Table.{report_table}

-- ---- match on each card of the run

module _ (sheet text : List ℕ) (p : Inputs) (e : accept_inputs sheet text ≡ found p) where
  asks : filter_question sheet text ≡ found (question_of p)
  asks = question_by sheet text (found p) e

  yes_matches : {bs : List (List ℕ)} → All (Accepted p.parameters) bs → saying (says p) (map card_of bs) ≡ length (matching_cards (match_answer sheet text) bs)
  yes_matches {bs = bs} ts =
      sym (saying-matches p (map card_of bs)) ∙ ap length (matching-numbers (filter_question sheet text) (question_of p) asks ts) ∙ length-map (matching_cards (match_answer sheet text) bs) record_number

  no_next : (b : List ℕ) (bs : List (List ℕ)) (v : Bool) → match_answer sheet text b ≡ yes_or_no v
      → cond (not v) (suc (length (other_cards sheet text bs))) (length (other_cards sheet text bs)) ≡ length (other_cards sheet text (b ∷ bs))
  unfolding is_no
  no_next b bs true h = rw h
  no_next b bs false h = rw h

  no_matches : {bs : List (List ℕ)} → All (Accepted p.parameters) bs → saying (λ c. not (says p c)) (map card_of bs) ≡ length (other_cards sheet text bs)
  unfolding saying
  no_matches all_empty = refl
  no_matches (all_cons {x = b} {xs = bs} t ts) = rw (no_matches ts) (no_next b bs (says p (card_of b)) (match_accepted (filter_question sheet text) (question_of p) asks b t))

-- ---- what a report has found

module _ (sheet text cards : List ℕ) (room : ℕ) where
  reporting-found : (s : Survey) → reporting sheet text cards room ≡ found s → survey sheet text cards ≡ found s
  unfolding reporting accept_rows
  reporting-found s = by_survey (survey sheet text cards)
    where
      by_room : (t : Survey) (b : Bool) (n p : ℕ) → cond b (found t) (stop n p) ≡ found s → found t ≡ found s
      by_room t true n p h = h
      by_room t false n p h = absurd (let z : ◌≡◌ {A = ℕ} 0 1 = cc in omega arith)

      by_survey : (r : Step Survey) → (r >>= accept_rows room) ≡ found s → r ≡ found s
      by_survey (stop n p) h = absurd (let z : ◌≡◌ {A = ℕ} 0 1 = cc in omega arith)
      by_survey (found t) h = by_room t (leb (length t.inputs.parameters) room) 31 (length t.inputs.parameters) h

  -- a refusal with another number than 31 is the survey's
  reporting_stopped : (n p : ℕ) → (n ≡ 31 → ⊥) → reporting sheet text cards room ≡ stop n p → survey sheet text cards ≡ stop n p
  unfolding reporting accept_rows
  reporting_stopped n p other = by_survey (survey sheet text cards)
    where
      by_room : (t : Survey) (b : Bool) (q : ℕ) → cond b (found t) (stop 31 q) ≡ stop n p → found t ≡ stop n p
      by_room t true q h = h
      by_room t false q h = absurd (let z : 31 ≡ n = cc in other (sym z))

      by_survey : (r : Step Survey) → (r >>= accept_rows room) ≡ stop n p → r ≡ stop n p
      by_survey (stop m q) h = h
      by_survey (found t) h = by_room t (leb (length t.inputs.parameters) room) (length t.inputs.parameters) h

module _ (sheet text cards : List ℕ) (b : SheetBlock sheet) (rows : List Tally) (bs : List (List ℕ)) (run : Run cards bs) where
  module _ (s : Survey) (f : Found sheet text cards s) where
    same_blocks : f.blocks ≡ bs
    same_blocks = run_unique f.run run

    accepted : All (Accepted s.inputs.parameters) bs
    accepted = subst (All (Accepted s.inputs.parameters)) same_blocks f.accepted

    same_cards : s.cards ≡ map card_of bs
    same_cards = f.same ∙ ap (map card_of) same_blocks

    counts_are : verdicts s ≡ counts (length (matching_cards (match_answer sheet text) bs)) (length (other_cards sheet text bs))
    counts_are = rw same_cards (ap₂ counts (yes_matches sheet text s.inputs f.inputs_accepted accepted) (no_matches sheet text s.inputs f.inputs_accepted accepted))

    make_up : length (matching_cards (match_answer sheet text) bs) + length (other_cards sheet text bs) ≡ length bs
    make_up =
        ap₂ (λ (x y : ℕ). x + y) (sym (yes_matches sheet text s.inputs f.inputs_accepted accepted)) (sym (no_matches sheet text s.inputs f.inputs_accepted accepted))
        ∙ saying-whole (says s.inputs) (map card_of bs) ∙ length-map bs card_of

    rows_are : tallied (found s) rows ≡ rows_of b.parameters bs rows
    rows_are =
        let entries : entries_in s ≡ map entries_of bs = ap (map (λ (c : Card). c.entries)) same_cards ∙ map-map (λ (c : Card). c.entries) card_of bs in
        let count : s.inputs.parameters ≡ b.parameters = found_parameters sheet text cards s f ∙ sheet_parameters sheet b in
        rw (entries, count)

  module _ (t : Step Survey) (e : reporting sheet text cards (length rows) ≡ t) where
    answer_by : report_answer sheet text cards (length rows) ≡ answer (t >>= λ s. found (verdicts s))
    unfolding report_answer
    answer_by = rw e

    rows_by : report_rows sheet text cards rows ≡ tallied t rows
    unfolding report_rows
    rows_by = rw e

  abbrev found_by : (s : Survey) → reporting sheet text cards (length rows) ≡ found s → Found sheet text cards s
  found_by s e = survey-found sheet text cards s (reporting-found sheet text cards (length rows) s e)

  answers_by : (s : Survey) → reporting sheet text cards (length rows) ≡ found s → ReportAnswers sheet text cards b.parameters rows bs
  answers_by s e =
      record {
        verdicts = answer_by (found s) e ∙ counts_are s (found_by s e);
        whole = make_up s (found_by s e);
        writes = rows_by (found s) e ∙ rows_are s (found_by s e);
      }

  card_refused : (n i : ℕ) → reporting sheet text cards (length rows) ≡ stop n i → 21 ≤ n → n ≤ 23 → RefusesCard (match_answer sheet text) bs n i
  card_refused n i e low high =
      let list : List ℕ = replicate 128 0 in
      let stopped = survey_stopped sheet text cards n i (reporting_stopped sheet text cards (length rows) n i (λ z. omega arith) e) in
      (selects_by_match (filter_question sheet text) (filter_number sheet text) cards list bs run).refuses n i (ap (select_answer sheet text cards) (length-replicate {A = ℕ} 128 0) ∙ stopped) low high

  by_answers : ReportAnswers sheet text cards b.parameters rows bs → ReportsByMatch sheet text cards b.parameters rows bs
  by_answers r =
      let a = r.verdicts in
      record {
        says_yes = λ y n h. let z : y ≡ length (matching_cards (match_answer sheet text) bs) = cc in z;
        says_no = λ y n h. let z : n ≡ length (other_cards sheet text bs) = cc in z;
        whole = λ y n h.
            let z : y ≡ length (matching_cards (match_answer sheet text) bs) = cc in
            let w : n ≡ length (other_cards sheet text bs) = cc in
            rw (z, w) r.whole;
        writes = λ y n h. r.writes;
        refuses = λ n i h. absurd (let z : ◌≡◌ {A = ℕ} 0 1 = cc in omega arith);
      }

  by_refusal : (n i : ℕ) → reporting sheet text cards (length rows) ≡ stop n i → ReportsByMatch sheet text cards b.parameters rows bs
  by_refusal n i e =
      let a : report_answer sheet text cards (length rows) ≡ refused n i = answer_by (stop n i) e in
      record {
        says_yes = λ y z h. absurd (let z : ◌≡◌ {A = ℕ} 0 1 = cc in omega arith);
        says_no = λ y z h. absurd (let z : ◌≡◌ {A = ℕ} 0 1 = cc in omega arith);
        whole = λ y z h. absurd (let z : ◌≡◌ {A = ℕ} 0 1 = cc in omega arith);
        writes = λ y z h. absurd (let z : ◌≡◌ {A = ℕ} 0 1 = cc in omega arith);
        refuses = λ m j h low high.
            let number : n ≡ m = cc in
            let place : i ≡ j = cc in
            rw (← number, ← place) (card_refused n i e (omega arith) (omega arith));
      }

  -- ---- the theorems

  pub reports_by_match : ReportsByMatch sheet text cards b.parameters rows bs
  reports_by_match = by_step (reporting sheet text cards (length rows)) refl
    where
      by_step : (t : Step Survey) → reporting sheet text cards (length rows) ≡ t → ReportsByMatch sheet text cards b.parameters rows bs
      by_step (stop n i) e = by_refusal n i e
      by_step (found s) e = by_answers (answers_by s e)

  -- where no line of the table holds, it answers
  pub report_answered : Bytes sheet → Bytes cards → ((n p : ℕ) → ReportLine sheet text cards (length rows) n p → ⊥) → ReportAnswers sheet text cards b.parameters rows bs
  report_answered sheet-bytes bytes none = by_step (reporting sheet text cards (length rows)) refl
    where
      by_step : (t : Step Survey) → reporting sheet text cards (length rows) ≡ t → ReportAnswers sheet text cards b.parameters rows bs
      by_step (stop n p) e = absurd (none n p ((report_table sheet text cards (length rows) sheet-bytes bytes n p).0 (answer_by (stop n p) e)).holds)
      by_step (found s) e = answers_by s e

-- "none writes a row"
pub refusal_keeps : (sheet text cards : List ℕ) (rows : List Tally) (n i : ℕ) → report_answer sheet text cards (length rows) ≡ refused n i → report_rows sheet text cards rows ≡ rows
unfolding report_answer report_rows
refusal_keeps sheet text cards rows n i = by_step (reporting sheet text cards (length rows))
  where
    by_step : (t : Step Survey) → answer (t >>= λ s. found (verdicts s)) ≡ refused n i → tallied t rows ≡ rows
    by_step (stop m j) h = refl
    by_step (found s) h = absurd (let z : ◌≡◌ {A = ℕ} 0 1 = cc in omega arith)
