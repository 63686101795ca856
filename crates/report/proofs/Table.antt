-- The table of refusals for a report: what is decided for a selection up to its cards, and then the rows.
-- Assumes nothing.
use Prim.Native.Nat.{ℕ, ◌≤◌, ◌<◌}
use native.Mathlib.Nat.{le_refl, le_of_eq}
use native.Mathlib.Omega.{arith}
use mathlib.Core.Path.{◌≡◌, refl, ap, sym, ◌∙◌, subst}
use mathlib.Core.Logic.{◌↔◌, ◌⊎◌, inl, inr, ⊎_elim}
use mathlib.Core.List.{List}
use lib.Dec.{leb}
use lib.ListN.{length}
use borrow.Author.Tests.{leb-true, leb-false}
use Rattle.base.specs.Bytes.{Bytes}
use Rattle.base.specs.Lists.{member}
use Rattle.base.proofs.Tests.{cond-elim}
use Rattle.sheet.specs.Sheet.{Parameter}
use Rattle.sheet.specs.Encode.{SheetBlock}
use Rattle.refusal.specs.Answers.{refused}
use Rattle.refusal.specs.Order.{rank, group, Before, Decides}
use Rattle.refusal.specs.Steps.{Step}
use Rattle.refusal.proofs.Answers.{counts_not_refused}
use Rattle.refusal.proofs.Deciding.{Decided, none_holds, one_decides, decided_as, decided_then, decided_found, decided_answer}
use Rattle.refusal.proofs.Order.{apart_at, no_lower_rank}
use Rattle.answer.specs.Operations.{Card, accept_cards}
use Rattle.answer.specs.Refusals.{CheckLine, RunLine, CardsLine}
use Rattle.answer.proofs.CheckTable.{sheet_parameters, check-group, inputs_decided}
use Rattle.answer.proofs.RunTable.{run_decided, run-group, cards_group, accepted_decided}
use Rattle.report.specs.Operation.{Survey, survey, accept_rows, verdicts, reporting, report_answer}
use Rattle.report.specs.Refusals.{RowsLine, line_31, ReportLine}

-- what is known of what a step found can be left out
decided_known : {A : Type 0} {Known : A → Type 0} {Line : ℕ → ℕ → Type 0} {s : Step A} → Decided Known Line s → Decided (λ (x : A). Unit {0}) Line s
decided_known (none_holds k h) = none_holds tt h
decided_known (one_decides d) = one_decides d

module _ (sheet text cards : List ℕ) where
  -- ---- up to the cards

  abbrev RunLines : ℕ → ℕ → Type 0
  RunLines n p = RunLine cards n p ⊎ CardsLine sheet cards n p

  abbrev SurveyLine : ℕ → ℕ → Type 0
  SurveyLine n p = CheckLine sheet text n p ⊎ RunLines n p

  -- the sheet has the parameters of the survey
  abbrev HasSheet : Survey → Type 0
  HasSheet s = (b : SheetBlock sheet) × (b.parameters ≡ s.inputs.parameters)

  runs_above : (n p : ℕ) → RunLines n p → group 14 < group n
  unfolding group member
  runs_above n p (inl l) = omega (arith, run-group sheet cards n p l)
  runs_above n p (inr l) = omega (arith, cards_group sheet cards n p l)

  cards_above : (n p : ℕ) → CardsLine sheet cards n p → group 20 < group n
  unfolding group member
  cards_above n p l = omega (arith, cards_group sheet cards n p l)

  survey_below : (n p : ℕ) → SurveyLine n p → group n ≤ group 21
  unfolding group member
  survey_below n p (inl l) = omega (arith, check-group sheet text n p l)
  survey_below n p (inr (inl l)) = omega (arith, run-group sheet cards n p l)
  survey_below n p (inr (inr l)) = omega (arith, cards_group sheet cards n p l)

  survey_decided : Bytes sheet → Bytes cards → Decided HasSheet SurveyLine (survey sheet text cards)
  unfolding survey
  survey_decided sheet-bytes bytes =
      decided_then (CheckLine sheet text) RunLines (apart_at (CheckLine sheet text) RunLines (group 14) (check-group sheet text) runs_above) (inputs_decided sheet text sheet-bytes)
      (λ p _ ready.
      decided_then (RunLine cards) (CardsLine sheet cards)
      (apart_at (RunLine cards) (CardsLine sheet cards) (group 20) (λ n q l. le_of_eq (run-group sheet cards n q l)) cards_above) (run_decided cards)
      (λ bs _ run. decided_found (λ (cs : List Card). record { inputs = p; cards = cs }) (λ cs _. (ready.0, ready.1))
      (subst (λ (ps : List Parameter). Decided (λ (cs : List Card). Unit {0}) (CardsLine sheet cards) (accept_cards ps 0 bs)) ready.1
      (decided_known (accepted_decided sheet cards bytes ready.0 bs run)))))

  -- ---- the rows

  module _ (room : ℕ) where
    -- a sheet has its parameters in one way
    same_count : (b b' : SheetBlock sheet) → length b'.parameters ≡ length b.parameters
    same_count b b' = ap length (sym (sheet_parameters sheet b') ∙ sheet_parameters sheet b)

    rows_none : (b : SheetBlock sheet) → length b.parameters ≤ room → (n p : ℕ) → RowsLine sheet room n p → ⊥
    rows_none b h n p (line_31 b' l) = omega (arith, same_count b b')

    rows_first : (b : SheetBlock sheet) (m q : ℕ) → RowsLine sheet room m q → Before m q 31 (length b.parameters) → ⊥
    rows_first b m q (line_31 b' l) = no_lower_rank refl (le_of_eq (sym (same_count b b'))) (le_refl (rank 31))

    rows_decided : (s : Survey) → HasSheet s → Decided HasSheet (RowsLine sheet room) (accept_rows room s)
    unfolding accept_rows
    rows_decided s k =
        let b = k.0 in
        let same : length b.parameters ≡ length s.inputs.parameters = ap length k.1 in
        cond-elim (Decided HasSheet (RowsLine sheet room)) (leb (length s.inputs.parameters) room)
        (λ h. none_holds k (rows_none b (omega (arith, leb-true (length s.inputs.parameters) room h))))
        (λ h. rw (← same) (one_decides (record { holds = line_31 b (omega (arith, leb-false (length s.inputs.parameters) room h)); first = rows_first b })))

    rows_above : (n p : ℕ) → RowsLine sheet room n p → group 21 < group n
    unfolding group member
    rows_above n p (line_31 b l) = omega arith

    lines_as : (n p : ℕ) → (SurveyLine n p ⊎ RowsLine sheet room n p) ↔ ReportLine sheet text cards room n p
    lines_as n p = (
      ⊎_elim (⊎_elim inl (⊎_elim (λ l. inr (inl l)) (λ l. inr (inr (inl l))))) (λ l. inr (inr (inr l))),
      ⊎_elim (λ l. inl (inl l)) (⊎_elim (λ l. inl (inr (inl l))) (⊎_elim (λ l. inl (inr (inr l))) inr)),
    )

    -- a report is refused with a number and a place exactly where that line of the table decides
    pub report_table : Bytes sheet → Bytes cards → (n p : ℕ) → (report_answer sheet text cards room ≡ refused n p) ↔ Decides (ReportLine sheet text cards room) n p
    unfolding report_answer reporting
    report_table sheet-bytes bytes =
        decided_answer (ReportLine sheet text cards room)
        (decided_found verdicts (λ s _. counts_not_refused _ _)
        (decided_as lines_as
        (decided_then SurveyLine (RowsLine sheet room) (apart_at SurveyLine (RowsLine sheet room) (group 21) survey_below rows_above)
        (survey_decided sheet-bytes bytes) (λ s _ k. rows_decided s k))))
