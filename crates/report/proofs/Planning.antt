-- The plan, by what select answers: a refusal is select's own, or 31; else it has a row for each parameter, and the steps of each pass.
-- No induction: the plan is made from select's answer, and what a count says of sheet and run is known from the survey (`survey-counted`).
-- From it come the plan's numbers: the parameters, the cards, and that yes and no make up the cards (`counted-whole`). A plan that refuses
-- takes no step, so that the rows stay (`refused_plan`); any other takes the steps of file Passes, which leave the tallies of the run
-- (`plan_counts`).
-- Assumes nothing.
use Rattle.std.specs.Prelude.{Err, Ok, Result}
use Prim.Native.Nat.{ℕ, ◌+◌, ◌*◌, ◌-◌, ◌/◌, ◌≤◌, ◌<◌, ◌^◌}
use native.Mathlib.Nat.{mul-le-mul}
use native.Mathlib.Numerals.{add-one}
use native.Mathlib.Omega.{arith}
use mathlib.Core.Path.{◌≡◌, refl, ap, ap₂, sym, ◌∙◌, subst}
use mathlib.Core.Bool.{not}
use mathlib.Core.List.{List, map, map-map}
use lib.ListN.{length, length-map}
use borrow.Author.Tests.{le-leb, lt-leb}
use Rattle.base.specs.Lists.{All}
use Rattle.base.proofs.All.{bytes_of}
use Rattle.block.proofs.Items.{items-length}
use Rattle.sheet.specs.Sheet.{parameter, parameter_count, parameters_of, read_sheet}
use Rattle.sheet.proofs.Read.{sheet_count}
use Rattle.card.specs.Card.{entries_of, read_card}
use Rattle.refusal.specs.Answers.{counts, number_of, refusal_answer, counted_answer}
use Rattle.refusal.specs.Steps.{found, stop}
use Rattle.refusal.specs.declared.Reason.{Reason}
use Rattle.refusal.specs.declared.Refusal.{Refusal}
use Rattle.answer.specs.Operations.{Card, blocks, select_answer}
use Rattle.sirophan.specs.Operations.{RefusedBy, SelectsInto}
use Rattle.answer.proofs.Outcomes.{card_of}
use Rattle.answer.proofs.Runs.{run-size, run-blocks}
use Rattle.answer.proofs.Slices.{Sliced}
use Rattle.sirophan.proofs.Contracts.{refused_by}
use Rattle.report.specs.Operation.{reported_answer, Survey, accept_rows, says, saying, reporting, report_answer, entries_in, report_rows}
use Rattle.report.specs.Refusals.{ReportLine}
use Rattle.report.specs.Operations.{Plans}
use Rattle.report.specs.declared.plan.Plan.{Plan}
use Rattle.report.proofs.Steps.{stepped_none}
use Rattle.report.proofs.Passes.{stepped_cards, steps_ready}
use Rattle.report.proofs.Surveys.{saying-whole, survey_refused, Counted, survey-counted, found_sheet, found_parameters, found_cards}
use Rattle.report.proofs.Table.{report_table}

-- ---- what a survey finds, in numbers

module _ (sheet text cards : List ℕ) {y : ℕ} (c : Counted sheet text cards y) where
  abbrev s : Survey
  s = c.survey_of

  abbrev bs : List (List ℕ)
  bs = c.found_as.blocks

  pub counted_sheet : read_sheet sheet ≡ (Ok tt)
  counted_sheet = found_sheet sheet text cards s c.found_as

  counted_rows : length s.inputs.parameters ≡ parameter_count sheet
  unfolding parameters_of
  counted_rows = ap length (found_parameters sheet text cards s c.found_as) ∙ items-length parameter (parameter_count sheet) sheet 2

  counted_few : parameter_count sheet ≤ 32
  counted_few = omega (arith, counted_rows, ap length (found_parameters sheet text cards s c.found_as), sheet_count sheet counted_sheet)

  counted_total : length cards / 512 ≡ length bs
  counted_total = omega (arith, run-size c.found_as.run)

  counted_cards : length s.cards ≡ length bs
  counted_cards = ap length c.found_as.same ∙ length-map bs card_of

  counted-whole : y + saying (λ d. not (says s.inputs d)) s.cards ≡ length cards / 512
  counted-whole = omega (arith, c.yes, saying-whole (says s.inputs) s.cards, counted_cards, counted_total)

  counted_entries : entries_in s ≡ map entries_of (blocks (length cards / 512) cards)
  counted_entries =
      ap (map (λ (d : Card). d.entries)) c.found_as.same ∙ map-map (λ (d : Card). d.entries) card_of bs
      ∙ ap (map entries_of) (sym (ap (λ (k : ℕ). blocks k cards) counted_total ∙ run-blocks c.found_as.run))

-- ---- the plan

module _ (sheet text cards list : List ℕ) (sel : Result ℕ Refusal) (exit : List ℕ) (h : SelectsInto sheet text cards list sel exit) (long : length list ≡ 128) where
  selected : counted_answer sel ≡ select_answer sheet text cards 128
  selected = subst (λ (k : ℕ). counted_answer sel ≡ select_answer sheet text cards k) long h.answers

  counted : (y : ℕ) → sel ≡ Ok y → Counted sheet text cards y
  unfolding counted_answer
  counted y e = survey-counted sheet text cards y (sym selected ∙ ap counted_answer e)

  pub plan_sheet : (y : ℕ) → sel ≡ Ok y → read_sheet sheet ≡ (Ok tt)
  plan_sheet y e = counted_sheet sheet text cards (counted y e)

  pub plan_within : (y : ℕ) → sel ≡ Ok y → y ≤ length cards / 512
  plan_within y e = omega (arith, counted-whole sheet text cards (counted y e))

  pub plan_fits : (y n : ℕ) → sel ≡ Ok y → n ≡ parameter_count sheet → n * (length cards / 512 + 1) < 2 ^ 64
  plan_fits y n e k =
      let c = counted y e in
      let few : length cards / 512 + 1 ≤ 129 = omega (arith, counted_total sheet text cards c, c.found_as.run.few) in
      let small : n ≤ 32 = omega (arith, counted_few sheet text cards c) in
      let most : n * (length cards / 512 + 1) ≤ 32 * 129 = mul-le-mul small few in
      omega arith

  module _ (sheet-bytes : Sliced sheet) (bytes : Sliced cards) (room : ℕ) (p : Plan) where
    -- with its answer the plan is refused as the table says
    refuses_by : reported_answer p.answer ≡ report_answer sheet text cards room → RefusedBy (ReportLine sheet text cards room) (reported_answer p.answer)
    refuses_by e =
        refused_by (ReportLine sheet text cards room) (reported_answer p.answer) (report_answer sheet text cards room) e
        (report_table sheet text cards room (bytes_of sheet sheet-bytes) (bytes_of cards bytes))

    -- a refusal takes no step
    refused_plan : (r : Refusal) → p ≡ record { rows = 0; steps = 0; answer = Err r } → ((k : ℕ) → k ≡ room → reporting sheet text cards k ≡ stop (number_of r.reason) r.place)
        → Plans sheet text cards room p
    unfolding reported_answer refusal_answer report_answer report_rows
    refused_plan r e stops =
        let told : reported_answer p.answer ≡ report_answer sheet text cards room = rw (e, stops room refl) in
        record {
          answers = told;
          refuses = refuses_by told;
          ready = λ rows l k z. absurd (omega (arith, ap (λ (q : Plan). q.steps) e));
          writes = λ rows l. rw (e, stops (length rows) l) (stepped_none cards 0 rows);
        }

    pub plan_refused : (r : Refusal) → sel ≡ Err r → p ≡ record { rows = 0; steps = 0; answer = Err r } → Plans sheet text cards room p
    unfolding counted_answer refusal_answer reporting
    plan_refused r e q =
        refused_plan r q (λ k l. rw (survey_refused sheet text cards (number_of r.reason) r.place (sym selected ∙ ap counted_answer e)))

    module _ (y n : ℕ) (e : sel ≡ Ok y) (k : n ≡ parameter_count sheet) where
      rows_are : length (counted y e).survey_of.inputs.parameters ≡ n
      rows_are = counted_rows sheet text cards (counted y e) ∙ sym k

      pub plan_short : room < n → (r : Refusal) → r.reason ≡ Reason.ShortRows → r.place ≡ n → p ≡ record { rows = 0; steps = 0; answer = Err r } → Plans sheet text cards room p
      unfolding reporting accept_rows
      plan_short l r why where-at q = refused_plan r q (λ m z. rw ((counted y e).finds, rows_are, z, lt-leb n room l, why, where-at))

      found_so : n ≤ room → (m : ℕ) → m ≡ room → reporting sheet text cards m ≡ found (counted y e).survey_of
      unfolding reporting accept_rows
      found_so l m z = rw ((counted y e).finds, rows_are, z, le-leb n room l)

      pub plan_counts : n ≤ room → p ≡ record { rows = n; steps = n * (length cards / 512 + 1); answer = Ok (record { yes = y; no = length cards / 512 - y }) } → Plans sheet text cards room p
      unfolding reported_answer report_answer report_rows
      plan_counts l q =
          let c = counted y e in
          let others : length cards / 512 - y ≡ saying (λ d. not (says c.survey_of.inputs d)) c.survey_of.cards = omega (arith, counted-whole sheet text cards c) in
          let told : reported_answer p.answer ≡ report_answer sheet text cards room = rw (q, found_so l room refl) (ap₂ counts (sym c.yes) others) in
          let total : length cards ≡ 512 * (length cards / 512) = omega (arith, run-size c.found_as.run) in
          let few : length cards / 512 ≤ 128 = omega (arith, counted_total sheet text cards c, c.found_as.run.few) in
          let right : All (λ (b : List ℕ). read_card b ≡ (Ok tt)) (blocks (length cards / 512) cards) =
          subst (All (λ (b : List ℕ). read_card b ≡ (Ok tt))) (sym (ap (λ (m : ℕ). blocks m cards) (counted_total sheet text cards c) ∙ run-blocks c.found_as.run))
          (found_cards sheet text cards c.survey_of c.found_as)
          in
          record {
            answers = told;
            refuses = refuses_by told;
            ready = λ rows z j b. rw q (steps_ready cards n rows (omega arith) (length cards / 512) total few right j (subst (λ (m : ℕ). j < m) (ap (λ (d : Plan). d.steps) q ∙ rw (add-one (length cards / 512))) b));
            writes = λ rows z.
                rw (q, found_so l (length rows) z, rows_are, counted_entries sheet text cards c, add-one (length cards / 512))
                (stepped_cards cards n rows (omega arith) (length cards / 512));
          }
