-- Check and match by a search string, as the code comes to their answers: the rows ask what the string asks.
-- A law for each way through the code: the sheet is refused, the text is refused, or it is accepted. Where it is accepted the rows keep the
-- query, so that checking and judging by the rows is checking and judging by the query (`rows_answer_lem`, `same-says`). Where a count is
-- answered no step has stopped (`passed_tests`), so the string's question is that of the rows (`asks`), and match follows as it does for a
-- filter (`search_answered`). Where check refuses, the question stops with the same refusal (`question_stopped`). Select uses `asks` and
-- `question_stopped` in crate selecting.
-- Assumes nothing.
use Rattle.std.specs.Prelude.{Err, Ok, Result, ⊤}
use Prim.Native.Nat.{ℕ}
use native.Mathlib.Omega.{arith}
use mathlib.Core.Path.{◌≡◌, refl, ap, sym, ◌∙◌, fun_ext, subst}
use mathlib.Core.Bool.{Bool}
use mathlib.Core.List.{List}
use lib.ListN.{length}
use Rattle.sheet.specs.Sheet.{Parameter, parameters_of, read_sheet}
use Rattle.card.specs.Card.{Entry}
use Rattle.query.specs.Spelling.{Query, alternatives_of}
use Rattle.search.specs.Meaning.{first_alternative_fault, alternative_says, query_says}
use Rattle.query.specs.Rows.{RowsWithin, alternatives_in, rows_say, AcceptsQuery, RowsOf}
use Rattle.query.specs.declared.Rows.{Rows}
use Rattle.query.proofs.Accepted.{accepted_rows, accepted_refused}
use Rattle.refusal.specs.Answers.{Answer, count, refused, number_of, refusal_answer, counted_answer, matched_answer}
use Rattle.refusal.specs.Steps.{Step, found, stop, refusal_step, ◌>>=◌, answer}
use Rattle.refusal.specs.declared.Refusal.{Refusal}
use Rattle.answer.specs.Operations.{decision_step, sheet_step, accept_sheet}
use Rattle.answer.specs.Passing.{summary_answer, card_verdict}
use Rattle.answer.specs.Searching.{alternatives_step, QueryInputs, accept_query_inputs, check_search_answer, question_of_query, search_question, match_search_answer}
use Rattle.searching.specs.SearchPassing.{rows_answer, rows_question, PassingRows, rows_passed, counted_rows, PassesRows, ReadsRows}
use Rattle.answer.proofs.Passing.{match_stopped}
use Rattle.one_card.proofs.Judging.{match_answered}
use Rattle.one_card.specs.OneCard.{verdict_step, verdict_answer}
use Rattle.refusal.specs.declared.Reason.{Reason}

-- ---- a string that is refused: no count, so that nothing is asked of the rows

no_tests : (c : Result ℕ Refusal) (n k p : ℕ) → counted_answer c ≡ refused k p → c ≡ Ok n → ⊥
unfolding counted_answer
no_tests c n k p e h = let z : count n ≡ refused k p = ap counted_answer (sym h) ∙ e in let y : ◌≡◌ {A = ℕ} 0 1 = cc in omega arith

module _ (sheet text bytes : List ℕ) where
  refuses : (x : Refusal) → accept_query_inputs sheet text ≡ stop (number_of x.reason) x.place → ReadsRows sheet text bytes (Err x)
  unfolding counted_answer refusal_answer
  refuses x e = record { answers = sym (unfold check_search_answer in rw e); passes = λ rows t. absurd (let z : ◌≡◌ {A = ℕ} 0 1 = cc in omega arith) }

  -- the sheet is refused
  pub sheet_refuses : (x : Refusal) → accept_sheet sheet ≡ refusal_step x → ReadsRows sheet text bytes (Err x)
  sheet_refuses x e = refuses x (unfold accept_query_inputs in rw e)

-- the string is refused, as the definition refuses it
pub text_refuses : (sheet text bytes : List ℕ) → read_sheet sheet ≡ (Ok tt) → (r : Result Rows Refusal) (x : Refusal) → AcceptsQuery text bytes r → r ≡ Err x → ReadsRows sheet text bytes (Err x)
unfolding accept_query_inputs accept_sheet
text_refuses sheet text bytes w r x t o = refuses sheet text bytes x (rw (w, accepted_refused x t o))

-- ---- a string that is accepted

pub accepted_within : (text bytes : List ℕ) (r : Result Rows Refusal) (rows : Rows) → AcceptsQuery text bytes r → r ≡ Ok rows → RowsWithin (length bytes) rows
accepted_within text bytes r rows t o = (accepted_rows rows t o).1.within

module _ (sheet text bytes : List ℕ) (w : read_sheet sheet ≡ (Ok tt)) (rows : Rows) (q : Query) (of : RowsOf text bytes rows q) where
  abbrev ps : List Parameter
  ps = parameters_of sheet

  abbrev inputs_as : QueryInputs
  inputs_as = record { parameters = ps; query = q }

  abbrev ready_by : Step (Unit {0}) → Step QueryInputs
  ready_by t = t >>= λ u. found inputs_as

  abbrev counted : QueryInputs → Step Answer
  counted p = found (count (length (alternatives_of p.query)))

  ready : accept_query_inputs sheet text ≡ ready_by (alternatives_step ps (alternatives_of q))
  unfolding accept_query_inputs accept_sheet
  ready = rw (w, of.accepted)

  rows_answer_lem : check_search_answer sheet text ≡ rows_answer ps bytes rows
  unfolding check_search_answer rows_answer summary_answer alternatives_step
  rows_answer_lem = rw (ready, of.alternatives, of.count) (by (decision_step (first_alternative_fault ps (alternatives_of q))))
    where
      by : (t : Step (Unit {0})) → answer (ready_by t >>= counted) ≡ answer (t >>= λ u. found (count (length (alternatives_of q))))
      by (found u) = refl
      by (stop n p) = refl

  -- what the rows say is what the query says
  same-says : ◌≡◌ {A = List Entry → Bool} (λ es. query_says ps es q) (λ es. rows_say (alternative_says ps es) bytes rows)
  unfolding query_says
  same-says = fun_ext (λ es. sym (of.says (alternative_says ps es)))

  passed_tests : (t : Step (Unit {0})) (c : Result ℕ Refusal) (n : ℕ) → counted_answer c ≡ answer (ready_by t >>= counted) → c ≡ Ok n → ready_by t ≡ found inputs_as
  passed_tests (found u) c n e h = refl
  passed_tests (stop k p) c n e h = absurd (no_tests c n k p e h)

  check_by : check_search_answer sheet text ≡ answer (ready_by (alternatives_step ps (alternatives_of q)) >>= counted)
  unfolding check_search_answer
  check_by = rw ready

  question_by : accept_query_inputs sheet text ≡ found inputs_as → search_question sheet text ≡ found (question_of_query inputs_as)
  unfolding search_question
  question_by e = rw e

  accepted_passes : (c : Result ℕ Refusal) → counted_answer c ≡ check_search_answer sheet text → (n : ℕ) → c ≡ Ok n → PassingRows sheet text bytes rows
  accepted_passes c e n h =
      let inputs_accepted : accept_query_inputs sheet text ≡ found inputs_as =
      ready ∙ passed_tests (alternatives_step ps (alternatives_of q)) c n (e ∙ check_by) h
      in
      record {
        sheet_well_formed = w;
        within = of.within;
        asked = question_by inputs_accepted ∙ ap (λ (f : List Entry → Bool). found (record { parameters = ps; says = f })) same-says;
      }

-- the answer of check, as the rows are passed
passed_answer : (f : Result ⊤ Refusal) (rows : Rows) → counted_answer (counted_rows (rows_passed f rows)) ≡ summary_answer (record { tests = rows.count; first = f })
unfolding counted_answer summary_answer refusal_answer
passed_answer (Ok tt) rows = refl
passed_answer (Err r) rows = refl

passed_same : (f : Result ⊤ Refusal) (rows kept : Rows) → rows_passed f rows ≡ Ok kept → rows ≡ kept
passed_same (Ok tt) rows kept e = cc
passed_same (Err r) rows kept e = absurd (let z : ◌≡◌ {A = ℕ} 0 1 = cc in omega arith)

pub rows_read : (sheet text bytes k : List ℕ) → k ≡ sheet → read_sheet sheet ≡ (Ok tt) → (r : Result Rows Refusal) (rows : Rows) → AcceptsQuery text bytes r → r ≡ Ok rows
    → (s : Result Rows Refusal) → PassesRows (parameters_of k) bytes rows s → ReadsRows sheet text bytes s
unfolding rows_answer
rows_read sheet text bytes k same w r rows t o s passed =
    let (q, of) = accepted_rows rows t o in
    let f : Result ⊤ Refusal = first_alternative_fault (parameters_of sheet) (alternatives_in bytes rows) in
    let e : s ≡ rows_passed f rows = passed ∙ ap (λ (b : List ℕ). rows_passed (first_alternative_fault (parameters_of b) (alternatives_in bytes rows)) rows) same in
    let answered : counted_answer (counted_rows s) ≡ check_search_answer sheet text =
    ap (λ (x : Result Rows Refusal). counted_answer (counted_rows x)) e ∙ passed_answer f rows ∙ sym (rows_answer_lem sheet text bytes w rows q of) in
    record {
      answers = answered;
      passes = λ kept h.
          subst (PassingRows sheet text bytes) (passed_same f rows kept (sym e ∙ h))
          (accepted_passes sheet text bytes w rows q of (counted_rows s) answered kept.count (ap counted_rows h));
    }

-- ---- match

module _ (sheet text bytes : List ℕ) (r : Result Rows Refusal) (read : ReadsRows sheet text bytes r) where
  pub question_stopped : (f : Refusal) → r ≡ Err f → search_question sheet text ≡ stop (number_of f.reason) f.place
  question_stopped f h = (unfold search_question in rw (stopped (accept_query_inputs sheet text) refl))
    where
      stopped : (s : Step QueryInputs) → accept_query_inputs sheet text ≡ s → s ≡ stop (number_of f.reason) f.place
      stopped (found p) e = absurd (let a : counted_answer (Err f) ≡ count (length (alternatives_of p.query)) = sym (ap (λ (x : Result Rows Refusal). counted_answer (counted_rows x)) h) ∙ read.answers ∙ (unfold check_search_answer in rw e) in never a)
        where
          never : {n : ℕ} → counted_answer (Err f) ≡ count n → ⊥
          never a = unfold counted_answer refusal_answer in (let z : ◌≡◌ {A = ℕ} 0 1 = cc in omega arith)
      stopped (stop n p) e = same (sym (ap (λ (x : Result Rows Refusal). counted_answer (counted_rows x)) h) ∙ read.answers ∙ (unfold check_search_answer in rw e))
        where
          same : counted_answer (Err f) ≡ refused n p → ◌≡◌ {A = Step QueryInputs} (stop n p) (stop (number_of f.reason) f.place)
          same a = unfold counted_answer refusal_answer in cc

  pub search_refused : (card : List ℕ) (f : Refusal) → r ≡ Err f → matched_answer (Err f) ≡ match_search_answer sheet text card
  search_refused card f h = match_stopped (search_question sheet text) card f (question_stopped f h)

  pub rows_counted : (rows : Rows) → r ≡ Ok rows → counted_answer (Ok rows.count) ≡ check_search_answer sheet text
  rows_counted rows h = sym (ap (λ (x : Result Rows Refusal). counted_answer (counted_rows x)) h) ∙ read.answers

  pub rows_refused : (f : Refusal) → r ≡ Err f → counted_answer (Err f) ≡ check_search_answer sheet text
  rows_refused f h = sym (ap (λ (x : Result Rows Refusal). counted_answer (counted_rows x)) h) ∙ read.answers

  module _ (rows : Rows) (h : r ≡ Ok rows) where
    pub passed_sheet : read_sheet sheet ≡ (Ok tt)
    passed_sheet = (read.passes rows h).sheet_well_formed

    pub passed_within : RowsWithin (length bytes) rows
    passed_within = (read.passes rows h).within

    pub asks : search_question sheet text ≡ found (rows_question (parameters_of sheet) bytes rows)
    asks = (read.passes rows h).asked

    pub search_answered : (card : List ℕ) (v : Result Bool Reason) → ((i : ℕ) → verdict_step v i ≡ card_verdict (rows_question (parameters_of sheet) bytes rows) i card) → (m : Result Bool Refusal) → matched_answer m ≡ verdict_answer v
        → matched_answer m ≡ match_search_answer sheet text card
    search_answered card = match_answered (search_question sheet text) (rows_question (parameters_of sheet) bytes rows) card asks
