-- The tables of refusals for search strings: sheet, text and alternatives are decided one after the other, and the alternatives by the
-- first at fault.
-- As in CheckTable, but for the alternatives: those of a pair share one place, so that places do not order them. So a line counts only
-- where it is one of the first alternative that has any (`FirstLine`). `alternatives_decided` is by induction on the list, with
-- `next_decided` for one more: a line is one of the first, or of the rest where the first has none (`first_cases`). The tables of match and
-- select are instances of those over any question. A search string is refused with none of the numbers of cards and lists
-- (`search_number`).
-- Assumes nothing.
use Rattle.std.specs.Prelude.{Option, None, Some}
use Prim.Native.Nat.{ℕ, ◌≤◌, ◌<◌}
use native.Mathlib.Nat.{le_of_eq}
use native.Mathlib.Omega.{arith}
use mathlib.Core.Path.{◌≡◌, refl, ap, sym, ◌∙◌, subst}
use mathlib.Core.Logic.{◌↔◌, ◌⊎◌, inl, inr, ⊎_elim}
use mathlib.Core.List.{List, [], ◌∷◌, ◌++◌, cons≢nil}
use lib.Dec.{eqb}
use lib.ListN.{length}
use Rattle.base.specs.Bytes.{Bytes}
use Rattle.base.specs.Lists.{All, all_empty, all_cons, member}
use Rattle.base.specs.Kinds.{token, bundle_kind}
use Rattle.base.proofs.Tests.{cond-elim}
use Rattle.token.specs.Filter.{readable_at}
use Rattle.sheet.specs.Sheet.{Parameter, parameters_of, read_sheet}
use Rattle.sheet.specs.Encode.{SheetBlock, WellFormedSheet}
use Rattle.sheet.specs.declared.Found.{Found}
use Rattle.syntax.specs.Tree.{name}
use Rattle.query.specs.Spelling.{Alternative, Query, alternatives_of, SpellsQuery}
use Rattle.query.specs.Reader.{accept_query}
use Rattle.judge.specs.Sets.{lookup}
use Rattle.search.specs.Asking.{asked_of}
use Rattle.search.specs.Meaning.{text_fault, fault_at, alternative_fault, first_alternative_fault}
use Rattle.query.specs.Lines.{QueryLine, line_10, line_50, line_51}
use Rattle.search.specs.Rules.{AlternativeLine, line_14, line_14_bundle, line_16, line_17}
use Rattle.query.proofs.Reading.{query_unique}
use Rattle.query.proofs.Lines.{query_decided}
use Rattle.refusal.specs.Answers.{count, refused}
use Rattle.refusal.specs.Order.{group, Decides}
use Rattle.refusal.specs.Steps.{Step, found, stop, ◌>>=◌}
use Rattle.refusal.proofs.Steps.{stop_not_found}
use Rattle.refusal.proofs.Answers.{count_not_refused}
use Rattle.refusal.proofs.Deciding.{Decided, none_holds, one_decides, decided_as, decided_then, decided_found, decided_answer}
use Rattle.refusal.proofs.Order.{apart_at, no_lower_rank}
use Rattle.answer.specs.Operations.{accept_sheet, decision_step}
use Rattle.answer.specs.Refusals.{SheetLine}
use Rattle.answer.specs.Searching.{alternatives_step, QueryInputs, accept_query_inputs, check_search_answer, question_of_query, search_question, match_search_answer, select_search_answer, select_search_cells}
use Rattle.answer.specs.Selection.{Run, SelectAnswers}
use Rattle.answer.specs.SearchDemand.{search_tests}
use Rattle.answer.specs.SearchRefusals.{FirstLine, AlternativesLine, line_of_alternative, CheckSearchLine, MatchSearchLine, SelectSearchLine}
use Rattle.answer.proofs.Outcomes.{TestOutcome, test_means, test_refused, OtherNumber, AtMost, found_at_most, stop_at_most}
use Rattle.answer.proofs.Answered.{select-answered_by}
use Rattle.answer.proofs.CheckTable.{sheet_parameters, sheet_decided, sheet_group}
use Rattle.answer.proofs.MatchTable.{AskedOn, match_table_by}
use Rattle.answer.proofs.SelectTable.{select_table_by}
use Rattle.answer.proofs.Inputs.{at_most_then, at_most_number, sheet_at_most, kind_at_most}
use Rattle.answer.proofs.SearchFaults.{alternative-outcome, alternatives_next}

-- ---- the numbers of these refusals

-- a step that is refused with a number of which P holds, and then another
stops : {A B : Type 0} (P : ℕ → Type 0) (s : Step A) (next : A → Step B) → ((n p : ℕ) → s ≡ stop n p → P n) → ((a : A) (n p : ℕ) → next a ≡ stop n p → P n)
    → (n p : ℕ) → (s >>= next) ≡ stop n p → P n
stops P (found a) next f g n p e = g a n p e
stops P (stop m q) next f g n p e = let same : m ≡ n = cc in subst P same (f m q refl)

query_other : (text : List ℕ) (n p : ℕ) → accept_query text ≡ stop n p → OtherNumber n
query_other text n p e = by_decided (accept_query text) (query_decided text) e
  where
    by_line : {m q : ℕ} → QueryLine text m q → OtherNumber m
    by_line (line_10 u) low high = omega arith
    by_line (line_50 r u) low high = omega arith
    by_line (line_51 r u) low high = omega arith

    by_decided : (s : Step Query) → Decided (SpellsQuery text) (QueryLine text) s → s ≡ stop n p → OtherNumber n
    by_decided (found q) (none_holds k h) e = absurd (let z : ◌≡◌ {A = ℕ} 0 1 = cc in omega arith)
    by_decided (stop m q) (one_decides d) e = let same : m ≡ n = cc in subst OtherNumber same (by_line d.holds)

text_at_most : (kind split : ℕ) (text : List ℕ) (p : ℕ) → AtMost 18 (decision_step (text_fault kind split text p))
unfolding text_fault
text_at_most kind split text p =
    cond-elim (λ f. AtMost 18 (decision_step f)) (eqb kind token)
    (λ _. cond-elim (λ f. AtMost 18 (decision_step f)) (readable_at split text) (λ _. found_at_most) (λ _. stop_at_most 17 p (omega arith)))
    (λ _. kind_at_most (asked_of kind text).operator kind (asked_of kind text).value p)

fault_at_most : (o : Option Found) (split : ℕ) (text : List ℕ) (p : ℕ) → AtMost 18 (decision_step (fault_at o split text p))
fault_at_most None split text p = stop_at_most 14 p (omega arith)
fault_at_most (Some named) split text p =
    cond-elim (λ f. AtMost 18 (decision_step f)) (eqb named.kind bundle_kind) (λ _. stop_at_most 14 p (omega arith)) (λ _. text_at_most named.kind split text p)

alternatives-at_most : (ps : List Parameter) (list : List Alternative) → AtMost 18 (alternatives_step ps list)
unfolding alternative_fault
alternatives-at_most ps [] = unfold alternatives_step first_alternative_fault in found_at_most
alternatives-at_most ps (a ∷ list) =
    rw (alternatives_next ps a list) (at_most_then (fault_at_most (lookup ps 0 (name a.name)) a.split a.text a.at) (λ u. alternatives-at_most ps list))

-- a search string is refused with none of the numbers that cards and lists are refused with
pub search_number : (sheet text : List ℕ) (n p : ℕ) → search_question sheet text ≡ stop n p → OtherNumber n
unfolding search_question accept_query_inputs accept_sheet
search_number sheet text =
    stops OtherNumber (accept_query_inputs sheet text) (λ p. found (question_of_query p))
    (stops OtherNumber (accept_sheet sheet) (λ ps. accept_query text >>= λ q. alternatives_step ps (alternatives_of q) >>= λ u. found (record { parameters = ps; query = q }))
    (λ n p e low high. omega (arith, at_most_number (sheet_at_most (read_sheet sheet) (parameters_of sheet)) n p e))
    (λ ps. stops OtherNumber (accept_query text) (λ q. alternatives_step ps (alternatives_of q) >>= λ u. found (record { parameters = ps; query = q })) (query_other text)
    (λ q. stops OtherNumber (alternatives_step ps (alternatives_of q)) (λ u. found (record { parameters = ps; query = q }))
    (λ n p e low high. omega (arith, at_most_number (alternatives-at_most ps (alternatives_of q)) n p e))
    (λ u n p e. stop_not_found (sym e)))))
    (λ p n q e. stop_not_found (sym e))

-- ---- alternatives

line_group : {ps : List Parameter} {a : Alternative} {n : ℕ} → AlternativeLine ps a n → group n ≡ group 14
unfolding group member
line_group (line_14 u) = refl
line_group (line_14_bundle j) = refl
line_group (line_16 j u o) = refl
line_group (line_17 j r) = refl

module _ (ps : List Parameter) where
  abbrev NoLine : Alternative → Type 0
  NoLine b = (m : ℕ) → AlternativeLine ps b m → ⊥

  first-later : (a : Alternative) (list : List Alternative) → NoLine a → {n p : ℕ} → FirstLine ps list n p → FirstLine ps (a ∷ list) n p
  first-later a list none l =
      record {
        before = a ∷ l.before;
        one = l.one;
        after = l.after;
        split = ap (λ (x : List Alternative). a ∷ x) l.split;
        earlier = all_cons none l.earlier;
        line = l.line;
        place = l.place;
      }

  -- a line of the first, or of one of the rest where the first has none
  first_cases : (a : Alternative) (list : List Alternative) {n p : ℕ} → FirstLine ps (a ∷ list) n p → (AlternativeLine ps a n × (p ≡ a.at)) ⊎ (NoLine a × FirstLine ps list n p)
  first_cases a list {n} {p} l = by_before l.before l.split l.earlier
    where
      by_before : (before : List Alternative) → a ∷ list ≡ before ++ (l.one ∷ l.after) → All NoLine before → (AlternativeLine ps a n × (p ≡ a.at)) ⊎ (NoLine a × FirstLine ps list n p)
      by_before [] e h =
          let same : l.one ≡ a = cc in
          inl (subst (λ (b : Alternative). AlternativeLine ps b n) same l.line, l.place ∙ ap (λ (b : Alternative). b.at) same)
      by_before (b ∷ before) e (all_cons none h) =
          let same : b ≡ a = cc in
          let rest : list ≡ before ++ (l.one ∷ l.after) = cc in
          inr (subst NoLine same none, record { before = before; one = l.one; after = l.after; split = rest; earlier = h; line = l.line; place = l.place })

  no_first : {n p : ℕ} → FirstLine ps [] n p → ⊥
  no_first l = by_before l.before l.split
    where
      by_before : (before : List Alternative) → [] ≡ before ++ (l.one ∷ l.after) → ⊥
      by_before [] e = cons≢nil (sym e)
      by_before (b ∷ before) e = cons≢nil (sym e)

  next_decided : (a : Alternative) (list : List Alternative) {first rest : Step (Unit {0})} → TestOutcome (search_tests ps) a first
      → Decided (λ u. Unit {0}) (FirstLine ps list) rest → Decided (λ u. Unit {0}) (FirstLine ps (a ∷ list)) (first >>= λ u. rest)
  next_decided a list (test_means m none) d =
      decided_as (λ n p. (first-later a list none, (λ l. ⊎_elim (λ x. absurd (none n x.0)) (λ x. x.1) (first_cases a list l)))) d
  next_decided a list (test_refused {n = n} r) d =
      one_decides
      (record {
        holds = record { before = []; one = a; after = list; split = refl; earlier = all_empty; line = r.table.line; place = refl };
        first = λ m q l. ⊎_elim
            (λ x. no_lower_rank (line_group x.0 ∙ sym (line_group r.table.line)) (le_of_eq (sym x.1)) (r.table.lowest m x.0))
            (λ x. absurd (x.0 n r.table.line))
            (first_cases a list l);
      })

  alternatives_decided : WellFormedSheet ps → (list : List Alternative) → Decided (λ u. Unit {0}) (FirstLine ps list) (alternatives_step ps list)
  alternatives_decided w [] = unfold alternatives_step first_alternative_fault in none_holds tt (λ n p l. no_first l)
  alternatives_decided w (a ∷ list) = rw (alternatives_next ps a list) (next_decided a list (alternative-outcome ps w a) (alternatives_decided w list))

-- ---- check

module _ (sheet text : List ℕ) where
  -- what is accepted: the sheet's parameters and the string's query
  abbrev Ready : QueryInputs → Type 0
  Ready r = (s : SheetBlock sheet) × (s.parameters ≡ r.parameters) × SpellsQuery text r.query

  abbrev ready : SheetBlock sheet → Query → QueryInputs
  ready s q = record { parameters = s.parameters; query = q }

  module _ (s : SheetBlock sheet) (q : Query) (spells : SpellsQuery text q) where
    first_back : {n p : ℕ} → AlternativesLine sheet text n p → FirstLine s.parameters (alternatives_of q) n p
    first_back (line_of_alternative s' {q = q'} {n = n} {p = p} spells' l) =
        let same : s'.parameters ≡ s.parameters = sym (sheet_parameters sheet s') ∙ sheet_parameters sheet s in
        subst (λ (x : Query). FirstLine s.parameters (alternatives_of x) n p) (query_unique text q' q spells' spells)
        (subst (λ (ps : List Parameter). FirstLine ps (alternatives_of q') n p) same l)

    query_step : Decided Ready (AlternativesLine sheet text) (alternatives_step s.parameters (alternatives_of q) >>= λ u. found (ready s q))
    query_step =
        decided_found (λ u. ready s q) (λ u _. (s, refl, spells))
        (decided_as (λ n p. ((λ l. line_of_alternative s spells l), first_back)) (alternatives_decided s.parameters s.well_formed (alternatives_of q)))

  query_group : (n p : ℕ) → QueryLine text n p → (group 3 < group n) × (group n ≤ group 51)
  unfolding group member
  query_group n p (line_10 u) = (omega arith, omega arith)
  query_group n p (line_50 r u) = (omega arith, omega arith)
  query_group n p (line_51 r u) = (omega arith, omega arith)

  alternatives-group : (n p : ℕ) → AlternativesLine sheet text n p → (group 51 < group n) × (group n ≡ group 14)
  unfolding group member
  alternatives-group n p (line_of_alternative s spells l) = let g = line_group l.line in (omega arith, omega arith)

  -- those after the sheet's
  later_groups : (n p : ℕ) → QueryLine text n p ⊎ AlternativesLine sheet text n p → (group 3 < group n) × (group n ≤ group 14)
  unfolding group member
  later_groups n p (inl l) = let g = query_group n p l in (omega arith, omega arith)
  later_groups n p (inr l) = let g = alternatives-group n p l in (omega arith, omega arith)

  search_group : (n p : ℕ) → CheckSearchLine sheet text n p → group n ≤ group 14
  unfolding group member
  search_group n p (inl l) = let g = sheet_group n p l in omega arith
  search_group n p (inr l) = (later_groups n p l).1

  -- what follows the sheet
  text_step : (s : SheetBlock sheet)
      → Decided Ready (λ n p. QueryLine text n p ⊎ AlternativesLine sheet text n p) (accept_query text >>= λ q. alternatives_step s.parameters (alternatives_of q) >>= λ u. found (ready s q))
  text_step s =
      decided_then (QueryLine text) (AlternativesLine sheet text)
      (apart_at (QueryLine text) (AlternativesLine sheet text) (group 51) (λ n p l. (query_group n p l).1) (λ n p l. (alternatives-group n p l).0))
      (query_decided text) (λ q _ spells. query_step s q spells)

  query_inputs : Bytes sheet → Decided Ready (CheckSearchLine sheet text) (accept_query_inputs sheet text)
  unfolding accept_query_inputs
  query_inputs bytes =
      decided_then (SheetLine sheet) (λ n p. QueryLine text n p ⊎ AlternativesLine sheet text n p)
      (apart_at (SheetLine sheet) (λ n p. QueryLine text n p ⊎ AlternativesLine sheet text n p) (group 3) sheet_group (λ n p l. (later_groups n p l).0))
      (sheet_decided sheet bytes) (λ ps _ of-sheet. rw (← of-sheet.1) (text_step of-sheet.0))

  -- check is refused with a number and a place exactly where that line of the table decides
  pub check_search_table : Bytes sheet → (n p : ℕ) → (check_search_answer sheet text ≡ refused n p) ↔ Decides (CheckSearchLine sheet text) n p
  unfolding check_search_answer
  check_search_table bytes =
      decided_answer (CheckSearchLine sheet text)
      (decided_found (λ r. count (length (alternatives_of r.query))) (λ r _. count_not_refused (length (alternatives_of r.query))) (query_inputs bytes))

  -- ---- match and select

  question_decided : Bytes sheet → Decided (AskedOn sheet) (CheckSearchLine sheet text) (search_question sheet text)
  unfolding search_question
  question_decided bytes = decided_found question_of_query (λ r ready. (ready.0, ready.1)) (query_inputs bytes)

  pub match_search_table : (card : List ℕ) → Bytes sheet → Bytes card → (n p : ℕ) → (match_search_answer sheet text card ≡ refused n p) ↔ Decides (MatchSearchLine sheet text card) n p
  match_search_table card bytes = match_table_by sheet card (CheckSearchLine sheet text) search_group (question_decided bytes)

  pub select_search_table : (cards : List ℕ) (room : ℕ) → Bytes sheet → Bytes cards → (n p : ℕ)
      → (select_search_answer sheet text cards room ≡ refused n p) ↔ Decides (SelectSearchLine sheet text cards room) n p
  select_search_table cards room bytes = select_table_by sheet (search_question sheet text) cards room (CheckSearchLine sheet text) search_group (question_decided bytes)

  pub select_search_answered : (cards list : List ℕ) → Bytes sheet → Bytes cards → (bs : List (List ℕ)) → Run cards bs
      → ((n p : ℕ) → SelectSearchLine sheet text cards (length list) n p → ⊥)
      → SelectAnswers (match_search_answer sheet text) (select_search_answer sheet text cards (length list)) (select_search_cells sheet text cards list) list bs
  select_search_answered cards list sheet-bytes bytes bs run none =
      select-answered_by (search_question sheet text) (search_number sheet text) cards list bs run
      (λ n p e. none n p ((select_search_table cards (length list) sheet-bytes bytes n p).0 e).holds)
