-- Explain, as the code comes to its answer and its cells: it is match, by prepare and judge, and then the marks.
-- The definition is a chain of steps, and the laws follow it. What match refuses stops explain with the same number and place
-- (`stops_as_match`). Else it is known what was accepted (`Judged`, by `accepted_with`): the sheet's parameters, the filter, good rows that state
-- it, and the card. The rows' expression has the verdicts of the filter's outer tests (`filter_verdicts`) and is marked as the filter is
-- (`filter_alike`). So what the code marks and then spares by the rows are the cells of the definition (`marks_are`). `mark_says`
-- says so of the list, and `mark_short` is for a list that is too short.
-- Assumes nothing.
use Rattle.std.specs.Prelude.{Err, Ok, Result}
use Prim.Native.Nat.{ℕ, ◌-◌, ◌≤◌, ◌<◌}
use native.Mathlib.Omega.{arith}
use native.Mathlib.Nat.{le_of_eq}
use mathlib.Core.Path.{◌≡◌, refl, sym, ap, ap₂, subst, ◌∙◌}
use mathlib.Core.Bool.{Bool, true, false}
use mathlib.Core.Logic.{inl, inr}
use mathlib.Core.Option.{some, some-injective}
use mathlib.Core.List.{List, ◌++◌}
use lib.ListN.{length, get_or, take, drop, replicate, length-append, length-replicate}
use borrow.Author.Tests.{le-leb, lt-leb}
use Rattle.base.specs.Bytes.{Bytes}
use Rattle.base.specs.Parts.{part}
use Rattle.base.proofs.All.{bytes_of}
use Rattle.sheet.specs.Sheet.{Parameter, parameters_of}
use Rattle.sheet.specs.Find.{kinds_of, parents_of}
use Rattle.sheet.specs.Encode.{WellFormedSheet, SheetBlock}
use Rattle.sheet.proofs.RoundTrip.{sheet_well_formed}
use Rattle.sheet.proofs.Sheets.{sheet_reads_iff}
use Rattle.card.specs.Card.{entries_of, read_card, record_number}
use Rattle.syntax.specs.Tree.{Tree, erase}
use Rattle.syntax.specs.Grammar.{Spells}
use Rattle.judge.specs.Sets.{conforms, conforms_to}
use Rattle.judge.proofs.Table.{table_conforms}
use Rattle.judge.specs.Verdicts.{filter_says}
use Rattle.rows.specs.Expression.{Expression, test_count}
use Rattle.rows.specs.Cells.{stated}
use Rattle.rows.specs.Good.{Fits, Good}
use Rattle.rows.specs.Shapes.{good}
use Rattle.rows.specs.Stated.{tree_of}
use Rattle.rows.proofs.Good.{good_few, good_states, good_iff}
use Rattle.row_judge.proofs.Meaning.{good-whole}
use Rattle.refusal.specs.declared.Reason.{Reason}
use Rattle.refusal.specs.declared.Refusal.{Refusal}
use Rattle.refusal.specs.Answers.{yes_or_no, count, refused, number_of, refusal_answer, counted_answer, matched_answer}
use Rattle.refusal.specs.Steps.{Step, found, stop, ◌>>=◌, answer}
use Rattle.answer.specs.Operations.{Inputs, accept_inputs, Card, accept_card, question_of, filter_question, match_answer, written}
use Rattle.answer.specs.Preparing.{preparation, prepare_answer, prepare_cells, judge_answer}
use Rattle.answer.specs.Refusals.{CheckLine, line_10}
use Rattle.sirophan.specs.Operations.{PreparesInto, Judges}
use Rattle.answer.specs.RowsRefusals.{PreparesGood, MatchIs}
use Rattle.answer.proofs.Slices.{Sliced}
use Rattle.answer.proofs.CheckTable.{sheet_parameters, inputs_decided}
use Rattle.answer.proofs.Inputs.{question_by, match_by_lem}
use Rattle.answer.proofs.Outcomes.{card_of}
use Rattle.answer.proofs.Passing.{card-found}
use Rattle.answer.proofs.RowsAnswered.{known_of, prepares_good, match_is}
use Rattle.deciding.specs.declared.Mark.{Mark}
use Rattle.deciding.specs.Deciding.{outer_count, verdicts, cells}
use Rattle.deciding.specs.Marks.{mark, masked, cell_of, deciding, explanation}
use Rattle.explain.specs.Operation.{Explanation, explanation_of, accept_marks, explaining, explain_answer, explain_cells}
use Rattle.deciding.specs.Rows.{outline, outer_verdicts, Room as TestRoom, Tells, Spares}
use Rattle.explain.specs.Operations.{Marks, Judged}
use Rattle.deciding.proofs.Alike.{filter_verdicts, filter_alike, deciding-alike}
use Rattle.deciding.proofs.Outer.{outer_tests_lem}
use Rattle.explain.proofs.Filling.{Filling, cell-mark, cells_are, filled_list}

-- ---- by what was found

pub not_refused : (b : Bool) (n p : ℕ) → yes_or_no b ≡ refused n p → ⊥
not_refused true n p e = let z : ◌≡◌ {A = ℕ} 0 1 = cc in omega arith
not_refused false n p e = let z : ◌≡◌ {A = ℕ} 0 1 = cc in omega arith

module _ (sheet text card : List ℕ) where
  pub explaining_by : (room : ℕ) (r : Step Inputs) → accept_inputs sheet text ≡ r
      → explaining sheet text card room ≡ (r >>= λ p. accept_card p.parameters 0 card >>= λ c. accept_marks room (outer_count p.filter) (explanation_of p c))
  unfolding explaining
  explaining_by room r e = rw e

  pub match_answer_by : (r : Step Inputs) → accept_inputs sheet text ≡ r
      → match_answer sheet text card ≡ answer (r >>= λ p. accept_card p.parameters 0 card >>= λ c. found (yes_or_no (filter_says p.parameters 0 c.entries p.filter)))
  match_answer_by (found p) e = match_by_lem (filter_question sheet text) (found (question_of p)) (question_by sheet text (found p) e) card
  match_answer_by (stop n p) e = match_by_lem (filter_question sheet text) (stop n p) (question_by sheet text (stop n p) e) card

  -- what match refuses is refused alike
  pub stops_as_match : (room n p : ℕ) → match_answer sheet text card ≡ refused n p → explaining sheet text card room ≡ stop n p
  stops_as_match room n p h = by_inputs (accept_inputs sheet text) refl
    where
      by_card : (y : Inputs) (q : Step Card) → answer (q >>= λ c. found (yes_or_no (filter_says y.parameters 0 c.entries y.filter))) ≡ refused n p
          → (q >>= λ c. accept_marks room (outer_count y.filter) (explanation_of y c)) ≡ stop n p
      by_card y (found c) g = absurd (not_refused (filter_says y.parameters 0 c.entries y.filter) n p g)
      by_card y (stop m q) g =
          let number : m ≡ n = cc in
          let where-at : q ≡ p = cc in
          rw (number, where-at)

      by_inputs : (r : Step Inputs) → accept_inputs sheet text ≡ r → explaining sheet text card room ≡ stop n p
      by_inputs (found y) e = explaining_by room (found y) e ∙ by_card y (accept_card y.parameters 0 card) (sym (match_answer_by (found y) e) ∙ h)
      by_inputs (stop m q) e =
          let same : refused m q ≡ refused n p = sym (match_answer_by (stop m q) e) ∙ h in
          let number : m ≡ n = cc in
          let where-at : q ≡ p = cc in
          explaining_by room (stop m q) e ∙ rw (number, where-at)

  module _ (list : List ℕ) (x : Step Explanation) (e : explaining sheet text card (length list) ≡ x) where
    pub answer_by : explain_answer sheet text card (length list) ≡ answer (x >>= λ y. found (yes_or_no y.verdict))
    unfolding explain_answer
    answer_by = rw e

    pub cells_by_lem : explain_cells sheet text card list ≡ written (x >>= λ y. found y.cells) list
    unfolding explain_cells
    cells_by_lem = rw e

  -- a refusal of match's
  pub marks_refused : (list : List ℕ) (q : Refusal) → match_answer sheet text card ≡ refusal_answer q → Marks sheet text card list (Err q) list
  unfolding matched_answer refusal_answer
  marks_refused list q h =
      let s = stops_as_match (length list) (number_of q.reason) q.place h in
      record { answers = sym (answer_by list (stop (number_of q.reason) q.place) s); cells = sym (cells_by_lem list (stop (number_of q.reason) q.place) s) }

-- ---- the marks

module _ (sheet text rows card : List ℕ) (says : Bool) (j : Judged sheet text rows card says) where
  abbrev ps : List Parameter
  ps = parameters_of sheet

  formed : WellFormedSheet ps
  formed = sheet_well_formed sheet j.sheet_reads

  states_it : stated rows ≡ some j.good.expression
  states_it = good_states ps formed text j.good

  few_tests : (e : Expression) → stated rows ≡ some e → outer_count (outline e) ≤ 32
  few_tests e i =
      let same : j.good.expression ≡ e = some-injective _ _ (sym states_it ∙ i) in
      omega (arith, (outer_tests_lem e).1, ap test_count same, j.good.few)

  -- the card conforms, by the kinds of the sheet
  pub mark_conforming : (kinds : List ℕ) → kinds ≡ kinds_of ps → conforms_to kinds (entries_of card) ≡ true
  mark_conforming kinds e = ap (λ (k : List ℕ). conforms_to k (entries_of card)) e ∙ table_conforms ps (entries_of card) ∙ accepted (conforms ps (entries_of card)) refl
    where
      accepted : (b : Bool) → conforms ps (entries_of card) ≡ b → b ≡ true
      accepted true h = refl
      accepted false h =
          let c : Card = record { number = record_number card; entries = entries_of card } in
          let stops : stop 23 0 ≡ found c = (unfold accept_card in rw (j.card_reads, h) at j.card_accepted) in
          absurd (let z : ◌≡◌ {A = ℕ} 0 1 = cc in omega arith)

  -- the tests have room in a list of 32
  pub mark_tests : TestRoom rows 0 32
  mark_tests = record { each = λ e i. omega (arith, few_tests e i) }

  abbrev f : Tree
  f = j.filter

  abbrev v : ℕ → Bool
  v = verdicts (filter_says ps 0 (entries_of card)) f

  module _ (kinds : List ℕ) (k : kinds ≡ kinds_of ps) (tests : ℕ) (marks : List Mark) (t : Tells kinds text (entries_of card) rows tests marks) where
    pub mark_few : tests ≤ 32
    mark_few = omega (arith, t.count j.good.expression states_it, few_tests j.good.expression states_it)

    pub mark_marked : (i : ℕ) → i < tests → i < 32
    mark_marked i l = omega (arith, mark_few)

    outline_count : tests ≡ outer_count (outline j.good.expression)
    outline_count = t.count j.good.expression states_it

    counted : tests ≡ outer_count f
    counted = outline_count ∙ (filter_alike ps formed text j.good.expression j.good.fits f j.states).count

    told : (i : ℕ) → i < tests → get_or marks i Mark.Spared ≡ mark true (v i)
    told i l =
        t.verdicts j.good.expression states_it i l
        ∙ ap (λ (bs : List Bool). mark true (get_or bs i false))
        (ap (λ (q : List ℕ). outer_verdicts q text (entries_of card) j.good.expression) k ∙ filter_verdicts ps formed text j.good.expression j.good.fits f j.states (entries_of card))

    found_by : (room : ℕ) → explaining sheet text card room ≡ accept_marks room (outer_count f) (explanation_of (record { parameters = ps; filter = f }) (card_of card))
    found_by room = explaining_by sheet text card room (found (record { parameters = ps; filter = f })) j.inputs_accepted ∙ rw j.card_accepted

    pub mark_short : (list : List ℕ) → length list < tests → Marks sheet text card list (Err (record { reason = Reason.ShortMarks; place = tests })) list
    unfolding accept_marks matched_answer refusal_answer
    mark_short list l =
        let s : explaining sheet text card (length list) ≡ stop 33 tests = found_by (length list) ∙ rw (← counted, lt-leb tests (length list) l) in
        record { answers = sym (answer_by sheet text card list (stop 33 tests) s); cells = sym (cells_by_lem sheet text card list (stop 33 tests) s) }

    module _ (spared : List Mark) (s : Spares rows tests marks spared) where
      spared_marks : (i : ℕ) → i < tests → get_or spared i Mark.Spared ≡ masked (deciding f v) v i
      spared_marks i l =
          s.decides j.good.expression v states_it outline_count told i l
          ∙ ap (λ (q : ℕ → Bool). masked q v i) (deciding-alike (outline j.good.expression) f v (filter_alike ps formed text j.good.expression j.good.fits f j.states))

      module _ (list exit : List ℕ) (l : tests ≤ length list) (w : Filling spared list exit tests) where
        cells_written : take tests exit ≡ explanation (filter_says ps 0 (entries_of card)) f
        unfolding explanation
        cells_written =
            cells_are v (deciding f v) exit tests 0 (omega (arith, l, w.size)) (λ i a b. w.written i (omega arith) ∙ ap cell_of (spared_marks i (omega arith)) ∙ cell-mark (deciding f v i) (v i))
            ∙ ap (λ (n : ℕ). cells v (deciding f v) 0 n) counted

        done : explaining sheet text card (length list) ≡ found (explanation_of (record { parameters = ps; filter = f }) (card_of card))
        unfolding accept_marks
        done = found_by (length list) ∙ rw (← counted, le-leb tests (length list) l)

        marked : (r : Result Bool Refusal) → matched_answer r ≡ yes_or_no says → Marks sheet text card list r exit
        marked r h =
            record {
              answers = h ∙ ap yes_or_no j.verdict ∙ sym (answer_by sheet text card list (found (explanation_of (record { parameters = ps; filter = f }) (card_of card))) done);
              cells = filled_list spared list exit tests w l ∙ ap (λ (x : List ℕ). x ++ drop (length x) list) cells_written
                  ∙ sym (cells_by_lem sheet text card list (found (explanation_of (record { parameters = ps; filter = f }) (card_of card))) done);
            }

      pub mark_says : (list exit : List ℕ) (i : ℕ) → Filling spared list exit i → tests ≤ i → i ≤ tests → tests ≤ length list → Marks sheet text card list (Ok says) exit
      unfolding matched_answer
      mark_says list exit i w a b l = let same : i ≡ tests = omega (arith, a, b) in marked list exit l (subst (λ (n : ℕ). Filling spared list exit n) same w) (Ok says) refl

-- ---- what was accepted, where match answers yes or no

same_verdict : (a b : Bool) → yes_or_no a ≡ yes_or_no b → b ≡ a
same_verdict true true e = refl
same_verdict false false e = refl
same_verdict true false e = let z : ◌≡◌ {A = ℕ} 0 1 = cc in absurd (omega arith)
same_verdict false true e = let z : ◌≡◌ {A = ℕ} 0 1 = cc in absurd (omega arith)

-- the card, from what is said of it
record CardSays (ps : List Parameter) (card : List ℕ) (f : Tree) (says : Bool) : Type 0 where
  reads : read_card card ≡ (Ok tt)
  is_accepted : accept_card ps 0 card ≡ found (card_of card)
  verdict : says ≡ filter_says ps 0 (entries_of card) f

card-says : (ps : List Parameter) (card : List ℕ) (f : Tree) (says : Bool) → answer (accept_card ps 0 card >>= λ c. found (yes_or_no (filter_says ps 0 c.entries f))) ≡ yes_or_no says → CardSays ps card f says
unfolding accept_card
card-says ps card f says h = by_step (accept_card ps 0 card) refl h
  where
    by_step : (q : Step Card) → accept_card ps 0 card ≡ q → answer (q >>= λ c. found (yes_or_no (filter_says ps 0 c.entries f))) ≡ yes_or_no says → CardSays ps card f says
    by_step (stop n p) e g = absurd (not_refused says n p (sym g))
    by_step (found c) e g =
        let was = card-found (read_card card) (conforms ps (entries_of card)) (card_of card) 0 c e in
        record {
          reads = was.0;
          is_accepted = e ∙ ap found was.1;
          verdict = same_verdict (filter_says ps 0 (entries_of card) f) says (ap (λ (d : Card). yes_or_no (filter_says ps 0 d.entries f)) (sym was.1) ∙ g);
        }

module _ (sheet text card list : List ℕ) (bytes : Bytes sheet) (n : ℕ) (rows : List ℕ) (filled : rows ≡ take n (prepare_cells sheet text list)) (counts-cells : prepare_answer sheet text (length list) ≡ count n)
    (y : Inputs) (e : accept_inputs sheet text ≡ found y) where
  known : ((s : SheetBlock sheet) × (s.parameters ≡ y.parameters) × Spells text y.filter) × ((m p : ℕ) → CheckLine sheet text m p → ⊥)
  known = known_of (inputs_decided sheet text bytes) y e

  abbrev block : SheetBlock sheet
  block = known.0.0

  short : length text ≤ 1024
  short = let z : 1024 < length text → ⊥ = λ l. known.1 10 0 (inr (inl (line_10 (inr l)))) in omega arith

  prepared-good : PreparesGood sheet text list block.parameters y.filter n
  prepared-good = prepares_good sheet text block y.filter short known.0.2 list n counts-cells

  sheets : block.parameters ≡ parameters_of sheet
  sheets = sym (sheet_parameters sheet block)

  mine : y.parameters ≡ parameters_of sheet
  mine = sym known.0.1 ∙ sheets

  abbrev rows_good : Good (parameters_of sheet) text rows
  rows_good =
      let g = prepared-good.rows in
      record { expression = g.expression; written = filled ∙ g.written; nests = g.nests; few = g.few; fits = subst (λ (qs : List Parameter). Fits qs text 0 g.expression) sheets g.fits }

  pub accepted_with : (says : Bool) → answer (accept_card y.parameters 0 card >>= λ c. found (yes_or_no (filter_says y.parameters 0 c.entries y.filter))) ≡ yes_or_no says → Judged sheet text rows card says
  accepted_with says h =
      let reads = (sheet_reads_iff sheet block.marked block.parameters).1 (block.well_formed, block.form, block.encoded) in
      let tested : good (kinds_of (parameters_of sheet)) (parents_of (parameters_of sheet)) text rows ≡ true = (good_iff (parameters_of sheet) (sheet_well_formed sheet reads.reading) text rows).1 rows_good in
      let c : CardSays (parameters_of sheet) card y.filter says = subst (λ (qs : List Parameter). CardSays qs card y.filter says) mine (card-says y.parameters card y.filter says h) in
      record {
        filter = y.filter;
        inputs_accepted = e ∙ ap (λ (qs : List Parameter). found (record { parameters = qs; filter = y.filter })) mine;
        sheet_reads = reads.reading;
        short = short;
        good = rows_good;
        states = subst (λ (qs : List Parameter). erase (tree_of qs text prepared-good.rows.expression) ≡ erase y.filter) sheets prepared-good.states;
        whole = good-whole (kinds_of (parameters_of sheet)) (parents_of (parameters_of sheet)) text rows tested;
        few = good_few (kinds_of (parameters_of sheet)) (parents_of (parameters_of sheet)) text rows tested;
        card_reads = c.reads;
        card_accepted = c.is_accepted;
        verdict = c.verdict;
      }

-- ---- prepare and judge

-- prepare has filled no more cells than there are
pub filled_within : (sheet text list : List ℕ) (r : Result ℕ Refusal) (exit : List ℕ) → PreparesInto sheet text list r exit → (n : ℕ) → r ≡ Ok n → n ≤ length exit
unfolding counted_answer prepare_answer prepare_cells
filled_within sheet text list r exit p n i = by_step (preparation sheet text (length list)) (sym (ap counted_answer i) ∙ p.answers) p.cells
  where
    by_step : (q : Step (List ℕ)) → count n ≡ answer (q >>= λ cs. found (count (length cs))) → exit ≡ written q list → n ≤ length exit
    by_step (found cs) e w = let same : n ≡ length cs = cc in omega (arith, same, ap length w, length-append cs (drop (length cs) list))
    by_step (stop m q) e w = let z : ◌≡◌ {A = ℕ} 0 1 = cc in absurd (omega arith)

module _ (sheet text card : List ℕ) (prepared : Result ℕ Refusal) (exit : List ℕ) (p : PreparesInto sheet text (replicate 1024 0) prepared exit) (sliced : Sliced sheet) where
  -- a list that is long enough for the rows of every filter
  abbrev list : List ℕ
  list = replicate 1024 0

  is_match : MatchIs sheet text card list
  is_match = match_is sheet text card list (bytes_of sheet sliced) (le_of_eq (sym (length-replicate {A = ℕ} 1024 0)))

  pub prepare_refuses : (cells : List ℕ) (q : Refusal) → prepared ≡ Err q → Marks sheet text card cells (Err q) cells
  unfolding counted_answer refusal_answer
  prepare_refuses cells q i = marks_refused sheet text card cells q (is_match.refused_alike (number_of q.reason) q.place (sym p.answers ∙ ap counted_answer i))

  module _ (n : ℕ) (i : prepared ≡ Ok n) (r : Result Bool Refusal) (g : Judges sheet text (part exit 0 n) card r) where
    counts-cells : prepare_answer sheet text (length list) ≡ count n
    unfolding counted_answer
    counts-cells = sym p.answers ∙ ap counted_answer i

    filled : part exit 0 n ≡ take n (prepare_cells sheet text list)
    filled = let all : n - 0 ≡ n = omega arith in ap₂ (λ (k : ℕ) (l : List ℕ). take k l) all p.cells

    as_match : matched_answer r ≡ match_answer sheet text card
    as_match = g.answers ∙ ap (λ (cs : List ℕ). judge_answer sheet text cs card) filled ∙ sym (is_match.judged n counts-cells)

    pub judge_refuses : (cells : List ℕ) (q : Refusal) → r ≡ Err q → Marks sheet text card cells (Err q) cells
    unfolding matched_answer
    judge_refuses cells q e = marks_refused sheet text card cells q (sym as_match ∙ ap matched_answer e)

    judged : (says : Bool) → matched_answer r ≡ yes_or_no says → Judged sheet text (part exit 0 n) card says
    judged says h = by_inputs (accept_inputs sheet text) refl
      where
        by_inputs : (i : Step Inputs) → accept_inputs sheet text ≡ i → Judged sheet text (part exit 0 n) card says
        by_inputs (stop m q) e = absurd (not_refused says m q (sym h ∙ as_match ∙ match_answer_by sheet text card (stop m q) e))
        by_inputs (found y) e =
            accepted_with sheet text card list (bytes_of sheet sliced) n (part exit 0 n) filled counts-cells y e says (sym (match_answer_by sheet text card (found y) e) ∙ sym as_match ∙ h)

    pub judged_says : (says : Bool) → r ≡ Ok says → Judged sheet text (part exit 0 n) card says
    unfolding matched_answer
    judged_says says e = judged says (ap matched_answer e)
