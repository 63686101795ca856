-- Explain answers: where no line of the table holds it gives the filter's yes or no, and the cells of the tests that decide.
-- Where no line holds `explaining` has not stopped (`refusing`), so it has found its explanation. That is put into the rules' words. No
-- test was refused, so each has a meaning (`all_meant`); so what is computed of each outer test is what the rules say (`says_each`), and
-- the filter's answer is made of these verdicts (`by_tests`). That the tests kept are those that decide is a law of file Deciding
-- (`explains`). Explain and match take the same inputs and the same card, and only then does explain need room in the list (`as_match`).
-- Assumes nothing.
use Prim.Native.Nat.{ℕ, ◌+◌, ◌≤◌}
use native.Mathlib.Omega.{arith}
use mathlib.Core.Path.{◌≡◌, refl, sym, ap, subst, ◌∙◌}
use mathlib.Core.Bool.{Bool, true, false, cond}
use mathlib.Core.Logic.{◌↔◌}
use mathlib.Core.List.{List, ◌∷◌, ◌++◌, map}
use lib.Dec.{leb}
use lib.ListN.{length, get_or, drop, length-map}
use Rattle.base.specs.Bytes.{Bytes}
use Rattle.base.specs.Lists.{All, all_empty, all_cons}
use Rattle.base.proofs.All.{all_head, all_append, all_left, all_right, all_map}
use Rattle.sheet.specs.Sheet.{Parameter}
use Rattle.sheet.specs.Encode.{SheetBlock}
use Rattle.card.specs.Card.{Entry}
use Rattle.syntax.specs.Tree.{Test, Tree, test, bracketed, join, negation, tests_of}
use Rattle.syntax.specs.Grammar.{Spells}
use Rattle.judge.specs.Rules.{Conforms, FilterSays}
use Rattle.judge.specs.Verdicts.{filter_says}
use Rattle.judge.proofs.Rules.{PrSpelled, pr_spelled, filter_says_iff}
use Rattle.refusal.specs.Answers.{Answer, yes_or_no, refused}
use Rattle.refusal.specs.Steps.{Step, found, stop, ◌>>=◌, answer}
use Rattle.answer.specs.Demand.{TestRules, Meaningful, filter_tests}
use Rattle.answer.specs.Operations.{tests_step, Inputs, accept_inputs, Card, accept_card, match_answer, written}
use Rattle.answer.specs.Verdicts.{Verdict}
use Rattle.answer.proofs.Cards.{conforms_accepted, conforms-bytes}
use Rattle.answer.proofs.Inputs.{inputs_accepted, tests_outcome}
use Rattle.answer.proofs.Outcomes.{TestsOutcome, all_mean, one_refused}
use Rattle.answer.proofs.Verdicts.{verdict_spelled}
use Rattle.deciding.specs.Deciding.{outer_tests, outer_count, verdicts, says_by}
use Rattle.deciding.specs.Marks.{deciding, explanation}
use Rattle.explain.specs.Operation.{Explanation, explanation_of, accept_marks, explaining, explain_answer, explain_cells}
use Rattle.explain.specs.Refusals.{ExplainLine}
use Rattle.explain.specs.Explaining.{SaysEach, ExplainAnswers, AsMatch, same_answer, short_list}
use Rattle.deciding.proofs.Deciding.{explains}
use Rattle.deciding.proofs.Numbered.{cells-counted, map-append, get_d_after, says_by_verdicts}
use Rattle.explain.proofs.Explaining.{not_refused, explaining_by, match_answer_by, answer_by, cells_by_lem}
use Rattle.explain.proofs.Table.{explain_table}

-- ---- what each test says

-- what holds of a filter's tests holds of those of each outer test
outer_all : (P : Test → Type 0) (f : Tree) → All P (tests_of f) → All (λ (t : Tree). All P (tests_of t)) (outer_tests f)
unfolding outer_tests tests_of
outer_all P (test t) h = all_cons h all_empty
outer_all P (bracketed p b f t) h = all_cons h all_empty
outer_all P (join c f g) h = all_append (λ (t : Tree). All P (tests_of t)) (outer_all P f (all_left P (tests_of f) (tests_of g) h)) (outer_all P g (all_right P (tests_of f) h))
outer_all P (negation f) h = outer_all P f h

verdict_at : (says : Tree → Bool) (f : Tree) (before : List Tree) (t : Tree) (after : List Tree) → outer_tests f ≡ before ++ (t ∷ after) → verdicts says f (length before) ≡ says t
verdict_at says f before t after e =
    let z : length before ≡ length before + 0 = omega arith in
    ap (λ (ts : List Tree). get_or (map says ts) (length before) false) e
    ∙ ap (λ (bs : List Bool). get_or bs (length before) false) (map-append says before (t ∷ after))
    ∙ ap (λ (n : ℕ). get_or (map says before ++ (says t ∷ map says after)) n false) z
    ∙ get_d_after (map says before) (says t ∷ map says after) (length before) 0 (sym (length-map before says))

-- check has passed the tests, so that each has a meaning
all_meant : (rules : TestRules Test) (ts : List Test) (q : Step (Unit {0})) → TestsOutcome rules ts q → (u : Unit {0}) → q ≡ found u → All (Meaningful rules) ts
all_meant rules ts q (all_mean m) u e = m
all_meant rules ts q (one_refused before t after n h m r) u e = let z : ◌≡◌ {A = ℕ} 0 1 = cc in absurd (omega arith)

room_found : (b : Bool) (x y : Explanation) (n p : ℕ) → cond b (found x) (stop n p) ≡ found y → y ≡ x
room_found true x y n p e = cc
room_found false x y n p e = let z : ◌≡◌ {A = ℕ} 0 1 = cc in absurd (omega arith)

module _ (sheet text card list : List ℕ) (s : SheetBlock sheet) (f : Tree) (short : length text ≤ 1024) (spells : Spells text f) (es : List Entry) (c : Conforms s.parameters card es) where
  abbrev ps : List Parameter
  ps = s.parameters

  abbrev both : Inputs
  both = record { parameters = ps; filter = f }

  abbrev says : Tree → Bool
  says = filter_says ps 0 es

  abbrev whole : Explanation
  whole = explanation_of both (record { number = c.number; entries = es })

  module _ (found_it : explaining sheet text card (length list) ≡ found whole) (spelled : All PrSpelled (tests_of f)) where
    says_each : SaysEach ps es f (verdicts says f)
    says_each before t after e =
        let own : All PrSpelled (tests_of t) = all_head (λ (u : Tree). All PrSpelled (tests_of u)) (all_right (λ (u : Tree). All PrSpelled (tests_of u)) before (subst (All (λ (u : Tree). All PrSpelled (tests_of u))) e (outer_all PrSpelled f spelled))) in
        let i = filter_says_iff ps s.well_formed 0 es t own in
        let at = verdict_at says f before t after e in
        ((λ h. i.0 (sym at ∙ h)), (λ h. at ∙ i.1 h))

    by_tests : (says_by (verdicts says f) 0 f ≡ true) ↔ FilterSays ps 0 es f
    by_tests =
        let i = filter_says_iff ps s.well_formed 0 es f spelled in
        let at = says_by_verdicts ps 0 es f in
        ((λ h. i.0 (sym at ∙ h)), (λ h. at ∙ i.1 h))

    answers : ExplainAnswers sheet text card list ps es f
    unfolding explanation
    answers =
        record {
          verdict = subst (λ (a : Answer). Verdict (FilterSays ps 0 es f) a) (sym (answer_by sheet text card list (found whole) found_it)) (verdict_spelled ps s.well_formed es f spelled);
          v = verdicts says f;
          says = says_each;
          by_tests = by_tests;
          kept = deciding f (verdicts says f);
          explains = explains f (verdicts says f);
          writes =
              cells_by_lem sheet text card list (found whole) found_it
              ∙ ap (λ (n : ℕ). whole.cells ++ drop n list) (cells-counted (verdicts says f) (deciding f (verdicts says f)) 0 (outer_count f));
        }

  -- where no line of the table holds, it answers
  pub explain_answered : Bytes sheet → ((n p : ℕ) → ExplainLine sheet text card (length list) n p → ⊥) → ExplainAnswers sheet text card list ps es f
  unfolding accept_marks
  explain_answered bytes none_of = by_tests (tests_step ps (tests_of f)) refl
    where
      refusing : (n p : ℕ) → explaining sheet text card (length list) ≡ stop n p → ⊥
      refusing n p e = none_of n p ((explain_table sheet text card (length list) bytes (conforms-bytes c) n p).0 (answer_by sheet text card list (stop n p) e)).holds

      inputs_by : (t : Step (Unit {0})) → tests_step ps (tests_of f) ≡ t → accept_inputs sheet text ≡ (t >>= λ u. found both)
      inputs_by t e = inputs_accepted sheet text s f short spells ∙ ap (λ (q : Step (Unit {0})). q >>= λ u. found both) e

      by_room : (u : Unit {0}) → tests_step ps (tests_of f) ≡ found u → (x : Step Explanation) → explaining sheet text card (length list) ≡ x → ExplainAnswers sheet text card list ps es f
      by_room u e (stop n p) g = absurd (refusing n p g)
      by_room u e (found y) g =
          let by-steps : explaining sheet text card (length list) ≡ accept_marks (length list) (outer_count f) whole = explaining_by sheet text card (length list) (found both) (inputs_by (found u) e) ∙ rw (conforms_accepted c 0) in
          let same : y ≡ whole = room_found (leb (outer_count f) (length list)) whole y 33 (outer_count f) (sym by-steps ∙ g) in
          let meant = all_meant (filter_tests ps) (tests_of f) (tests_step ps (tests_of f)) (tests_outcome ps s.well_formed (tests_of f)) u e in
          answers (g ∙ ap found same) (all_map (λ t k. pr_spelled ps es t (k card es c)) meant)

      by_tests : (t : Step (Unit {0})) → tests_step ps (tests_of f) ≡ t → ExplainAnswers sheet text card list ps es f
      by_tests (found u) e = by_room u e (explaining sheet text card (length list)) refl
      by_tests (stop n p) e = absurd (refusing n p (explaining_by sheet text card (length list) (stop n p) (inputs_by (stop n p) e)))

-- ---- match

module _ (sheet text card list : List ℕ) where
  pub as_match : AsMatch sheet text card (length list)
  unfolding accept_marks
  as_match = by_inputs (accept_inputs sheet text) refl
    where
      by_room : (y : Inputs) (c : Card) (b : Bool) → explaining sheet text card (length list) ≡ cond b (found (explanation_of y c)) (stop 33 (outer_count y.filter))
          → match_answer sheet text card ≡ yes_or_no (filter_says y.parameters 0 c.entries y.filter) → AsMatch sheet text card (length list)
      by_room y c true e h = same_answer (answer_by sheet text card list (found (explanation_of y c)) e ∙ sym h)
      by_room y c false e h =
          short_list (outer_count y.filter) (answer_by sheet text card list (stop 33 (outer_count y.filter)) e) (λ n q g. not_refused (filter_says y.parameters 0 c.entries y.filter) n q (sym h ∙ g))

      by_card : (y : Inputs) (q : Step Card) → explaining sheet text card (length list) ≡ (q >>= λ c. accept_marks (length list) (outer_count y.filter) (explanation_of y c))
          → match_answer sheet text card ≡ answer (q >>= λ c. found (yes_or_no (filter_says y.parameters 0 c.entries y.filter))) → AsMatch sheet text card (length list)
      by_card y (found c) e h = by_room y c (leb (outer_count y.filter) (length list)) e h
      by_card y (stop n p) e h = same_answer (answer_by sheet text card list (stop n p) e ∙ sym h)

      by_inputs : (r : Step Inputs) → accept_inputs sheet text ≡ r → AsMatch sheet text card (length list)
      by_inputs (found y) e = by_card y (accept_card y.parameters 0 card) (explaining_by sheet text card (length list) (found y) e) (match_answer_by sheet text card (found y) e)
      by_inputs (stop n p) e = same_answer (answer_by sheet text card list (stop n p) (explaining_by sheet text card (length list) (stop n p) e) ∙ sym (match_answer_by sheet text card (stop n p) e))

  -- a refusal keeps the list
  pub refusal_keeps : (n p : ℕ) → explain_answer sheet text card (length list) ≡ refused n p → explain_cells sheet text card list ≡ list
  unfolding explain_answer explain_cells
  refusal_keeps n p = by_step (explaining sheet text card (length list))
    where
      by_step : (x : Step Explanation) → answer (x >>= λ y. found (yes_or_no y.verdict)) ≡ refused n p → written (x >>= λ y. found y.cells) list ≡ list
      by_step (stop m q) h = refl
      by_step (found y) h = absurd (not_refused y.verdict n p h)
