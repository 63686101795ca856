-- Check and match meet the letter's third demand: they go by what the tests come to, and the tests are tried in the order of the text.
-- Assumes nothing.
use Prim.Native.Nat.{ℕ, ◌≤◌}
use mathlib.Core.Path.{◌≡◌, refl, sym, ◌∙◌, subst}
use mathlib.Core.Bool.{Bool}
use mathlib.Core.List.{List}
use lib.ListN.{length}
use Rattle.base.specs.Lists.{All}
use Rattle.base.proofs.All.{all_head, all_right, all_map}
use Rattle.sheet.specs.Sheet.{Parameter}
use Rattle.sheet.specs.Encode.{SheetBlock}
use Rattle.card.specs.Card.{Entry}
use Rattle.syntax.specs.Tree.{Tree, tests_of}
use Rattle.syntax.specs.Grammar.{Spells}
use Rattle.judge.specs.Verdicts.{filter_says}
use Rattle.refusal.specs.Answers.{Answer, yes_or_no, count}
use Rattle.refusal.specs.Steps.{Step, found, stop, ◌>>=◌, answer}
use Rattle.answer.specs.Operations.{tests_step, Inputs, accept_card, check_answer, question_of, filter_question, match_answer}
use Rattle.judge.specs.Rules.{Conforms, FilterSays}
use Rattle.answer.specs.Verdicts.{Verdict}
use Rattle.answer.specs.Demand.{TestRules, Meaningful, Demand, filter_tests, MeetsDemand}
use Rattle.answer.proofs.Verdicts.{verdict_by}
use Rattle.refusal.proofs.Answers.{count_not_refused}
use Rattle.answer.proofs.Cards.{conforms-size, conforms-bytes, conforms_accepted}
use Rattle.answer.proofs.Outcomes.{TestsOutcome, all_mean, one_refused}
use Rattle.answer.proofs.Inputs.{check_by, match_by_lem, question_by, tests_outcome, inputs_accepted}

-- ---- over any kind of test: a check and a match that go by what the tests come to

module _ {T : Type 0} (rules : TestRules T) (ts : List T) (Says : List Entry → Type 0) (says : List Entry → Bool) (check : Answer) (match : List ℕ → Answer) where
  pub demand_by : {tests : Step (Unit {0})} → TestsOutcome rules ts tests
      → (All (Meaningful rules) ts → (card : List ℕ) (es : List Entry) → Conforms rules.parameters card es → Verdict (Says es) (yes_or_no (says es)))
      → check ≡ answer (tests >>= λ u. found (count (length ts)))
      → ((card : List ℕ) → match card ≡ answer (tests >>= λ u. accept_card rules.parameters 0 card >>= λ c. found (yes_or_no (says c.entries))))
      → Demand rules ts Says check match
  demand_by (all_mean m) verdict passed matched =
      record {
        passes = ((λ _. m), (λ _. passed));
        verdict = λ _ card es c.
            let e : match card ≡ yes_or_no (says es) = matched card ∙ rw (conforms_accepted c 0) in
            subst (λ (a : Answer). Verdict (Says es) a) (sym e) (verdict m card es c);
        refuses = λ n. absurd (n passed);
      }
  demand_by (one_refused before t after n split m r) verdict failed matched =
      let senseless : All (Meaningful rules) ts → ⊥ =
      λ all. all_head (Meaningful rules) (all_right (Meaningful rules) before (subst (All (Meaningful rules)) split all)) r.card r.entries r.conforms r.lacks
      in
      record {
        passes = ((λ p. absurd (count_not_refused (length ts) n (rules.place t) (sym p ∙ failed))), (λ all. absurd (senseless all)));
        verdict = λ p. absurd (count_not_refused (length ts) n (rules.place t) (sym p ∙ failed));
        refuses = λ _. record {
          before = before;
          test = t;
          after = after;
          split = split;
          number = n;
          checked = failed;
          matched = matched;
          first = m;
          table = r.table;
          card = r.card;
          entries = r.entries;
          size = conforms-size r.conforms;
          bytes = conforms-bytes r.conforms;
          conforms = r.conforms;
          lacks = r.lacks;
        };
      }

-- ---- filters

module _ (sheet text : List ℕ) (s : SheetBlock sheet) (f : Tree) (short : length text ≤ 1024) (spells : Spells text f) where
  abbrev ps : List Parameter
  ps = s.parameters

  abbrev ready : Step (Unit {0}) → Step Inputs
  ready tests = tests >>= λ u. found (record { parameters = ps; filter = f })

  check_tests : check_answer sheet text ≡ answer (tests_step ps (tests_of f) >>= λ u. found (count (length (tests_of f))))
  check_tests = check_by sheet text (ready (tests_step ps (tests_of f))) (inputs_accepted sheet text s f short spells) ∙ by (tests_step ps (tests_of f))
    where
      by : (tests : Step (Unit {0})) → answer (ready tests >>= λ p. found (count (length (tests_of p.filter)))) ≡ answer (tests >>= λ u. found (count (length (tests_of f))))
      by (found u) = refl
      by (stop n p) = refl

  match_tests : (card : List ℕ) → match_answer sheet text card ≡ answer (tests_step ps (tests_of f) >>= λ u. accept_card ps 0 card >>= λ c. found (yes_or_no (filter_says ps 0 c.entries f)))
  match_tests card =
      match_by_lem (filter_question sheet text) (ready (tests_step ps (tests_of f)) >>= λ p. found (question_of p))
      (question_by sheet text (ready (tests_step ps (tests_of f))) (inputs_accepted sheet text s f short spells)) card
      ∙ by (tests_step ps (tests_of f))
    where
      by : (tests : Step (Unit {0}))
          → answer ((ready tests >>= λ p. found (question_of p)) >>= λ q. accept_card q.parameters 0 card >>= λ c. found (yes_or_no (q.says c.entries)))
          ≡ answer (tests >>= λ u. accept_card ps 0 card >>= λ c. found (yes_or_no (filter_says ps 0 c.entries f)))
      by (found u) = refl
      by (stop n p) = refl

pub demand_met : MeetsDemand check_answer match_answer
demand_met sheet text s f short spells =
    demand_by (filter_tests s.parameters) (tests_of f) (λ es. FilterSays s.parameters 0 es f) (λ es. filter_says s.parameters 0 es f) (check_answer sheet text) (match_answer sheet text)
    (tests_outcome s.parameters s.well_formed (tests_of f)) (λ m card es c. verdict_by s.parameters s.well_formed es f (all_map (λ t k. k card es c) m))
    (check_tests sheet text s f short spells) (match_tests sheet text s f short spells)

-- where check passes, match answers the filter's yes or no on each conforming card
pub match_verdict : (sheet text : List ℕ) (s : SheetBlock sheet) (f : Tree) → length text ≤ 1024 → Spells text f → check_answer sheet text ≡ count (length (tests_of f))
    → (card : List ℕ) (es : List Entry) → Conforms s.parameters card es → Verdict (FilterSays s.parameters 0 es f) (match_answer sheet text card)
match_verdict sheet text s f short spells = (demand_met sheet text s f short spells).verdict
