-- Check and match by a search string meet the letter's third demand over its alternatives.
-- Assumes nothing.
use Prim.Native.Nat.{ℕ}
use mathlib.Core.Path.{◌≡◌, refl, ◌∙◌}
use mathlib.Core.List.{List}
use lib.ListN.{length}
use Rattle.sheet.specs.Sheet.{Parameter}
use Rattle.sheet.specs.Encode.{SheetBlock}
use Rattle.query.specs.Spelling.{Query, alternatives_of, SpellsQuery}
use Rattle.search.specs.Meaning.{query_says}
use Rattle.search.specs.Rules.{QuerySays}
use Rattle.query.proofs.Reading.{query_back}
use Rattle.search.proofs.Rules.{query_says_iff}
use Rattle.refusal.specs.Answers.{yes_or_no, count}
use Rattle.refusal.specs.Steps.{Step, found, stop, ◌>>=◌, answer}
use Rattle.answer.specs.Operations.{accept_card}
use Rattle.answer.specs.Searching.{alternatives_step, QueryInputs, accept_query_inputs, check_search_answer, question_of_query, search_question, match_search_answer}
use Rattle.answer.specs.SearchDemand.{search_tests, MeetsSearchDemand}
use Rattle.answer.proofs.Verdicts.{verdict_of}
use Rattle.sirophan.proofs.Demand.{demand_by}
use Rattle.answer.proofs.Inputs.{match_by_lem, sheet_accepted}
use Rattle.answer.proofs.SearchFaults.{alternatives-outcome}

module _ (sheet text : List ℕ) (s : SheetBlock sheet) (q : Query) (spells : SpellsQuery text q) where
  abbrev ps : List Parameter
  ps = s.parameters

  abbrev ready : Step (Unit {0}) → Step QueryInputs
  ready tests = tests >>= λ u. found (record { parameters = ps; query = q })

  pub query_inputs : accept_query_inputs sheet text ≡ ready (alternatives_step ps (alternatives_of q))
  unfolding accept_query_inputs
  query_inputs = rw (sheet_accepted sheet s, query_back text q spells)

  pub query_question : search_question sheet text ≡ (ready (alternatives_step ps (alternatives_of q)) >>= λ p. found (question_of_query p))
  unfolding search_question
  query_question = rw query_inputs

  check-alternatives : check_search_answer sheet text ≡ answer (alternatives_step ps (alternatives_of q) >>= λ u. found (count (length (alternatives_of q))))
  unfolding check_search_answer
  check-alternatives = rw query_inputs (by (alternatives_step ps (alternatives_of q)))
    where
      by : (tests : Step (Unit {0})) → answer (ready tests >>= λ p. found (count (length (alternatives_of p.query)))) ≡ answer (tests >>= λ u. found (count (length (alternatives_of q))))
      by (found u) = refl
      by (stop n p) = refl

  match_alternatives : (card : List ℕ) → match_search_answer sheet text card ≡ answer (alternatives_step ps (alternatives_of q) >>= λ u. accept_card ps 0 card >>= λ c. found (yes_or_no (query_says ps c.entries q)))
  match_alternatives card =
      match_by_lem (search_question sheet text) (ready (alternatives_step ps (alternatives_of q)) >>= λ p. found (question_of_query p)) query_question card
      ∙ by (alternatives_step ps (alternatives_of q))
    where
      by : (tests : Step (Unit {0}))
          → answer ((ready tests >>= λ p. found (question_of_query p)) >>= λ r. accept_card r.parameters 0 card >>= λ c. found (yes_or_no (r.says c.entries)))
          ≡ answer (tests >>= λ u. accept_card ps 0 card >>= λ c. found (yes_or_no (query_says ps c.entries q)))
      by (found u) = refl
      by (stop n p) = refl

pub search_demand_met : MeetsSearchDemand check_search_answer match_search_answer
search_demand_met sheet text s q spells =
    demand_by (search_tests s.parameters) (alternatives_of q) (λ es. QuerySays s.parameters es q) (λ es. query_says s.parameters es q) (check_search_answer sheet text) (match_search_answer sheet text)
    (alternatives-outcome s.parameters s.well_formed (alternatives_of q))
    (λ m card es c. verdict_of (query_says s.parameters es q) (query_says_iff s.parameters s.well_formed es q))
    (check-alternatives sheet text s q spells) (match_alternatives sheet text s q spells)
