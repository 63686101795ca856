-- Check, match and select by a search string over lists of bytes, as functions that compute: refusals in the order of the table.
-- Assumes nothing.
use Rattle.std.specs.Prelude.{ℕ, List, length}
use Rattle.sheet.specs.Sheet.{Parameter}
use Rattle.query.specs.Spelling.{Alternative, Query, alternatives_of}
use Rattle.query.specs.Reader.{accept_query}
use Rattle.search.specs.Meaning.{first_alternative_fault, query_says}
use Rattle.refusal.specs.Answers.{Answer, count}
use Rattle.refusal.specs.Steps.{Step, found, ◌>>=◌, answer}
use Rattle.answer.specs.Operations.{decision_step, accept_sheet, Question, match_by, select_by, cells_by}

-- 14, 16 and 17 for the first alternative at fault
unfoldable pub alternatives_step : List Parameter → List Alternative → Step (Unit {0})
alternatives_step ps list = decision_step (first_alternative_fault ps list)

-- the parameters of the sheet and the pairs of the search string
pub record QueryInputs : Type 0 where
  pub parameters : List Parameter
  pub query : Query

unfoldable pub accept_query_inputs : List ℕ → List ℕ → Step QueryInputs
accept_query_inputs sheet text = do
  ps ← accept_sheet sheet
  q ← accept_query text
  u ← alternatives_step ps (alternatives_of q)
  found (record { parameters = ps; query = q })

-- "check's count take alternatives for tests"
unfoldable pub check_search_answer : List ℕ → List ℕ → Answer
check_search_answer sheet text = answer (do
  p ← accept_query_inputs sheet text
  found (count (length (alternatives_of p.query))))

-- what a search string asks
abbrev pub question_of_query : QueryInputs → Question
question_of_query p = record { parameters = p.parameters; says = λ es. query_says p.parameters es p.query }

unfoldable pub search_question : List ℕ → List ℕ → Step Question
search_question sheet text = do
  p ← accept_query_inputs sheet text
  found (question_of_query p)

abbrev pub match_search_answer : List ℕ → List ℕ → List ℕ → Answer
match_search_answer sheet text = match_by (search_question sheet text)

abbrev pub select_search_answer : List ℕ → List ℕ → List ℕ → ℕ → Answer
select_search_answer sheet text = select_by (search_question sheet text)

abbrev pub select_search_cells : List ℕ → List ℕ → List ℕ → List ℕ → List ℕ
select_search_cells sheet text = cells_by (search_question sheet text)
