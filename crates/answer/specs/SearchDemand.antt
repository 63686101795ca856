-- The letter's third demand over the alternatives of a search string.
-- Assumes nothing.
use Rattle.std.specs.Prelude.{ℕ, List}
use Rattle.sheet.specs.Sheet.{Parameter}
use Rattle.sheet.specs.Encode.{SheetBlock}
use Rattle.query.specs.Spelling.{Alternative, Query, alternatives_of, SpellsQuery}
use Rattle.search.specs.Rules.{LacksMeaning, AlternativeLine, QuerySays}
use Rattle.refusal.specs.Answers.{Answer}
use Rattle.answer.specs.Demand.{TestRules, Demand}

-- an alternative is refused at its pair's first byte
abbrev pub search_tests : List Parameter → TestRules Alternative
search_tests ps = record { parameters = ps; place = λ a. a.at; Lacks = LacksMeaning ps; Line = AlternativeLine ps }

-- what check answers to a query, and match of each card, on a sheet with the parameters ps
abbrev pub SearchDemand : List Parameter → Query → (check : Answer) → (match : List ℕ → Answer) → Type 0
SearchDemand ps q = Demand (search_tests ps) (alternatives_of q) (λ es. QuerySays ps es q)

-- a check and a match meet it: "demand 3 and check's count take alternatives for tests, with a string that none of 10, 50 and 51
-- refuses as the filter, and the pair's first byte as the place"
abbrev pub MeetsSearchDemand : (check : List ℕ → List ℕ → Answer) → (match : List ℕ → List ℕ → List ℕ → Answer) → Type 0
MeetsSearchDemand check match =
    (sheet text : List ℕ) (s : SheetBlock sheet) (q : Query) → SpellsQuery text q → SearchDemand s.parameters q (check sheet text) (match sheet text)
