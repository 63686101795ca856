-- Document 01's trial card: the rows of its table that are marked to be proved; and tables for a card with occurrences and for one with
-- periods.
-- Assumes nothing.
use Rattle.std.specs.Prelude.{ℕ, List, [], ◌∷◌}
use Rattle.base.specs.Ascii.{ascii}
use Rattle.base.specs.Operators.{co, gt}
use Rattle.syntax.specs.Tree.{Test, name}
use Rattle.refusal.specs.Answers.{Answer, yes, no, refused}

-- a filter, and what match gives on the table's card
pub record Row : Type 0 where
  pub filter : List ℕ
  pub gives : Answer

-- a filter and the answer that it gives
abbrev pub row : List ℕ → Answer → Row
row filter gives = record { filter = filter; gives = gives }

-- document 01's trial table, on its sheet and card
unfoldable pub trial_rows : List Row
trial_rows =
    row (ascii "title co \"BOOK\"") yes
    ∷ row (ascii "birthdate le 1974-06") yes
    ∷ row (ascii "birthdate lt 1974-06") no
    ∷ row (ascii "birthdate eb 1974-07") yes
    ∷ row (ascii "birthdate eq 1974") yes
    ∷ row (ascii "birthdate ne 1980") yes
    ∷ row (ascii "not (birthdate eq 1980)") no
    ∷ row (ascii "pages eq 12") yes
    ∷ row (ascii "pages ge 12") yes
    ∷ row (ascii "pages co 12.04") yes
    ∷ row (ascii "pages co 12.05") no
    ∷ row (ascii "code eq LOINC|1234-5") yes
    ∷ row (ascii "title pr true or pages gt 20 and pages gt 30") no
    ∷ row (ascii "code gt 5") (refused 16 0)
    ∷ []

-- 02's brackets, on the sheet with bundles and card 8; the first two filters are the R4 page's

unfoldable pub bundle_rows : List Row
bundle_rows =
    row (ascii "related[type eq \"has-component\"].target re Observation/4") yes
    ∷ row (ascii "related[type eq \"has-component\"].target pr false") no
    ∷ row (ascii "related[type eq \"derived-from\"].target re Observation/3") no
    ∷ row (ascii "related[type eq \"replaced-by\"].target pr false") yes
    ∷ row (ascii "related[ not (type eq has-component) or target re Observation/3 ].type eq derived-from") yes
    ∷ row (ascii "marriage[date lt 1975].name eq Berg") yes
    ∷ row (ascii "marriage[date lt 1975].name eq Lund") no
    ∷ row (ascii "marriage[date ge 1970].name eq Lund and title co book") yes
    ∷ row (ascii "related eq has-component") (refused 18 0)
    ∷ row (ascii "title co x or related ap 1") (refused 18 14)
    ∷ row (ascii "target re Observation/4") (refused 14 0)
    ∷ row (ascii "title[type eq x].target re Observation/4") (refused 14 0)
    ∷ row (ascii "related[date eq 1974].target re Observation/4") (refused 14 8)
    ∷ row (ascii "related[type gt 5].target ap Observation/4") (refused 15 0)
    ∷ row (ascii "related[type gt 5].target re Observation/4") (refused 16 8)
    ∷ row (ascii "marriage[date lt never].name eq Berg") (refused 17 9)
    ∷ row (ascii "related[type eq x] .target re Observation/4") (refused 11 18)
    ∷ []

-- 02's periods, on the sheet with periods and card 9: stay is 1974-06/1974, since is 1974/ and until is /1974-06

unfoldable pub stay_rows : List Row
stay_rows =
    row (ascii "stay eq 1974") yes
    ∷ row (ascii "stay eq 1974-06") no
    ∷ row (ascii "stay co 1974-12") yes
    ∷ row (ascii "stay eb 1975") yes
    ∷ row (ascii "since eq 1974") no
    ∷ row (ascii "since ne 1974") yes
    ∷ row (ascii "since gt 1999") yes
    ∷ row (ascii "since le 1974") no
    ∷ row (ascii "since co 1980") yes
    ∷ row (ascii "since eb 1999") no
    ∷ row (ascii "since sa 1973") yes
    ∷ row (ascii "until eq 1974") no
    ∷ row (ascii "until lt 1900") yes
    ∷ row (ascii "until ge 1974-06") no
    ∷ row (ascii "until eb 1974-07") yes
    ∷ row (ascii "until po 1974-07") no
    ∷ row (ascii "until sa 1900") no
    ∷ row (ascii "since sw 1974") (refused 16 0)
    ∷ row (ascii "since eq 1974/") (refused 17 0)
    ∷ []

-- ---- two filters that show which programs the demand on check and match shuts out

-- a test that has a meaning on every card that conforms to the trial sheet
unfoldable pub title_test : Test
title_test = record { at = 0; path = name (ascii "title"); operator = co; value = ascii "BOOK" }

-- a test that lacks one where there is a code
unfoldable pub code_test : Test
code_test = record { at = 0; path = name (ascii "code"); operator = gt; value = ascii "5" }
