-- Explanations on document 01's trial card: 0, 1 and 2 in the cells of each row, and later cells as they were.
-- Assumes nothing.
use Rattle.std.specs.Prelude.{ℕ, List, [], ◌∷◌}
use Rattle.base.specs.Ascii.{ascii}
use Rattle.refusal.specs.Answers.{Answer, yes, no, refused}

-- a filter, what explain gives, and the list that it leaves
pub record Row : Type 0 where
  pub filter : List ℕ
  pub gives : Answer
  pub leaves : List ℕ

abbrev pub row : List ℕ → Answer → List ℕ → Row
row filter gives leaves = record { filter = filter; gives = gives; leaves = leaves }

-- the list that is lent
abbrev pub lent : List ℕ
lent = 9 ∷ 9 ∷ 9 ∷ []

-- "0 spared, 1 decides by its yes, 2 decides by its no", "going from the last test to the first"; "later cells stay"
unfoldable pub explain_rows : List Row
explain_rows =
    row (ascii "title co book") yes (1 ∷ 9 ∷ 9 ∷ [])
    ∷ row (ascii "pages gt 20") no (2 ∷ 9 ∷ 9 ∷ [])
    ∷ row (ascii "not (title co book)") no (1 ∷ 9 ∷ 9 ∷ [])
    ∷ row (ascii "not (pages gt 20)") yes (2 ∷ 9 ∷ 9 ∷ [])
    ∷ row (ascii "title co book or pages gt 20") yes (1 ∷ 0 ∷ 9 ∷ [])
    ∷ row (ascii "pages gt 20 or title co book") yes (0 ∷ 1 ∷ 9 ∷ [])
    ∷ row (ascii "title co book or title co ward") yes (1 ∷ 0 ∷ 9 ∷ [])
    ∷ row (ascii "title co book and pages gt 20") no (0 ∷ 2 ∷ 9 ∷ [])
    ∷ row (ascii "pages gt 20 and pages gt 30") no (2 ∷ 0 ∷ 9 ∷ [])
    ∷ row (ascii "pages gt 20 or pages gt 30") no (2 ∷ 2 ∷ 9 ∷ [])
    ∷ row (ascii "title co book and pages ge 12") yes (1 ∷ 1 ∷ 9 ∷ [])
    ∷ row (ascii "title pr true or pages gt 20 and pages gt 30") no (0 ∷ 0 ∷ 2 ∷ [])
    ∷ row (ascii "title co book or pages gt 20 or pages gt 30 or pages gt 40") (refused 33 4) lent
    ∷ row (ascii "code gt 5") (refused 16 0) lent
    ∷ []
