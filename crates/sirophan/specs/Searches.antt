-- A table of search strings, each with its sheet and its card: document 01's trial card, the card with occurrences, the one with periods, and
-- one whose texts hold the bytes that search strings are cut at.
-- Assumes nothing.
use Rattle.std.specs.Prelude.{ℕ, List, [], ◌∷◌, ◌++◌, replicate}
use Prim.Native.Char.{code}
use Rattle.base.specs.Ascii.{ascii}
use Rattle.sheet.specs.Trial.{trial_sheet, bundle_sheet, stay_sheet}
use Rattle.card.specs.Trial.{trial_card, bundle_card, stay_card}
use Rattle.refusal.specs.Answers.{Answer, yes, no, refused}

-- a search string, and what match gives on the sheet and the card
pub record SearchRow : Type 0 where
  pub sheet : List ℕ
  pub card : List ℕ
  pub query : List ℕ
  pub gives : Answer

-- the card's 512 bytes: the number 11, 9 entries, 450 zeros and the check sum
unfoldable pub marked_card : List ℕ
marked_card =
    (0x43 ∷ 11 ∷ 0 ∷ 0 ∷ 0 ∷ 9 ∷ [])
    ++ (0 ∷ 3 ∷ ascii "a,b")
    ++ (0 ∷ 2 ∷ ascii "$d")
    ++ (0 ∷ 2 ∷ ascii "\\e")
    ++ (0 ∷ 3 ∷ ascii "1+1")
    ++ (0 ∷ 3 ∷ ascii "%2C")
    ++ (0 ∷ 11 ∷ ascii "Ward book 4")
    ++ (2 ∷ 5 ∷ ascii "s|a|b")
    ++ (2 ∷ 1 ∷ ascii "c")
    ++ (3 ∷ 4 ∷ ascii "12.0")
    ++ replicate 450 0
    ++ (103 ∷ 110 ∷ 1 ∷ 0 ∷ [])

-- on each of the sheets and cards
abbrev pub marked : List ℕ → Answer → SearchRow
marked query gives = record { sheet = trial_sheet; card = marked_card; query = query; gives = gives }

abbrev pub trial : List ℕ → Answer → SearchRow
trial query gives = record { sheet = trial_sheet; card = trial_card; query = query; gives = gives }

abbrev pub bundles : List ℕ → Answer → SearchRow
bundles query gives = record { sheet = bundle_sheet; card = bundle_card; query = query; gives = gives }

abbrev pub stays : List ℕ → Answer → SearchRow
stays query gives = record { sheet = stay_sheet; card = stay_card; query = query; gives = gives }

unfoldable pub search_rows : List SearchRow
search_rows =
    -- a comma behind a backslash is plain, another cuts
    marked (ascii "title=a\\,b") yes
    ∷ marked (ascii "title=x,a") yes
    ∷ marked (ascii "title=x\\,a") no
    -- a bar behind a backslash is plain, another splits a token, and the first does
    ∷ marked (ascii "code=a\\|b") yes
    ∷ marked (ascii "code=a|b") no
    ∷ marked (ascii "code=s|a\\|b") yes
    ∷ marked (ascii "code=s|a|b") yes
    ∷ marked (ascii "code=s\\|a|b") no
    -- a dollar sign and a backslash behind a backslash; any other backslash is itself
    ∷ marked (ascii "title=\\$d") yes
    ∷ marked (ascii "title=$d") yes
    ∷ marked (ascii "title=\\\\e") yes
    ∷ marked (ascii "title=\\e") yes
    ∷ marked (ascii "title=x\\\\,$d") yes
    -- "+" is a space and % with two hex digits a byte, decoded once, before the cut at commas and behind that at "&" and "="
    ∷ marked (ascii "title=x%2C$d") yes
    ∷ marked (ascii "title=a%5C,b") yes
    ∷ marked (ascii "title=a%5c%2cb") yes
    ∷ marked (ascii "title=Ward+book") yes
    ∷ marked (ascii "title=1%2B1") yes
    ∷ marked (ascii "title=1+1") no
    ∷ marked (ascii "title=%252C") yes
    ∷ marked (ascii "t%69tle=Ward") yes
    ∷ marked (ascii "title=x%26title%3DWard") no
    -- the four forms of a token, and alternatives that are empty
    ∷ marked (ascii "code=c") yes
    ∷ marked (ascii "code=s|") yes
    ∷ marked (ascii "code=|c") yes
    ∷ marked (ascii "code=|b") no
    ∷ marked (ascii "title=") yes
    ∷ marked (ascii "title=x,") yes
    ∷ marked (ascii "pages=12,") (refused 17 0)
    ∷ marked (ascii "code=|") (refused 17 0)
    -- systems are not shortened
    ∷ trial (ascii "code=http://loinc.org|1234-5") yes
    ∷ trial (ascii "code=LOINC|1234-5") no
    ∷ trial (ascii "code=1234-5") yes
    ∷ trial (ascii "code=|1234-5") no
    -- each prefix; none is eq
    ∷ trial (ascii "pages=12") yes
    ∷ trial (ascii "pages=eq12") yes
    ∷ trial (ascii "pages=ne12") no
    ∷ trial (ascii "pages=gt11") yes
    ∷ trial (ascii "pages=lt12") no
    ∷ trial (ascii "pages=ge12") yes
    ∷ trial (ascii "pages=le11") no
    ∷ trial (ascii "birthdate=sa1979") yes
    ∷ trial (ascii "birthdate=sa1980") no
    ∷ trial (ascii "birthdate=eb1974-07") yes
    ∷ trial (ascii "birthdate=eb1974-06") no
    -- a prefix without a value, and none for what has none
    ∷ trial (ascii "pages=sa5") (refused 16 0)
    ∷ trial (ascii "pages=eb5") (refused 16 0)
    ∷ trial (ascii "pages=ge") (refused 17 0)
    ∷ trial (ascii "pages=ap5") (refused 17 0)
    ∷ trial (ascii "pages=abc,sa5") (refused 17 0)
    ∷ trial (ascii "title=ge") no
    ∷ trial (ascii "subject=PATIENT/17") yes
    ∷ trial (ascii "subject=Patient") no
    -- pairs are all to be met, and alternatives are not
    ∷ trial (ascii "birthdate=ge1974&code=http://loinc.org|9") no
    ∷ trial (ascii "pages=1,12&title=Ward") yes
    ∷ trial (ascii "pages=ne12&title=Ward") no
    -- 50 at its pair, before 51 and 14; an empty name, and a name that is not on the sheet
    ∷ trial (ascii "pages=12&title") (refused 50 9)
    ∷ trial (ascii "pages=12&title=%4") (refused 50 9)
    ∷ trial (ascii "pages=%zz") (refused 50 0)
    ∷ trial (ascii "ward=1&title") (refused 50 7)
    ∷ trial (ascii "pages=12&") (refused 50 9)
    ∷ trial (ascii "pages=12&ward=1") (refused 14 9)
    ∷ trial (ascii "=x") (refused 14 0)
    ∷ trial (ascii "") (refused 10 0)
    -- bundles and members count as not on the sheet
    ∷ bundles (ascii "related=x") (refused 14 0)
    ∷ bundles (ascii "title=Ward&type=has-component") (refused 14 11)
    ∷ bundles (ascii "title=Ward") yes
    -- periods
    ∷ stays (ascii "stay=1974") yes
    ∷ stays (ascii "since=gt1999") yes
    ∷ stays (ascii "since=eq1974") no
    ∷ stays (ascii "until=sa1900") no
    ∷ stays (ascii "stay=1974/") (refused 17 0)
    -- "at most .. 32 alternatives in all"
    ∷ trial (ascii "title=" ++ replicate 31 (code ",")) yes
    ∷ trial (ascii "title=" ++ replicate 32 (code ",")) (refused 51 0)
    ∷ trial (ascii "ward=" ++ replicate 32 (code ",")) (refused 51 0)
    ∷ []
