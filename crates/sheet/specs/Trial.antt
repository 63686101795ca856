-- Document 01's trial sheet: title string, birthdate date, code token, pages number, subject reference; a sheet with bundles; and one with
-- periods.
-- Assumes nothing.
use Rattle.std.specs.Prelude.{ℕ, List, [], ◌∷◌, ◌++◌, replicate}
use Rattle.base.specs.Ascii.{ascii}
use Rattle.sheet.specs.Sheet.{Parameter, parameter}

-- the parameters of document 01's trial sheet
unfoldable pub trial_parameters : List Parameter
trial_parameters =
    parameter 1 0 (ascii "title")
    ∷ parameter 3 0 (ascii "birthdate")
    ∷ parameter 4 0 (ascii "code")
    ∷ parameter 2 0 (ascii "pages")
    ∷ parameter 5 0 (ascii "subject")
    ∷ []

-- its 512 bytes: 5 parameters, 466 zeros and the check sum
unfoldable pub trial_sheet : List ℕ
trial_sheet =
    (0x50 ∷ 5 ∷ [])
    ++ (1 ∷ 5 ∷ ascii "title")
    ++ (3 ∷ 9 ∷ ascii "birthdate")
    ++ (4 ∷ 4 ∷ ascii "code")
    ++ (2 ∷ 5 ∷ ascii "pages")
    ++ (5 ∷ 7 ∷ ascii "subject")
    ++ replicate 466 0
    ++ (252 ∷ 39 ∷ 1 ∷ 0 ∷ [])

-- a sheet with bundles: related with type and target, marriage with date and name; and title
unfoldable pub bundle_parameters : List Parameter
bundle_parameters =
    parameter 7 0 (ascii "related")
    ∷ parameter 4 1 (ascii "type")
    ∷ parameter 5 1 (ascii "target")
    ∷ parameter 7 0 (ascii "marriage")
    ∷ parameter 3 4 (ascii "date")
    ∷ parameter 1 4 (ascii "name")
    ∷ parameter 1 0 (ascii "title")
    ∷ []

-- its 512 bytes: 7 parameters, 447 zeros and the check sum
unfoldable pub bundle_sheet : List ℕ
bundle_sheet =
    (0x51 ∷ 7 ∷ [])
    ++ (7 ∷ 0 ∷ 7 ∷ ascii "related")
    ++ (4 ∷ 1 ∷ 4 ∷ ascii "type")
    ++ (5 ∷ 1 ∷ 6 ∷ ascii "target")
    ++ (7 ∷ 0 ∷ 8 ∷ ascii "marriage")
    ++ (3 ∷ 4 ∷ 4 ∷ ascii "date")
    ++ (1 ∷ 4 ∷ 4 ∷ ascii "name")
    ++ (1 ∷ 0 ∷ 5 ∷ ascii "title")
    ++ replicate 447 0
    ++ (102 ∷ 15 ∷ 2 ∷ 0 ∷ [])

-- a sheet with periods: stay, since and until; and title
unfoldable pub stay_parameters : List Parameter
stay_parameters =
    parameter 6 0 (ascii "stay")
    ∷ parameter 6 0 (ascii "since")
    ∷ parameter 6 0 (ascii "until")
    ∷ parameter 1 0 (ascii "title")
    ∷ []

-- its 512 bytes: 4 parameters, 479 zeros and the check sum
unfoldable pub stay_sheet : List ℕ
stay_sheet =
    (0x50 ∷ 4 ∷ [])
    ++ (6 ∷ 4 ∷ ascii "stay")
    ++ (6 ∷ 5 ∷ ascii "since")
    ++ (6 ∷ 5 ∷ ascii "until")
    ++ (1 ∷ 5 ∷ ascii "title")
    ++ replicate 479 0
    ++ (40 ∷ 141 ∷ 0 ∷ 0 ∷ [])
