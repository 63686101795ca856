-- A card at the edges of the rules, on the trial sheet: each escape, each short name of a system, an accented letter, spans that touch,
-- half units, and each operator by its word; and a card with an empty text.
-- Assumes nothing.
use Rattle.std.specs.Prelude.{ℕ, List, [], ◌∷◌, ◌++◌, replicate}
use Rattle.base.specs.Ascii.{ascii}
use Rattle.refusal.specs.Answers.{yes, no, refused}
use Rattle.sirophan.specs.Trial.{Row, row}

-- the card's 512 bytes: the number 10, 11 entries, zeros and the check sum
unfoldable pub edge_card : List ℕ
edge_card =
    (0x43 ∷ 10 ∷ 0 ∷ 0 ∷ 0 ∷ 11 ∷ [])
    ++ (0 ∷ 8 ∷ 0x22 ∷ 0x5c ∷ 0x2f ∷ 0x08 ∷ 0x0c ∷ 0x0a ∷ 0x0d ∷ 0x09 ∷ [])
    ++ (0 ∷ 11 ∷ ascii "Ward book 4")
    ++ (1 ∷ 7 ∷ ascii "1974-06")
    ++ (2 ∷ 18 ∷ ascii "http://loinc.org|1")
    ++ (2 ∷ 24 ∷ ascii "http://snomed.info/sct|2")
    ++ (2 ∷ 45 ∷ ascii "http://www.nlm.nih.gov/research/umls/rxnorm|3")
    ++ (2 ∷ 27 ∷ ascii "http://unitsofmeasure.org|4")
    ++ (2 ∷ 1 ∷ ascii "5")
    ++ (3 ∷ 4 ∷ ascii "12.0")
    ++ (4 ∷ 10 ∷ ascii "Patient/17")
    ++ (0 ∷ 6 ∷ ascii "Str" ++ (0xc3 ∷ 0xb6 ∷ ascii "m"))
    ++ replicate 319 0
    ++ (85 ∷ 36 ∷ 23 ∷ 0 ∷ [])

-- each rule at its edge: touching spans, half units, each namespace, each escape, each operator's word
unfoldable pub edge_rows : List Row
edge_rows =
    row (ascii "title eq \"\\\"\\\\\\/\\b\\f\\n\\r\\t\"") yes
    ∷ row (ascii "title eq \"ward BOOK 4\"") yes
    -- 02: "a search for "STRÖM" misses "Ström""
    ∷ row (ascii "title eq \"STR" ++ (0xc3 ∷ 0x96 ∷ ascii "M\"")) yes
    ∷ row (ascii "title eq Strom") no
    ∷ row (ascii "title sw ward") yes
    ∷ row (ascii "title sw book") no
    ∷ row (ascii "title ew \"k 4\"") yes
    ∷ row (ascii "title ew book") no
    ∷ row (ascii "title co book") yes
    ∷ row (ascii "title co ward4") no
    ∷ row (ascii "title ne \"ward book 4\"") yes
    ∷ row (ascii "title pr true") yes
    ∷ row (ascii "title pr false") no
    ∷ row (ascii "birthdate eq 1974-06") yes
    ∷ row (ascii "birthdate ne 1974-06") no
    ∷ row (ascii "birthdate gt 1974-05") yes
    ∷ row (ascii "birthdate gt 1974-06") no
    ∷ row (ascii "birthdate gt 1974") no
    ∷ row (ascii "birthdate lt 1974-07") yes
    ∷ row (ascii "birthdate lt 1974-06") no
    ∷ row (ascii "birthdate lt 1974") no
    ∷ row (ascii "birthdate ge 1974-06") yes
    ∷ row (ascii "birthdate ge 1974-07") no
    ∷ row (ascii "birthdate le 1974-06") yes
    ∷ row (ascii "birthdate le 1974-05") no
    ∷ row (ascii "birthdate sa 1974-05") yes
    ∷ row (ascii "birthdate sa 1974-06") no
    ∷ row (ascii "birthdate eb 1974-07") yes
    ∷ row (ascii "birthdate eb 1974-06") no
    ∷ row (ascii "birthdate po 1974") yes
    ∷ row (ascii "birthdate po 1974-05") no
    ∷ row (ascii "birthdate po 1974-07") no
    ∷ row (ascii "birthdate co 1974-06") yes
    ∷ row (ascii "birthdate co 1974") no
    ∷ row (ascii "pages eq 12") yes
    ∷ row (ascii "pages eq 12.0") yes
    ∷ row (ascii "pages eq 12.00") no
    ∷ row (ascii "pages ne 12") no
    ∷ row (ascii "pages gt 11.999") yes
    ∷ row (ascii "pages gt 12") no
    ∷ row (ascii "pages lt 12.001") yes
    ∷ row (ascii "pages lt 12") no
    ∷ row (ascii "pages ge 12") yes
    ∷ row (ascii "pages ge 12.001") no
    ∷ row (ascii "pages le 12") yes
    ∷ row (ascii "pages le 11.999") no
    ∷ row (ascii "pages co 11.95") yes
    ∷ row (ascii "pages co 11.949") no
    ∷ row (ascii "pages co 12.049") yes
    ∷ row (ascii "pages co 12.05") no
    ∷ row (ascii "code eq LOINC|1") yes
    ∷ row (ascii "code eq Snomed|2") yes
    ∷ row (ascii "code eq RxNorm|3") yes
    ∷ row (ascii "code eq UCUM|4") yes
    ∷ row (ascii "code eq loinc|2") no
    ∷ row (ascii "code eq 3") yes
    ∷ row (ascii "code eq |5") yes
    ∷ row (ascii "code eq |1") no
    ∷ row (ascii "code eq ucum|") yes
    ∷ row (ascii "code eq http://loinc.org|") yes
    ∷ row (ascii "subject re patient/17") yes
    ∷ row (ascii "subject re patient/1") no
    ∷ row (ascii "title ap x") (refused 15 0)
    ∷ row (ascii "title ss x") (refused 15 0)
    ∷ row (ascii "title sb x") (refused 15 0)
    ∷ row (ascii "title in x") (refused 15 0)
    ∷ row (ascii "title ni x") (refused 15 0)
    ∷ row (ascii "subject eq x") (refused 16 0)
    ∷ row (ascii "pages sa 12") (refused 16 0)
    ∷ row (ascii "title po x") (refused 16 0)
    ∷ []

-- a card whose only text is empty, under title: the number 12, one entry, 500 zeros and the check sum
unfoldable pub empty_card : List ℕ
empty_card = (0x43 ∷ 12 ∷ 0 ∷ 0 ∷ 0 ∷ 1 ∷ []) ++ (0 ∷ 0 ∷ []) ++ replicate 500 0 ++ (97 ∷ 0 ∷ 0 ∷ 0 ∷ [])

-- an empty text is a text: the set is not empty
unfoldable pub empty_rows : List Row
empty_rows =
    row (ascii "title pr true") yes
    ∷ row (ascii "title pr false") no
    ∷ row (ascii "title eq \"\"") yes
    ∷ row (ascii "title ne \"\"") no
    ∷ row (ascii "title ne x") yes
    ∷ row (ascii "title co x") no
    ∷ row (ascii "pages pr true") no
    ∷ []
