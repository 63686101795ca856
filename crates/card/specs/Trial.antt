-- Document 01's trial card, number 7: title, birthdate twice, code, pages and subject; a card with occurrences; and one with periods.
-- Assumes nothing.
use Rattle.std.specs.Prelude.{ℕ, List, [], ◌∷◌, ◌++◌, replicate}
use Rattle.base.specs.Ascii.{ascii}
use Rattle.card.specs.Card.{Entry, entry}

unfoldable pub trial_entries : List Entry
trial_entries =
    entry 0 0 (ascii "Ward book 4")
    ∷ entry 1 0 (ascii "1974-06")
    ∷ entry 1 0 (ascii "1980")
    ∷ entry 2 0 (ascii "http://loinc.org|1234-5")
    ∷ entry 3 0 (ascii "12.0")
    ∷ entry 4 0 (ascii "Patient/17")
    ∷ []

-- its 512 bytes: the number 7, 6 entries, 431 zeros and the check sum
unfoldable pub trial_card : List ℕ
trial_card =
    (0x43 ∷ 7 ∷ 0 ∷ 0 ∷ 0 ∷ 6 ∷ [])
    ++ (0 ∷ 11 ∷ ascii "Ward book 4")
    ++ (1 ∷ 7 ∷ ascii "1974-06")
    ++ (1 ∷ 4 ∷ ascii "1980")
    ++ (2 ∷ 23 ∷ ascii "http://loinc.org|1234-5")
    ++ (3 ∷ 4 ∷ ascii "12.0")
    ++ (4 ∷ 10 ∷ ascii "Patient/17")
    ++ replicate 431 0
    ++ (247 ∷ 2 ∷ 3 ∷ 0 ∷ [])

-- a card with occurrences, number 8: three relations, two marriages and a title
unfoldable pub bundle_entries : List Entry
bundle_entries =
    entry 1 1 (ascii "has-component")
    ∷ entry 2 1 (ascii "Observation/3")
    ∷ entry 1 2 (ascii "derived-from")
    ∷ entry 2 2 (ascii "Observation/4")
    ∷ entry 1 3 (ascii "has-component")
    ∷ entry 2 3 (ascii "Observation/4")
    ∷ entry 4 1 (ascii "1974-06")
    ∷ entry 5 1 (ascii "Berg")
    ∷ entry 4 2 (ascii "1980")
    ∷ entry 5 2 (ascii "Lund")
    ∷ entry 6 0 (ascii "Ward book 4")
    ∷ []

-- its 512 bytes: the number 8, 11 entries, 362 zeros and the check sum
unfoldable pub bundle_card : List ℕ
bundle_card =
    (0x44 ∷ 8 ∷ 0 ∷ 0 ∷ 0 ∷ 11 ∷ [])
    ++ (1 ∷ 1 ∷ 13 ∷ ascii "has-component")
    ++ (2 ∷ 1 ∷ 13 ∷ ascii "Observation/3")
    ++ (1 ∷ 2 ∷ 12 ∷ ascii "derived-from")
    ++ (2 ∷ 2 ∷ 13 ∷ ascii "Observation/4")
    ++ (1 ∷ 3 ∷ 13 ∷ ascii "has-component")
    ++ (2 ∷ 3 ∷ 13 ∷ ascii "Observation/4")
    ++ (4 ∷ 1 ∷ 7 ∷ ascii "1974-06")
    ++ (5 ∷ 1 ∷ 4 ∷ ascii "Berg")
    ++ (4 ∷ 2 ∷ 4 ∷ ascii "1980")
    ++ (5 ∷ 2 ∷ 4 ∷ ascii "Lund")
    ++ (6 ∷ 0 ∷ 11 ∷ ascii "Ward book 4")
    ++ replicate 362 0
    ++ (169 ∷ 40 ∷ 11 ∷ 0 ∷ [])

-- a card with periods, number 9: one with both ends, one without its end and one without its start
unfoldable pub stay_entries : List Entry
stay_entries =
    entry 0 0 (ascii "1974-06/1974")
    ∷ entry 1 0 (ascii "1974/")
    ∷ entry 2 0 (ascii "/1974-06")
    ∷ []

-- its 512 bytes: the number 9, 3 entries, 471 zeros and the check sum
unfoldable pub stay_card : List ℕ
stay_card =
    (0x43 ∷ 9 ∷ 0 ∷ 0 ∷ 0 ∷ 3 ∷ [])
    ++ (0 ∷ 12 ∷ ascii "1974-06/1974")
    ++ (1 ∷ 5 ∷ ascii "1974/")
    ++ (2 ∷ 8 ∷ ascii "/1974-06")
    ++ replicate 471 0
    ++ (53 ∷ 116 ∷ 0 ∷ 0 ∷ [])
