-- Two cards beside the trial cards, with the same texts under some names.
-- Assumes nothing.
use Rattle.std.specs.Prelude.{ℕ, true, List, [], ◌∷◌}
use Rattle.base.specs.Ascii.{ascii}
use Rattle.card.specs.Card.{Entry, entry}
use Rattle.card.specs.Encode.{encode_card}
use Rattle.syntax.specs.Tree.{Path, name, member}

-- beside the trial card, number 300 and with occurrences: its birthdates in the other order, one of them twice, and another title
unfoldable pub date_entries : List Entry
date_entries =
    entry 1 5 (ascii "1980")
    ∷ entry 0 0 (ascii "Night book")
    ∷ entry 1 2 (ascii "1974-06")
    ∷ entry 1 0 (ascii "1980")
    ∷ []

-- their card, with another record number, and the names under which it has the same texts
unfoldable pub date_card : List ℕ
date_card = encode_card true 300 date_entries

abbrev pub date_names : List Path
date_names = name (ascii "birthdate") ∷ []

-- beside the card with occurrences, number 301: its relations in another order, its marriages on the same dates; other names, a third
-- marriage of which only a name is known, and no title
unfoldable pub relation_entries : List Entry
relation_entries =
    entry 5 9 (ascii "Lund")
    ∷ entry 4 2 (ascii "1980")
    ∷ entry 2 3 (ascii "Observation/4")
    ∷ entry 1 3 (ascii "has-component")
    ∷ entry 1 1 (ascii "has-component")
    ∷ entry 2 2 (ascii "Observation/4")
    ∷ entry 2 1 (ascii "Observation/3")
    ∷ entry 1 2 (ascii "derived-from")
    ∷ entry 4 1 (ascii "1974-06")
    ∷ entry 5 2 (ascii "Holm")
    ∷ []

-- their card, with another record number, and the names under which it has the same texts
unfoldable pub relation_card : List ℕ
relation_card = encode_card true 301 relation_entries

abbrev pub relation_names : List Path
relation_names =
    member (ascii "related") (name (ascii "type")) ∷ member (ascii "related") (name (ascii "target")) ∷ member (ascii "marriage") (name (ascii "date")) ∷ []
