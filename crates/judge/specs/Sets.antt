-- Paths on a sheet, the texts of a card under them, and which cards conform to a sheet.
-- Assumes nothing.
use Rattle.std.specs.Prelude.{ℕ, Bool, true, cond, ◌&&◌, List, [], ◌∷◌, eqb, get_or, Option, Some, None}
use Rattle.sheet.specs.Sheet.{Parameter, kind_at}
use Rattle.sheet.specs.Find.{find, enter}
use Rattle.sheet.specs.declared.Found.{Found}
use Rattle.card.specs.Card.{Entry}
use Rattle.syntax.specs.Tree.{Path, name, member}
use Rattle.kind.specs.Readable.{card_readable}

-- index and kind of the parameter that a path names, looked up in c
unfoldable pub lookup : List Parameter → ℕ → Path → Option Found
lookup ps c (name n) = find c n ps
lookup ps c (member b path) = lookup ps (enter ps c b) path

-- the entry's text belongs to the parameter with the index
abbrev pub is_under : ℕ → Entry → Bool
is_under i e = eqb e.index i

-- 01: the set of a name: "the card's texts under it"
unfoldable pub values_at : ℕ → List Entry → List (List ℕ)
values_at i [] = []
values_at i (e ∷ es) = cond (is_under i e) (e.text ∷ values_at i es) (values_at i es)

-- the entries that pass a test, in their order
unfoldable pub keep : (Entry → Bool) → List Entry → List Entry
keep p [] = []
keep p (e ∷ es) = cond (p e) (e ∷ keep p es) (keep p es)

-- 02: the entries of one occurrence
unfoldable pub of_occurrence : ℕ → List Entry → List Entry
of_occurrence o = keep (λ (e : Entry). eqb e.occurrence o)

-- which entries of a card count: those of one occurrence, or where it is None all
abbrev pub Chosen : Type 0
Chosen = Option ℕ

-- whether entries of an occurrence count, and those that do
abbrev pub counts : Chosen → ℕ → Bool
counts None o = true
counts (Some c) o = eqb o c

unfoldable pub chosen_of : Chosen → List Entry → List Entry
chosen_of c = keep (λ (e : Entry). counts c e.occurrence)

-- "each place is on the sheet and each text is readable as its kind": past the last parameter stands 0, as which no text is readable
unfoldable pub entry_conforms : List Parameter → Entry → Bool
entry_conforms ps e = card_readable (kind_at e.index ps) e.text

-- 01: a card fits a sheet, where it is well formed
unfoldable pub conforms : List Parameter → List Entry → Bool
conforms ps [] = true
conforms ps (e ∷ es) = entry_conforms ps e && conforms ps es

-- the same from a table of the kinds by index, where 0 is no kind
unfoldable pub conforms_to : List ℕ → List Entry → Bool
conforms_to kinds [] = true
conforms_to kinds (e ∷ es) = card_readable (get_or kinds e.index 0) e.text && conforms_to kinds es
