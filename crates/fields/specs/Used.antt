-- The names that a filter, rows or a search string use, and two cards that hold the same texts under names.
-- Assumes nothing.
use Rattle.std.specs.Prelude.{ℕ, ◌↔◌}
use mathlib.Core.List.{List, Memᴰ, map}
use Rattle.base.specs.Lists.{All}
use Rattle.sheet.specs.Sheet.{Parameter}
use Rattle.sheet.specs.Encode.{WellFormedSheet}
use Rattle.card.specs.Card.{Entry, entry}
use Rattle.syntax.specs.Tree.{Path, name, member, Test, Tree, tests_of}
use Rattle.syntax.specs.Grammar.{Spells}
use Rattle.judge.specs.Rules.{Names, Conforms, LacksMeaning}
use Rattle.query.specs.Spelling.{Alternative, Query, alternatives_of}

-- ---- names

-- "the names a filter uses": those of its tests; of `b[f].m` the member m of the bundle b and the members that f names, no others
abbrev pub names_of : Tree → List Path
names_of f = map (λ (t : Test). t.path) (tests_of f)

-- and those that a search string uses
abbrev pub alternative_names : List Alternative → List Path
alternative_names list = map (λ (a : Alternative). name a.name) list

-- the names that a search string uses: those of all its alternatives
abbrev pub query_names : Query → List Path
query_names q = alternative_names (alternatives_of q)

-- ---- cards

-- the entries hold the text x under the parameter with the index i, in the occurrence o
abbrev pub Holds : List Entry → (i o : ℕ) → List ℕ → Type 0
Holds es i o x = Memᴰ (entry i o x) es

-- the same texts, "in whichever order" and however often; "outside bundles the occurrence is ignored"
abbrev pub SameTexts : (es es' : List Entry) → ℕ → Type 0
SameTexts es es' i = (x : List ℕ) → ((o : ℕ) × Holds es i o x) ↔ ((o : ℕ) × Holds es' i o x)

-- the same texts in the same occurrences
abbrev pub SameOccurrences : (es es' : List Entry) → ℕ → Type 0
SameOccurrences es es' i = (o : ℕ) (x : List ℕ) → Holds es i o x ↔ Holds es' i o x

-- the same texts under what the path names, "bundles and occurrences included"; a path that names nothing asks for nothing
pub data SameUnder (ps : List Parameter) (es es' : List Entry) : Path → Type 0 where
  same_name : {n : List ℕ} → ((i k : ℕ) → Names ps (name n) i k → SameTexts es es' i) → SameUnder ps es es' (name n)
  same_member : {b : List ℕ} {path : Path} → ((i k : ℕ) → Names ps (member b path) i k → SameOccurrences es es' i) → SameUnder ps es es' (member b path)

-- under each of the names
abbrev pub Alike : List Parameter → List Path → (es es' : List Entry) → Type 0
Alike ps paths es es' = All (SameUnder ps es es') paths

-- "two cards that both fit the sheet, and hold the same texts under the names a filter uses, .. get the same verdict": of a meaning of
-- filters, on a filter of which every test has a meaning on the card
abbrev pub ByNames : (List Parameter → List Entry → Tree → Type 0) → Type 0
ByNames Says =
    (ps : List Parameter) → WellFormedSheet ps → (card card' : List ℕ) (es es' : List Entry) → Conforms ps card es → Conforms ps card' es'
    → (f : Tree) → All (λ t. LacksMeaning ps es t → ⊥) (tests_of f) → Alike ps (names_of f) es es' → Says ps es f ↔ Says ps es' f

-- the text is a filter that uses none but these names, or no filter
abbrev pub UsesOnly : List Path → List ℕ → Type 0
UsesOnly paths text = (f : Tree) → Spells text f → All (λ path. Memᴰ path paths) (names_of f)
