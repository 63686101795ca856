-- The rules of tests and filters in document 01's words: which cards conform, when a test lacks a meaning, and what it says.
-- Assumes nothing.
use Rattle.std.specs.Prelude.{ℕ, suc, ◌≡◌, Bool, ◌⊎◌}
use mathlib.Core.List.{List, [], Memᴰ, ◌∷◌}
use Rattle.base.specs.Ascii.{ascii}
use Rattle.base.specs.Operators.{pr, eq, ne}
use Rattle.text.specs.Fold.{fold_text}
use Rattle.base.specs.Lists.{Listed, All}
use Rattle.base.specs.Kinds.{bundle_kind}
use Rattle.sheet.specs.Sheet.{Parameter, parameter}
use Rattle.card.specs.Card.{Entry}
use Rattle.card.specs.Encode.{encode_card, WellFormedCard}
use Rattle.syntax.specs.Tree.{Path, name, member, Test, Tree, test, bracketed, join, negation}
use Rattle.syntax.specs.declared.Connective.{Connective}
use Rattle.kind.specs.declared.Relation.{Relation}
use Rattle.judge.specs.Sets.{values_at, of_occurrence}
use Rattle.kind.specs.Rules.{ReadableOnCard, TrueOrFalse, ReadableValue, Row, HasOperator, RelatesTo}

-- ---- cards

-- "each place is on the sheet and each text is readable as its kind"
pub record EntryConforms (ps : List Parameter) (e : Entry) : Type 0 where
  pub parameter : Parameter
  pub listed : Listed ps e.index parameter
  pub readable : ReadableOnCard parameter.kind e.text

-- 01: a card fits a sheet: the bytes are those of a well-formed card with the entries es, and each of them conforms
pub record Conforms (ps : List Parameter) (b : List ℕ) (es : List Entry) : Type 0 where
  pub marked : Bool
  pub number : ℕ
  pub well_formed : WellFormedCard marked number es
  pub encoded : b ≡ encode_card marked number es
  pub entries : All (EntryConforms ps) es

-- ---- names and operators

-- in c, 0 at the top and a bundle's index plus 1 among its members, the path names the parameter with the index i and the kind k
pub data NamesIn (ps : List Parameter) : ℕ → Path → ℕ → ℕ → Type 0 where
  names : {c : ℕ} {n : List ℕ} {i k : ℕ} → Listed ps i (parameter k c n) → NamesIn ps c (name n) i k
  names_member : {c j : ℕ} {b : List ℕ} {path : Path} {i k : ℕ} → Listed ps j (parameter bundle_kind c b) → NamesIn ps (suc j) path i k → NamesIn ps c (member b path) i k

-- the same from the top of the sheet, outside of every bundle
abbrev pub Names : List Parameter → Path → ℕ → ℕ → Type 0
Names ps = NamesIn ps 0

-- "its name is not on the sheet"
abbrev pub NotOnSheet : List Parameter → Path → Type 0
NotOnSheet ps path = (i k : ℕ) → Names ps path i k → ⊥

-- ---- meaning

-- "a test has no meaning on a card exactly when": the ways of it, on a card with the entries es
pub data LacksMeaning (ps : List Parameter) (es : List Entry) (t : Test) : Type 0 where
  -- "its name is not on the sheet"
  not_on_sheet : NotOnSheet ps t.path → LacksMeaning ps es t
  -- 02: "a test that 14 or 18 is given for lacks it on every card"
  bare_bundle : {i : ℕ} → Names ps t.path i bundle_kind → LacksMeaning ps es t
  -- "pr's value is neither true nor false"
  neither : t.operator ≡ pr → (TrueOrFalse t.value → ⊥) → LacksMeaning ps es t
  -- "the set is not empty and its kind lacks the operation"
  lacks_operator : {i k : ℕ} → Names ps t.path i k → (values_at i es ≡ [] → ⊥) → (HasOperator k t.operator → ⊥) → LacksMeaning ps es t
  -- "the set is not empty and .. the value is unreadable"
  unreadable : {i k : ℕ} → Names ps t.path i k → (values_at i es ≡ [] → ⊥) → (ReadableValue k t.value t.operator → ⊥) → LacksMeaning ps es t

-- ---- verdicts

-- the test says yes of entries es; its path is looked up in c, 0 at the top and a bundle's index plus 1 among its members
pub data Says (ps : List Parameter) (c : ℕ) (es : List Entry) (t : Test) : Type 0 where
  -- "pr true asks for a set that is not empty and pr false for an empty one"
  says_present : {i k : ℕ} → NamesIn ps c t.path i k → t.operator ≡ pr → fold_text t.value ≡ ascii "true" → (values_at i es ≡ [] → ⊥) → Says ps c es t
  says_absent : {i k : ℕ} → NamesIn ps c t.path i k → t.operator ≡ pr → fold_text t.value ≡ ascii "false" → values_at i es ≡ [] → Says ps c es t
  -- "some text in the set stands in the relation"
  says_relates : {i k : ℕ} {r : Relation} {x : List ℕ} → NamesIn ps c t.path i k → Row k t.operator r → Memᴰ x (values_at i es)
      → RelatesTo r x t.value → Says ps c es t
  -- "ne: some text in the set is not eq"
  says_differs : {i k : ℕ} {r : Relation} {x : List ℕ} → NamesIn ps c t.path i k → t.operator ≡ ne → Row k eq r → Memᴰ x (values_at i es)
      → (RelatesTo r x t.value → ⊥) → Says ps c es t

-- of the entries, those are kept of which P holds, in their order
pub data Keeps (P : Entry → Type 0) : List Entry → List Entry → Type 0 where
  keeps_none : Keeps P [] []
  keeps : {e : Entry} {es kept : List Entry} → P e → Keeps P es kept → Keeps P (e ∷ es) (e ∷ kept)
  leaves : {e : Entry} {es kept : List Entry} → (P e → ⊥) → Keeps P es kept → Keeps P (e ∷ es) kept

-- the filter says yes: "a filter's yes or no joins those of its items from left to right", as its tree is nested; "after not the opposite";
-- 02: square brackets after a bundle's name hold a filter on its members, "judged for each occurrence by itself; the set is the named
-- member's texts from the occurrences that say yes"
abbrev pub FilterSays : (ps : List Parameter) → (c : ℕ) → (es : List Entry) → Tree → Type 0
FilterSays ps c es (test t) = Says ps c es t
FilterSays ps c es (bracketed p b f t) =
    (j : ℕ) × Listed ps j (parameter bundle_kind c b) × (kept : List Entry)
    × Keeps (λ e. FilterSays ps (suc j) (of_occurrence e.occurrence es) f) es kept × Says ps (suc j) kept t
FilterSays ps c es (join Connective.And f g) = FilterSays ps c es f × FilterSays ps c es g
FilterSays ps c es (join Connective.Or f g) = FilterSays ps c es f ⊎ FilterSays ps c es g
FilterSays ps c es (negation f) = FilterSays ps c es f → ⊥
