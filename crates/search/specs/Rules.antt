-- The rules of alternatives in the papers' words: when one lacks a meaning, which lines of the table hold for it, and what a query says.
-- Assumes nothing.
use Rattle.std.specs.Prelude.{ℕ, ◌≡◌}
use mathlib.Core.List.{List, [], Memᴰ}
use Rattle.base.specs.Kinds.{token, bundle_kind}
use Rattle.base.specs.Lists.{All}
use Rattle.token.specs.Card.{Token}
use Rattle.token.specs.Filter.{Form}
use Rattle.token.specs.Spelling.{CardSpells, SplitSpells}
use Rattle.token.specs.Rules.{Itself, AsksBy}
use Rattle.sheet.specs.Sheet.{Parameter}
use Rattle.card.specs.Card.{Entry}
use Rattle.syntax.specs.Tree.{name, Test}
use Rattle.kind.specs.Rules.{ReadableInFilter, HasOperator}
use Rattle.judge.specs.Sets.{values_at}
use Rattle.judge.specs.Rules.{Names, NotOnSheet, Says}
use Rattle.query.specs.Spelling.{Alternative, Query}
use Rattle.search.specs.Asking.{AskedBy}

-- ---- meaning

-- what a parameter of the kind k can read: a token's text is one of the four forms, by its own split; any other's value as in a filter
pub data ReadableAlternative (k : ℕ) (a : Alternative) : Type 0 where
  readable_form : {f : Form} → k ≡ token → SplitSpells a.text a.split f → ReadableAlternative k a
  readable_value : {o : ℕ} {v : List ℕ} → (k ≡ token → ⊥) → AskedBy k a.text o v → ReadableInFilter k v → ReadableAlternative k a

-- an alternative has no meaning on a card with the entries es: as a test; a bundle's name counts as one that is not on the sheet
pub data LacksMeaning (ps : List Parameter) (es : List Entry) (a : Alternative) : Type 0 where
  not_on_sheet : NotOnSheet ps (name a.name) → LacksMeaning ps es a
  bundle_named : {i : ℕ} → Names ps (name a.name) i bundle_kind → LacksMeaning ps es a
  lacks_operator : {i k o : ℕ} {v : List ℕ} → Names ps (name a.name) i k → (values_at i es ≡ [] → ⊥) → AskedBy k a.text o v → (HasOperator k o → ⊥) → LacksMeaning ps es a
  unreadable : {i k : ℕ} → Names ps (name a.name) i k → (values_at i es ≡ [] → ⊥) → (ReadableAlternative k a → ⊥) → LacksMeaning ps es a

-- the line with the number holds for the alternative: "14 (bundles and members too), 16, 17"
pub data AlternativeLine (ps : List Parameter) (a : Alternative) : ℕ → Type 0 where
  line_14 : NotOnSheet ps (name a.name) → AlternativeLine ps a 14
  line_14_bundle : {i : ℕ} → Names ps (name a.name) i bundle_kind → AlternativeLine ps a 14
  line_16 : {i k o : ℕ} {v : List ℕ} → Names ps (name a.name) i k → AskedBy k a.text o v → (HasOperator k o → ⊥) → AlternativeLine ps a 16
  line_17 : {i k : ℕ} → Names ps (name a.name) i k → (ReadableAlternative k a → ⊥) → AlternativeLine ps a 17

-- ---- verdicts

-- the test of an operator and a value that an alternative asks for
abbrev pub test_of : Alternative → ℕ → List ℕ → Test
test_of a o v = record { at = a.at; path = name a.name; operator = o; value = v }

-- the alternative says yes of entries
pub data AlternativeSays (ps : List Parameter) (es : List Entry) (a : Alternative) : Type 0 where
  -- "a token for 01's four forms without the short system names": of some token in the set
  says_token : {i : ℕ} {x : List ℕ} {t : Token} {f : Form} → Names ps (name a.name) i token → Memᴰ x (values_at i es) → CardSpells x t
      → SplitSpells a.text a.split f → AsksBy Itself f t → AlternativeSays ps es a
  -- "its meaning is 01's": that of the test which it asks for
  says_test : {i k o : ℕ} {v : List ℕ} → (k ≡ token → ⊥) → Names ps (name a.name) i k → AskedBy k a.text o v → Says ps 0 es (test_of a o v) → AlternativeSays ps es a

-- "commas in the value give alternatives": some alternative of the pair says yes
abbrev pub PairSays : List Parameter → List Entry → List Alternative → Type 0
PairSays ps es p = (a : Alternative) × Memᴰ a p × AlternativeSays ps es a

-- "pairs joined by "&", all to be met": each pair says yes
abbrev pub QuerySays : List Parameter → List Entry → Query → Type 0
QuerySays ps es = All (PairSays ps es)
