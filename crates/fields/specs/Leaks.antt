-- Two meanings under which a field counts that the filter does not use: each is the filter's own but for one rule.
-- Assumes nothing.
use Rattle.std.specs.Prelude.{ℕ, zero, suc, length}
use mathlib.Core.List.{List, [], ◌++◌, map, Memᴰ}
use Rattle.base.specs.Kinds.{bundle_kind}
use Rattle.base.specs.Lists.{Listed, All}
use Rattle.sheet.specs.Sheet.{Parameter, parameter}
use Rattle.card.specs.Card.{Entry, entry}
use Rattle.syntax.specs.Tree.{Path, name, member, Tree}
use Rattle.judge.specs.Rules.{FilterSays}
use Rattle.fields.specs.Used.{names_of}

-- ---- the set of a name is all texts of the card, whatever they stand under

-- each text under each of the first n parameters
unfoldable pub spread : ℕ → List Entry → List Entry
spread zero es = []
spread (suc i) es = map (λ (e : Entry). entry i e.occurrence e.text) es ++ spread i es

-- the filter says yes where the set of every name is all texts of the card
abbrev pub AllTextsSay : List Parameter → List Entry → Tree → Type 0
AllTextsSay ps es f = FilterSays ps 0 (spread (length ps) es) f

-- ---- square brackets ask besides that the bundle has an occurrence on the card

-- some entry stands under a member of the bundle with the name b
pub record Occurs (ps : List Parameter) (es : List Entry) (b : List ℕ) : Type 0 where
  pub bundle : ℕ
  pub is_bundle : Listed ps bundle (parameter bundle_kind 0 b)
  pub index : ℕ
  pub occurrence : ℕ
  pub text : List ℕ
  pub held : Memᴰ (entry index occurrence text) es
  pub kind : ℕ
  pub name : List ℕ
  pub is_member : Listed ps index (parameter kind (suc bundle) name)

-- every bundle on the path occurs on the card
pub data Occurring (ps : List Parameter) (es : List Entry) : Path → Type 0 where
  no_bundle : {n : List ℕ} → Occurring ps es (name n)
  occurring : {b : List ℕ} {path : Path} → Occurs ps es b → Occurring ps es (member b path)

-- the filter says yes, and every bundle that it names occurs
abbrev pub OccurringSay : List Parameter → List Entry → Tree → Type 0
OccurringSay ps es f = All (Occurring ps es) (names_of f) × FilterSays ps 0 es f
