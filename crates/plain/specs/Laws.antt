-- What request [5] says of the plain spelling, of any function from trees to texts.
-- Assumes nothing.
use Rattle.std.specs.Prelude.{ℕ, ◌≤◌, ◌≡◌, ◌↔◌, List, length}
use Rattle.syntax.specs.Tree.{Tree, erase}
use Rattle.syntax.specs.Grammar.{Spells}

-- what 02 asks of the plain spelling; no other function meets it
pub record PlainSpelling (plain : Tree → List ℕ) : Type 0 where
  -- "reading it back gives the same tests, joined, negated and grouped the same"
  pub reads_back : (text : List ℕ) (f : Tree) → Spells text f → (g : Tree) × (Spells (plain f) g × (erase g ≡ erase f))
  -- "spelling it again changes nothing"
  pub again : (text : List ℕ) (f g : Tree) → Spells text f → Spells (plain f) g → plain g ≡ plain f
  -- "two filters get the same bytes exactly when tests, decoded values, joins, nots and grouping agree"
  pub same_bytes : (text other : List ℕ) (f g : Tree) → Spells text f → Spells other g → (plain f ≡ plain g) ↔ (erase f ≡ erase g)
  -- "it is never longer than its source"
  pub never_longer : (text : List ℕ) (f : Tree) → Spells text f → length (plain f) ≤ length text
  -- a source as short is the plain spelling itself: in it no space, bracket, quote or escape is idle
  pub shortest : (text : List ℕ) (f : Tree) → Spells text f → length text ≡ length (plain f) → text ≡ plain f

-- two functions that meet it agree on every filter
abbrev pub Determined : Type 0
Determined = (spell spell' : Tree → List ℕ) → PlainSpelling spell → PlainSpelling spell' → (text : List ℕ) (f : Tree) → Spells text f → spell f ≡ spell' f
