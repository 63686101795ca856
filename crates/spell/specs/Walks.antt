-- What the walk over a filter's text does, which writes as it reads: of a part of the text that is known to be an item or a filter.
-- Assumes nothing.
use Rattle.std.specs.Prelude.{ℕ, ◌≡◌, List, ◌++◌}
use Rattle.base.specs.Ascii.{ascii}
use Rattle.syntax.specs.Tree.{Test, Tree}
use Rattle.syntax.specs.Reader.{Parsed, parsed}
use Rattle.syntax.specs.declared.Connective.{Connective}
use Rattle.plain.specs.Plain.{connective_text, is_join, plain_test, operand}
use Rattle.base.specs.Writing.{Room, Puts}
use Rattle.spell.specs.declared.Written.{Written}

-- a tree was parsed, and the part has room for its text
pub record RoomFor (text : Tree → List ℕ) (g : Parsed) (part : List ℕ) : Type 0 where
  pub end : ℕ
  pub tree : Tree
  pub reads : g ≡ parsed end tree
  pub room : Room (text tree) part

-- the text of the tree that was parsed stands over the first bytes of the part
pub record Spelt (text : Tree → List ℕ) (g : Parsed) (part exit : List ℕ) (w : Written) : Type 0 where
  pub tree : Tree
  pub reads : g ≡ parsed w.end tree
  pub puts : Puts (text tree) part exit w.length
  pub join : w.join ≡ is_join tree

-- a connective and what stands after it
unfoldable pub joined : Connective → Tree → List ℕ
joined c f = connective_text c ++ operand f

-- a name and the bracket after it; and what stands after a filter in square brackets
unfoldable pub choice_text : List ℕ → List ℕ
choice_text n = n ++ ascii "["

unfoldable pub member_text : Test → List ℕ
member_text t = ascii "]." ++ plain_test t
