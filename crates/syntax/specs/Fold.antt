-- The fold over a tree: what is gathered from each test, by each connective, by each negation. The test of a member after its bundle's
-- brackets is one with them: it has the tree in them and its value.
-- Assumes nothing.
use Rattle.std.specs.Prelude.{ℕ, List}
use Rattle.syntax.specs.Tree.{Test, Tree, test, bracketed, join, negation}
use Rattle.syntax.specs.declared.Connective.{Connective}

-- a value for a test, for the test of a member after its bundle's brackets, for two values that are joined, and for a negated value
pub record Fold (A : Type 0) : Type 0 where
  pub one : Test → A
  pub inside : ℕ → List ℕ → Tree → A → Test → A
  pub both : Connective → A → A → A
  pub negate : A → A

-- the value of a tree
unfoldable pub fold_tree : {A : Type 0} → Fold A → Tree → A
fold_tree φ (test t) = φ.one t
fold_tree φ (bracketed p b f t) = φ.inside p b f (fold_tree φ f) t
fold_tree φ (join c f g) = φ.both c (fold_tree φ f) (fold_tree φ g)
fold_tree φ (negation f) = φ.negate (fold_tree φ f)
