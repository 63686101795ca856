-- The tree of a filter. A chain of items is the left-nested tree, and round brackets leave no other mark.
-- Assumes nothing.
use Rattle.std.specs.Prelude.{ℕ, ◌+◌, ◌≤◌, List, [], ◌∷◌, ◌++◌, map}
use Rattle.syntax.specs.declared.Connective.{Connective}

-- what a test is asked of: a name, or a path among the members of the bundle with a name
pub data Path : Type 0 where
  name : List ℕ → Path
  member : List ℕ → Path → Path

-- the position of its first byte, its path, its operator's number, its decoded value
pub record Test : Type 0 where
  pub at : ℕ
  pub path : Path
  pub operator : ℕ
  pub value : List ℕ

-- the test with its first byte at p
abbrev pub moved : ℕ → Test → Test
moved p t = record { at = p; path = t.path; operator = t.operator; value = t.value }

-- the test asked among the members of the bundle with the name b
abbrev pub under : List ℕ → Test → Test
under b t = record { at = t.at; path = member b t.path; operator = t.operator; value = t.value }

-- a filter that was read
pub data Tree : Type 0 where
  test : Test → Tree
  -- where it begins, the bundle's name, the filter in its brackets, and the member's test as it stands after them
  bracketed : ℕ → List ℕ → Tree → Test → Tree
  join : Connective → Tree → Tree → Tree
  negation : Tree → Tree

-- the tests, in the order of their first bytes, each with its path from the top
unfoldable pub tests_of : Tree → List Test
tests_of (test t) = t ∷ []
tests_of (bracketed p b f t) = map (under b) (moved p t ∷ tests_of f)
tests_of (join c f g) = tests_of f ++ tests_of g
tests_of (negation f) = tests_of f

-- the tree with every position 0: "tests, decoded values, joins, nots and grouping"
unfoldable pub erase : Tree → Tree
erase (test t) = test (moved 0 t)
erase (bracketed p b f t) = bracketed 0 b (erase f) (moved 0 t)
erase (join c f g) = join c (erase f) (erase g)
erase (negation f) = negation (erase f)

-- the tests begin one after the other, from position p on and before q
pub data Rising : ℕ → ℕ → List Test → Type 0 where
  rising_end : {p q : ℕ} → p ≤ q → Rising p q []
  rising_next : {p q : ℕ} {t : Test} {ts : List Test} → p ≤ t.at → Rising (t.at + 1) q ts → Rising p q (t ∷ ts)
