-- Which tests decide what a filter says (02: "why this card?"). A test goes by its number, from 0 in the order of the text; one in square
-- brackets has none, since "explain counts a bracketed test as one".
-- Assumes nothing.
use Rattle.std.specs.Prelude.{ℕ, zero, suc, ◌+◌, ◌<◌, ◌≡◌, Bool, true, false, cond, not, ◌↔◌, List, [], ◌∷◌, ◌++◌, map, eqb, ltb, get_or}
use Rattle.syntax.specs.Tree.{Tree, test, bracketed, join, negation}
use Rattle.judge.specs.Verdicts.{joined}

-- ---- the tests that count

-- each as a filter of its own: a test, or the test of a member with its brackets
unfoldable pub outer_tests : Tree → List Tree
outer_tests (test t) = test t ∷ []
outer_tests (bracketed p b f t) = bracketed p b f t ∷ []
outer_tests (join c f g) = outer_tests f ++ outer_tests g
outer_tests (negation f) = outer_tests f

-- how many they are
unfoldable pub outer_count : Tree → ℕ
outer_count (test t) = 1
outer_count (bracketed p b f t) = 1
outer_count (join c f g) = outer_count f + outer_count g
outer_count (negation f) = outer_count f

-- what each says, by its number
abbrev pub verdicts : (Tree → Bool) → Tree → ℕ → Bool
verdicts says f i = get_or (map says (outer_tests f)) i false

-- what the filter says where its j-th test says v (i + j)
unfoldable pub says_by : (ℕ → Bool) → ℕ → Tree → Bool
says_by v i (test t) = v i
says_by v i (bracketed p b f t) = v i
says_by v i (join c f g) = joined c (says_by v i f) (says_by v (i + outer_count f) g)
says_by v i (negation f) = not (says_by v i f)

-- ---- those that decide, where kept says which tests are among them and v what each says

-- "with their verdicts alone the filter's answer stands, no matter what the others say"
abbrev pub Suffices : Tree → (v kept : ℕ → Bool) → Type 0
Suffices f v kept = (u : ℕ → Bool) → ((i : ℕ) → i < outer_count f → kept i ≡ true → u i ≡ v i) → says_by u 0 f ≡ says_by v 0 f

-- the same tests without the i-th
abbrev pub without : ℕ → (ℕ → Bool) → ℕ → Bool
without i kept j = cond (eqb j i) false (kept j)

-- all before the i-th, and of those after it the kept ones: what is there when its turn comes
abbrev pub losing : ℕ → (ℕ → Bool) → ℕ → Bool
losing i kept j = cond (ltb j i) true (without i kept j)

-- kept are the tests that decide, by the three sentences of 02
pub record Explains (f : Tree) (v kept : ℕ → Bool) : Type 0 where
  pub stands : Suffices f v kept
  -- "none of them can be spared"
  pub needed : (i : ℕ) → i < outer_count f → kept i ≡ true → Suffices f v (without i kept) → ⊥
  -- "going from the last test to the first and sparing each whose loss lets the answer still stand"
  pub in_turn : (i : ℕ) → i < outer_count f → (kept i ≡ false) ↔ Suffices f v (losing i kept)

-- ---- the cells

-- "0 spared, 1 decides by its yes, 2 decides by its no"
abbrev pub cell : (kept says : Bool) → ℕ
cell false says = 0
cell true true = 1
cell true false = 2

-- "one cell per test": n of them, from the i-th on
unfoldable pub cells : (v kept : ℕ → Bool) → (i n : ℕ) → List ℕ
cells v kept i zero = []
cells v kept i (suc n) = cell (kept i) (v i) ∷ cells v kept (suc i) n
