-- The grammar (01: the grammar in words): what it is for a part of a text, from one position up to another, to be a filter.
-- Assumes nothing.
use Rattle.std.specs.Prelude.{ℕ, suc, ◌+◌, ◌≤◌, ◌<◌, ◌≡◌, Bool, true, false, List, [], ◌∷◌, ◌++◌, length, get_or, drop}
use Prim.Native.Char.{code}
use Rattle.base.specs.Ascii.{ascii}
use Rattle.base.specs.Lists.{All}
use Rattle.base.specs.Names.{Name}
use Rattle.base.specs.Operators.{operator_words}
use Rattle.syntax.specs.Tree.{name, Test, Tree, test, bracketed, join, negation, tests_of}
use Rattle.syntax.specs.Strings.{quote, is_bare, Quoted}
use Rattle.syntax.specs.declared.Connective.{Connective}

-- ---- words and spaces

-- the bytes of the word stand at p
abbrev pub Stands : List ℕ → ℕ → List ℕ → Type 0
Stands xs p word = (tail : List ℕ) × (drop p xs ≡ word ++ tail)

-- "only the byte 0x20 is a space": none or more from p up to q
pub data Spaces (xs : List ℕ) : ℕ → ℕ → Type 0 where
  no_space : {p : ℕ} → Spaces xs p p
  space : {p q : ℕ} → Stands xs p (0x20 ∷ []) → Spaces xs (p + 1) q → Spaces xs p q

-- one or more
pub data Gap (xs : List ℕ) : ℕ → ℕ → Type 0 where
  gap : {p q : ℕ} → Stands xs p (0x20 ∷ []) → Spaces xs (p + 1) q → Gap xs p q

-- ---- values

-- "a quoted string or a bare word", from p up to q, with the bytes that it decodes to
pub data Value (xs : List ℕ) : ℕ → ℕ → List ℕ → Type 0 where
  bare : {p b : ℕ} {w : List ℕ} → Stands xs p (b ∷ w) → All (λ (x : ℕ). is_bare x ≡ true) (b ∷ w) → (b ≡ quote → ⊥) → Value xs p (p + length (b ∷ w)) (b ∷ w)
  string : {p : ℕ} {s v : List ℕ} → Stands xs p (quote ∷ (s ++ (quote ∷ []))) → Quoted s v → Value xs p (p + (length s + 2)) v

-- "after a value comes a space, a ")" or the end": close is the byte that closes the bracket around the test
pub data Follows (close : ℕ) : List ℕ → Type 0 where
  the_end : Follows close []
  a_space : {xs : List ℕ} → Follows close (0x20 ∷ xs)
  a_close : {xs : List ℕ} → Follows close (close ∷ xs)

-- ---- tests

-- the k-th of the 19 operators stands at p; each has two letters
pub record Operator (xs : List ℕ) (p k : ℕ) : Type 0 where
  pub one_of : k < length operator_words
  pub stands : Stands xs p (get_or operator_words k [])

-- "a test is a name, an operation word and a value, with at least one space between"
pub data TestAt (xs : List ℕ) (close : ℕ) : ℕ → ℕ → Test → Type 0 where
  a_test : {p a b q k : ℕ} {n v : List ℕ} → Stands xs p n → Name n → Gap xs (p + length n) a → Operator xs a k → Gap xs (a + 2) b
      → Value xs b q v → Follows close (drop q xs) → TestAt xs close p q (record { at = p; path = name n; operator = k; value = v })

-- ---- connectives and brackets

-- the connective's bytes with the space that it wants after it
abbrev pub connective_word : Connective → List ℕ
connective_word Connective.And = ascii "and "
connective_word Connective.Or = ascii "or "

-- "with at least one space on both sides of the joining word"
pub data Connects (xs : List ℕ) : ℕ → ℕ → Connective → Type 0 where
  connects : {p a q : ℕ} {c : Connective} → Gap xs p a → Stands xs a (connective_word c) → Spaces xs (a + length (connective_word c)) q → Connects xs p q c

-- "(", or "not" and "(", with the spaces that may stand inside the bracket and after not; true with not
pub data Opens (xs : List ℕ) : ℕ → ℕ → Bool → Type 0 where
  opens : {p q : ℕ} → Stands xs p (ascii "(") → Spaces xs (p + 1) q → Opens xs p q false
  opens_not : {p a q : ℕ} → Stands xs p (ascii "not") → Spaces xs (p + 3) a → Stands xs a (ascii "(") → Spaces xs (a + 1) q → Opens xs p q true

-- the spaces that may stand inside the bracket, and the byte that closes it
pub data Closes (xs : List ℕ) (close : ℕ) : ℕ → ℕ → Type 0 where
  closes : {p a : ℕ} → Spaces xs p a → Stands xs a (close ∷ []) → Closes xs close p (a + 1)

-- the byte that closes a round bracket, and the one that closes a square bracket
abbrev pub round : ℕ
round = code ")"

-- what closes a condition in a path
abbrev pub square : ℕ
square = code "]"

-- a name and "[", with the spaces that may stand inside the bracket
pub data Chooses (xs : List ℕ) : ℕ → ℕ → List ℕ → Type 0 where
  chooses : {p q : ℕ} {n : List ℕ} → Stands xs p n → Name n → Stands xs (p + length n) (ascii "[") → Spaces xs (p + length n + 1) q → Chooses xs p q n

-- ---- items and filters, with brackets nested at most d deep, where close closes the bracket around them

mutual
  -- "an item is a test, a filter in round brackets, or not followed by a filter in round brackets"
  pub data Item (xs : List ℕ) : (close d p q : ℕ) → Tree → Type 0 where
    item_test : {close d p q : ℕ} {t : Test} → TestAt xs close p q t → Item xs close d p q (test t)
    item_bracket : {close d p a b q : ℕ} {f : Tree} → Opens xs p a false → Filter xs round d a b f → Closes xs round b q → Item xs close (suc d) p q f
    item_not : {close d p a b q : ℕ} {f : Tree} → Opens xs p a true → Filter xs round d a b f → Closes xs round b q → Item xs close (suc d) p q (negation f)
    -- 02: a test of a member of a bundle, `name[filter].name`: "spaces may stand just inside them but not just outside"
    item_bracketed : {close d p a b m q : ℕ} {n : List ℕ} {f : Tree} {t : Test} → Chooses xs p a n → Filter xs square d a b f → Closes xs square b m
        → Stands xs m (ascii ".") → TestAt xs close (m + 1) q t → Item xs close (suc d) p q (bracketed p n f t)

  -- "one or more items joined by and or or", from left to right
  pub data Filter (xs : List ℕ) : (close d p q : ℕ) → Tree → Type 0 where
    one_item : {close d p q : ℕ} {f : Tree} → Item xs close d p q f → Filter xs close d p q f
    one_more : {close d p m a q : ℕ} {c : Connective} {f g : Tree} → Filter xs close d p m f → Connects xs m a c → Item xs close d a q g → Filter xs close d p q (join c f g)

-- the whole text is a filter with this tree, with brackets nested at most d deep and at most m tests; "spaces may stand at either
-- end of the text"
pub record Within (d m : ℕ) (xs : List ℕ) (f : Tree) : Type 0 where
  pub from : ℕ
  pub to : ℕ
  pub before : Spaces xs 0 from
  pub filter : Filter xs round d from to f
  pub after : Spaces xs to (length xs)
  pub few : length (tests_of f) ≤ m

-- "brackets nest at most 8 deep; a filter has at most 32 tests"
abbrev pub deepest : ℕ
deepest = 8

-- "a filter has at most 32 tests"
abbrev pub most_tests : ℕ
most_tests = 32

-- the text is a filter, within both limits
abbrev pub Spells : List ℕ → Tree → Type 0
Spells = Within deepest most_tests
