-- What is left of a filter from a position on, for each phase of the machine.
-- `Left` says for each phase what may stand from a position on: the rest of what was begun, and then what comes after an item (`AfterLeft`),
-- with the brackets that are open and the number of tests to come. An opening bracket before such a rest makes an item of it (`left_opens`,
-- `left_chooses`): the filter inside is gathered from the items that follow, up to the closing byte (`in_bracket_lem`, by induction on what is
-- left). With no bracket open the items are gathered in the same way up to the end of the text (`in_text`), so that what is left from the
-- first item on is a whole filter within the limits (`left-within`).
-- Assumes nothing.
use Prim.Native.Nat.{ℕ, suc, ◌+◌, ◌<◌}
use native.Mathlib.Omega.{arith}
use mathlib.Core.Path.{◌≡◌, refl, subst}
use mathlib.Core.Bool.{Bool, true, false}
use mathlib.Core.List.{List, [], ◌∷◌, ◌++◌}
use lib.ListN.{length, get_or, length-append}
use Rattle.base.specs.Ascii.{ascii}
use Rattle.base.specs.Lists.{All}
use Rattle.base.specs.Names.{Name}
use Rattle.base.specs.Operators.{operator_words}
use Rattle.syntax.specs.Tree.{Test, Tree, join, negation, tests_of}
use Rattle.syntax.specs.declared.Connective.{Connective}
use Rattle.syntax.specs.Strings.{quote, backslash, is_bare, Quoted}
use Rattle.syntax.specs.Grammar.{Stands, Spaces, Value, Operator, TestAt, Connects, Opens, Closes, round, square, Chooses, Item, item_bracket, item_not, item_bracketed, Filter, one_item, one_more, Within}
use Rattle.place.specs.Machine.{Phase, at_item, in_name, after_not, after-name, in_operator, after_operator, at_value, in_bare, in-string, after_item, after-space, in_connective, after_square, at_member, in_member, Bracket, round_open, square-open, close_of}
use Rattle.place.proofs.Walking.{bracketed_count}

-- the byte that closes the bracket around an item
abbrev pub closing : List Bracket → ℕ
closing [] = round
closing (s ∷ k) = close_of s

-- with the brackets k open, what comes after an item that ends at p, with i tests
pub data AfterLeft (d : ℕ) (xs : List ℕ) : List Bracket → (p i : ℕ) → Type 0 where
  end_left : {p : ℕ} → Spaces xs p (length xs) → AfterLeft d xs [] p 0
  close_left : {k : List Bracket} {p q i : ℕ} → Closes xs round p q → AfterLeft d xs k q i → AfterLeft d xs (round_open ∷ k) p i
  choice_left : {k : List Bracket} {p q r i : ℕ} {t : Test} → Closes xs square p q → Stands xs q (ascii ".") → TestAt xs (closing k) (q + 1) r t → AfterLeft d xs k r i
      → AfterLeft d xs (square-open ∷ k) p i
  join_left : {k : List Bracket} {p q i l r j : ℕ} {c : Connective} {f : Tree} → Connects xs p q c → Item xs (closing k) l q r f → l + length k ≡ d → AfterLeft d xs k r j
      → length (tests_of f) + j ≡ suc i → AfterLeft d xs k p (suc i)

-- an item at p and what comes after it, with i tests more than the one that is due
pub data ItemLeft (d : ℕ) (xs : List ℕ) (k : List Bracket) (p i : ℕ) : Type 0 where
  item_left : {l q j : ℕ} {f : Tree} → Item xs (closing k) l p q f → l + length k ≡ d → AfterLeft d xs k q j → length (tests_of f) + j ≡ suc i → ItemLeft d xs k p i

-- ---- a bracket's filter up to its end

-- what comes where the filter of the innermost bracket ends: the bracket closes
pub data Closing (d : ℕ) (xs : List ℕ) (k : List Bracket) (p i : ℕ) : Bracket → Type 0 where
  closing_round : {q : ℕ} → Closes xs round p q → AfterLeft d xs k q i → Closing d xs k p i round_open
  closing_square : {q r : ℕ} {t : Test} → Closes xs square p q → Stands xs q (ascii ".") → TestAt xs (closing k) (q + 1) r t → AfterLeft d xs k r i
      → Closing d xs k p i square-open

pub record Inside (d : ℕ) (xs : List ℕ) (b : Bracket) (l : ℕ) (k : List Bracket) (s i : ℕ) : Type 0 where
  pub end : ℕ
  pub tree : Tree
  pub filter : Filter xs (close_of b) l s end tree
  pub tests : ℕ
  pub left : Closing d xs k end tests b
  pub count : length (tests_of tree) + tests ≡ i

joined_count : (c : Connective) (f g : Tree) (j i : ℕ) → length (tests_of g) + j ≡ suc i → length (tests_of (join c f g)) + j ≡ length (tests_of f) + suc i
unfolding tests_of
joined_count c f g j i e = omega (arith, length-append (tests_of f) (tests_of g))

negated_count : (f : Tree) (j i : ℕ) → length (tests_of f) + j ≡ suc i → length (tests_of (negation f)) + j ≡ suc i
unfolding tests_of
negated_count f j i e = e

module _ {d : ℕ} {xs : List ℕ} where
  in_bracket_lem : {b : Bracket} {l : ℕ} {k : List Bracket} {s q j : ℕ} {f : Tree} → Filter xs (close_of b) l s q f → l + suc (length k) ≡ d → AfterLeft d xs (b ∷ k) q j
      → Inside d xs b l k s (length (tests_of f) + j)
  in_bracket_lem {q = q} {f = f} h e (close_left {i = i} c a) = record { end = q; tree = f; filter = h; tests = i; left = closing_round c a; count = refl }
  in_bracket_lem {q = q} {f = f} h e (choice_left {i = i} c s t a) = record { end = q; tree = f; filter = h; tests = i; left = closing_square c s t a; count = refl }
  in_bracket_lem {b} {l} {k} {s} {f = f} h e (join_left {q = o} {i = i} {l = l'} {r = q} {j = j'} {c = c} {f = g} j t z a n) =
      let same : l' ≡ l = omega arith in
      subst (Inside d xs b l k s) (joined_count c f g j' i n) (in_bracket_lem {b = b} (one_more h j (subst (λ (x : ℕ). Item xs (close_of b) x o q g) same t)) e a)

  in_text : {s q j : ℕ} {f : Tree} → Filter xs round d s q f → Spaces xs 0 s → AfterLeft d xs [] q j → (g : Tree) × Within d (length (tests_of f) + j) xs g
  in_text {s} {q} {f = f} h b (end_left a) = (f, record { from = s; to = q; before = b; filter = h; after = a; few = omega arith })
  in_text {s} {f = f} h b (join_left {q = b'} {i = i} {l = l} {r = q} {j = j'} {c = c} {f = g} j t z a n) =
      let same : l ≡ d = omega arith in
      subst (λ (k : ℕ). (u : Tree) × Within d k xs u) (joined_count c f g j' i n) (in_text (one_more h j (subst (λ (x : ℕ). Item xs round x b' q g) same t)) b a)

  -- the whole text
  pub left-within : {s i : ℕ} → Spaces xs 0 s → ItemLeft d xs [] s i → (g : Tree) × Within d (suc i) xs g
  left-within {s} b (item_left {l = l} {q = q} {f = f} t z a n) =
      let same : l ≡ d = omega arith in
      subst (λ (k : ℕ). (u : Tree) × Within d k xs u) n (in_text (one_item (subst (λ (x : ℕ). Item xs round x s q f) same t)) b a)

  -- a round bracket that opens
  pub left_opens : {k : List Bracket} {p a i : ℕ} {n : Bool} → Opens xs p a n → ItemLeft d xs (round_open ∷ k) a i → ItemLeft d xs k p i
  left_opens {k} {p} {a} {i} {n} o (item_left {l = l} t z r c) = go n o (subst (Inside d xs round_open l k a) c (in_bracket_lem {b = round_open} (one_item t) z r))
    where
      up : suc l + length k ≡ d
      up = omega arith

      closed : (n : Bool) → Opens xs p a n → {e : ℕ} {f : Tree} {j : ℕ} → Filter xs round l a e f → Closing d xs k e j round_open → length (tests_of f) + j ≡ suc i → ItemLeft d xs k p i
      closed true o {f = f} {j = j} h (closing_round c r) s = item_left (item_not o h c) up r (negated_count f j i s)
      closed false o h (closing_round c r) s = item_left (item_bracket o h c) up r s

      go : (n : Bool) → Opens xs p a n → Inside d xs round_open l k a (suc i) → ItemLeft d xs k p i
      go n o b = closed n o b.filter b.left b.count

  -- a square one: the test of the member was due before the tests inside
  pub left_chooses : {k : List Bracket} {p a i : ℕ} {w : List ℕ} → Chooses xs p a w → ItemLeft d xs (square-open ∷ k) a i → ItemLeft d xs k p (suc i)
  left_chooses {k} {p} {a} {i} {w} o (item_left {l = l} t z r c) = go (subst (Inside d xs square-open l k a) c (in_bracket_lem {b = square-open} (one_item t) z r))
    where
      up : suc l + length k ≡ d
      up = omega arith

      closed : {e : ℕ} {f : Tree} {j : ℕ} → Filter xs square l a e f → Closing d xs k e j square-open → length (tests_of f) + j ≡ suc i → ItemLeft d xs k p (suc i)
      closed {f = f} {j = j} h (closing_square {t = t} c s v r) n = item_left (item_bracketed o h c s v) up r (omega (arith, bracketed_count p w f t))

      go : Inside d xs square-open l k a (suc i) → ItemLeft d xs k p (suc i)
      go b = closed b.filter b.left b.count

-- ---- for each phase

-- the spaces after an operator, the value, and what comes after
pub record ValueLeft (d : ℕ) (xs : List ℕ) (k : List Bracket) (p i : ℕ) : Type 0 where
  pub start : ℕ
  pub end : ℕ
  pub bytes : List ℕ
  pub spaces : Spaces xs p start
  pub value : Value xs start end bytes
  pub left : AfterLeft d xs k end i

pub record OperatorLeft (d : ℕ) (xs : List ℕ) (k : List Bracket) (p i : ℕ) : Type 0 where
  pub start : ℕ
  pub operator : ℕ
  pub spaces : Spaces xs p start
  pub is : Operator xs start operator
  pub space : Stands xs (start + 2) (0x20 ∷ [])
  pub value : ValueLeft d xs k (start + 2 + 1) i

pub record NotLeft (d : ℕ) (xs : List ℕ) (k : List Bracket) (p i : ℕ) : Type 0 where
  pub bracket : ℕ
  pub start : ℕ
  pub spaces : Spaces xs p bracket
  pub opens : Stands xs bracket (ascii "(")
  pub inside : Spaces xs (bracket + 1) start
  pub item : ItemLeft d xs (round_open ∷ k) start i

-- the bytes w came before: the name ends and its test goes on, or a square bracket comes, or the word is not and a bracket comes
pub data NameLeft (d : ℕ) (xs : List ℕ) (k : List Bracket) (w : List ℕ) (p i : ℕ) : Type 0 where
  name_left : (r : List ℕ) → Stands xs p r → Name (w ++ r) → Stands xs (p + length r) (0x20 ∷ []) → OperatorLeft d xs k (p + length r + 1) i → NameLeft d xs k w p i
  chosen_left : (r : List ℕ) {s j : ℕ} → Stands xs p r → Name (w ++ r) → Stands xs (p + length r) (ascii "[") → Spaces xs (p + length r + 1) s
      → ItemLeft d xs (square-open ∷ k) s j → suc j ≡ i → NameLeft d xs k w p i
  not_left : (r : List ℕ) → Stands xs p r → w ++ r ≡ ascii "not" → NotLeft d xs k (p + length r) i → NameLeft d xs k w p i

-- the same for the name of a member
pub record MemberLeft (d : ℕ) (xs : List ℕ) (k : List Bracket) (w : List ℕ) (p i : ℕ) : Type 0 where
  pub rest : List ℕ
  pub stands : Stands xs p rest
  pub name : Name (w ++ rest)
  pub space : Stands xs (p + length rest) (0x20 ∷ [])
  pub operator : OperatorLeft d xs k (p + length rest + 1) i

-- a test at p and what comes after it
pub record TestLeft (d : ℕ) (xs : List ℕ) (k : List Bracket) (p i : ℕ) : Type 0 where
  pub end : ℕ
  pub test : Test
  pub is : TestAt xs (closing k) p end test
  pub left : AfterLeft d xs k end i

pub record DotLeft (d : ℕ) (xs : List ℕ) (k : List Bracket) (p i : ℕ) : Type 0 where
  pub dot : Stands xs p (ascii ".")
  pub test : TestLeft d xs k (p + 1) i

pub record LetterLeft (d : ℕ) (xs : List ℕ) (k : List Bracket) (x p i : ℕ) : Type 0 where
  pub operator : ℕ
  pub letter : ℕ
  pub one_of : operator < length operator_words
  pub spelt : get_or operator_words operator [] ≡ x ∷ letter ∷ []
  pub second : Stands xs p (letter ∷ [])
  pub space : Stands xs (p + 1) (0x20 ∷ [])
  pub value : ValueLeft d xs k (p + 1 + 1) i

pub record SpacedValue (d : ℕ) (xs : List ℕ) (k : List Bracket) (p i : ℕ) : Type 0 where
  pub space : Stands xs p (0x20 ∷ [])
  pub value : ValueLeft d xs k (p + 1) i

pub record BareLeft (d : ℕ) (xs : List ℕ) (k : List Bracket) (p i : ℕ) : Type 0 where
  pub word : List ℕ
  pub stands : Stands xs p word
  pub bare : All (λ (x : ℕ). is_bare x ≡ true) word
  pub left : AfterLeft d xs k (p + length word) i

-- what stands between the quotes, with the backslash that came before
abbrev pub behind : Bool → List ℕ → List ℕ
behind true s = backslash ∷ s
behind false s = s

pub record StringLeft (d : ℕ) (xs : List ℕ) (k : List Bracket) (pending : Bool) (p i : ℕ) : Type 0 where
  pub body : List ℕ
  pub bytes : List ℕ
  pub stands : Stands xs p (body ++ (quote ∷ []))
  pub quoted : Quoted (behind pending body) bytes
  pub left : AfterLeft d xs k (p + (length body + 1)) i

pub record ConnectiveLeft (d : ℕ) (xs : List ℕ) (k : List Bracket) (w : List ℕ) (p i : ℕ) : Type 0 where
  pub start : ℕ
  pub stands : Stands xs p w
  pub spaces : Spaces xs (p + length w) start
  pub item : ItemLeft d xs k start i

pub record SpacesLeft (d : ℕ) (xs : List ℕ) (k : List Bracket) (p i : ℕ) : Type 0 where
  pub start : ℕ
  pub spaces : Spaces xs p start
  pub item : ItemLeft d xs k start i

-- what is left from the space before p on
pub record SpacedLeft (d : ℕ) (xs : List ℕ) (k : List Bracket) (p i : ℕ) : Type 0 where
  pub left : (q : ℕ) → q + 1 ≡ p → Stands xs q (0x20 ∷ []) → AfterLeft d xs k q i

abbrev pub Left : (d : ℕ) → List ℕ → Phase → List Bracket → (p i : ℕ) → Type 0
Left d xs at_item k p i = SpacesLeft d xs k p i
Left d xs (in_name w) k p i = NameLeft d xs k w p i
Left d xs after_not k p i = NotLeft d xs k p i
Left d xs after-name k p i = OperatorLeft d xs k p i
Left d xs (in_operator x) k p i = LetterLeft d xs k x p i
Left d xs after_operator k p i = SpacedValue d xs k p i
Left d xs at_value k p i = ValueLeft d xs k p i
Left d xs in_bare k p i = BareLeft d xs k p i
Left d xs (in-string pending) k p i = StringLeft d xs k pending p i
Left d xs after_item k p i = AfterLeft d xs k p i
Left d xs after-space k p i = SpacedLeft d xs k p i
Left d xs (in_connective w) k p i = ConnectiveLeft d xs k w p i
Left d xs after_square k p i = DotLeft d xs k p i
Left d xs at_member k p i = TestLeft d xs k p i
Left d xs (in_member w) k p i = MemberLeft d xs k w p i
