-- Operators: the scan finds what the grammar asks for, and all of it.
-- The words are a table: that each has two letters, that each is found at its own number (`each_found`), so none stands twice, and that
-- none begins with a space is computed for all of them and looked up (`passes_at`, `passes_same`). What the search finds is a word of the
-- list, by induction on the list (`find_derives`). A word that stands at a position is the two bytes there, and so is found
-- (`operator-found`). The code's loop keeps that the words from the k-th on decide (`Trying`), and compares two letters as one number
-- (`letters_same`).
-- Assumes nothing.
use Rattle.std.specs.Prelude.{Option, Some, None}
use Rattle.std.specs.Int.{w16, from_be_bytes}
use Prim.Native.Nat.{ℕ, suc, ◌+◌, ◌*◌, ◌-◌, ◌≤◌, ◌<◌}
use native.Mathlib.Omega.{arith}
use native.Mathlib.Numerals.{add-one}
use mathlib.Core.Path.{◌≡◌, refl, sym, ap, subst, ◌∙◌}
use mathlib.Core.Bool.{Bool, true, false, cond, not, ◌&&◌, and-true, false≢true, true≢false}
use mathlib.Core.List.{List, [], ◌∷◌, flatten}
use lib.Dec.{eqb, ltb}
use lib.ListN.{length, get_or, take, drop, length-drop, length-append, drop_of_length-le}
use lib.Seq.{drop-cons, take_at}
use borrow.Author.Tests.{eqb-true, eq-eqb, ltb-true, not-true}
use Rattle.base.specs.Lists.{equal}
use Rattle.base.proofs.Below.{passes_at, passes_same}
use Rattle.base.proofs.Lists.{equal-same}
use Rattle.base.specs.Operators.{operator_words}
use Rattle.syntax.specs.Grammar.{Stands, Operator}
use Rattle.syntax.specs.Scan.{find_operator, operator_at}
use Rattle.syntax.proofs.Words.{NoSpaceAt, stands_no_space, taken_stands}

never_operator : {X : Type 0} {k : ℕ} → None ≡ Some k → X
never_operator h = let z : ◌≡◌ {A = ℕ} 0 1 = cc in absurd (omega arith)

-- the word found is the i-th of those from the j-th on
find_derives : (j : ℕ) (us : List (List ℕ)) (w : List ℕ) (k : ℕ) → find_operator j us w ≡ Some k → (i : ℕ) × (k ≡ j + i) × (i < length us) × (get_or us i [] ≡ w)
unfolding find_operator
find_derives j [] w k h = never_operator h
find_derives j (u ∷ us) w k h = go (equal w u) refl h (λ e. find_derives (suc j) us w k e)
  where
    go : (b : Bool) → equal w u ≡ b → cond b (Some j) (find_operator (suc j) us w) ≡ Some k
        → (find_operator (suc j) us w ≡ Some k → (i : ℕ) × (k ≡ suc j + i) × (i < length us) × (get_or us i [] ≡ w))
        → (i : ℕ) × (k ≡ j + i) × (i < length (u ∷ us)) × (get_or (u ∷ us) i [] ≡ w)
    go true e h next = let z : j ≡ k = cc in (0, omega arith, omega arith, sym (equal-same w u e))
    go false e h next = let r = next h in (suc r.0, omega (arith, r.1), omega (arith, r.2), r.3)

two_letters : (k : ℕ) → k < length operator_words → length (get_or operator_words k []) ≡ 2
unfolding operator_words
two_letters k h = passes_same (λ (i : ℕ). length (get_or operator_words i [])) (λ (i : ℕ). 2) 19 refl k h

pub operator_derives : (xs : List ℕ) (p k : ℕ) → operator_at xs p ≡ Some k → Operator xs p k
unfolding operator_at
operator_derives xs p k h =
    let r = find_derives 0 operator_words (take 2 (drop p xs)) k h in
    let e : k ≡ r.0 = omega (arith, r.1) in
    record {
      one_of = rw e r.2;
      stands = subst (λ (w : List ℕ). Stands xs p w) (sym r.3 ∙ ap (λ (i : ℕ). get_or operator_words i []) (sym e)) (taken_stands xs p 2);
    }

is_operator : ℕ → Option ℕ → Bool
is_operator k (Some j) = eqb j k
is_operator k None = false

is_operator_lem : (k : ℕ) (f : Option ℕ) → is_operator k f ≡ true → f ≡ Some k
unfolding is_operator
is_operator_lem k (Some j) h = ap Some (eqb-true j k h)
is_operator_lem k None h = absurd (false≢true h)

-- no word stands twice in the list
each_found : (k : ℕ) → k < length operator_words → find_operator 0 operator_words (get_or operator_words k []) ≡ Some k
unfolding operator_words find_operator equal is_operator
each_found k h = is_operator_lem k _ (passes_at (λ (i : ℕ). is_operator i (find_operator 0 operator_words (get_or operator_words i []))) 19 refl k h)

pub operator-found : {xs : List ℕ} {p k : ℕ} → Operator xs p k → operator_at xs p ≡ Some k
unfolding operator_at
operator-found {xs} {p} {k} o =
    let w = get_or operator_words k [] in
    let e : take 2 (drop p xs) ≡ w = ap (take 2) o.stands.1 ∙ take_at w o.stands.0 2 (two_letters k o.one_of) in
    rw e (each_found k o.one_of)

-- no word begins with a space
starts_with_space : List ℕ → Bool
starts_with_space [] = true
starts_with_space (x ∷ xs) = eqb x 0x20

letters_first : (w : List ℕ) → starts_with_space w ≡ false → (b : ℕ) × (v : List ℕ) × (w ≡ b ∷ v) × (eqb b 0x20 ≡ false)
unfolding starts_with_space
letters_first [] h = absurd (true≢false h)
letters_first (x ∷ xs) h = (x, xs, refl, h)

pub operator_no_space : {xs : List ℕ} {p k : ℕ} → Operator xs p k → NoSpaceAt xs p
unfolding operator_words starts_with_space
operator_no_space {xs} {p} {k} o =
    let t = passes_at (λ (i : ℕ). not (starts_with_space (get_or operator_words i []))) 19 refl k o.one_of in
    let w = letters_first (get_or operator_words k []) (not-true _ t) in
    stands_no_space xs p w.0 w.1 (rw w.2 at o.stands) w.3

pub operator_rise : {xs : List ℕ} {p k : ℕ} → Operator xs p k → p + 2 ≤ length xs
operator_rise {xs} {p} {k} o = omega (arith, ap length o.stands.1, length-drop p xs, length-append (get_or operator_words k []) o.stands.0, two_letters k o.one_of)

-- ---- as the code finds one: the k-th word and those after it are left to try

-- the letters of all words, one word after the other
unfoldable pub operator_letters : List ℕ
operator_letters = flatten operator_words

pub record Trying (words : List ℕ) (first second k : ℕ) : Type 0 where
  pub letters : words ≡ operator_letters
  pub few : k ≤ 19
  pub left : find_operator 0 operator_words (first ∷ second ∷ []) ≡ find_operator k (drop k operator_words) (first ∷ second ∷ [])

pub trying_starts : (words : List ℕ) (first second : ℕ) → words ≡ operator_letters → Trying words first second 0
trying_starts words first second e = record { letters = e; few = omega arith; left = refl }

many_words : length operator_words ≡ 19
unfolding operator_words
many_words = refl

try_step : (k : ℕ) (w : List ℕ) → k < 19 → find_operator k (drop k operator_words) w ≡ cond (equal w (get_or operator_words k [])) (Some k) (find_operator (k + 1) (drop (k + 1) operator_words) w)
unfolding find_operator
try_step k w h = rw (drop-cons operator_words k [] (rw many_words h), add-one k)

-- two letters are compared as one number
module _ (a b c d m n : ℕ) (h : b < 256) (k : d < 256) (u : m ≡ from_be_bytes w16 (a ∷ b ∷ [])) (v : n ≡ from_be_bytes w16 (c ∷ d ∷ [])) where
  letters_same : m ≡ n → true ≡ (eqb a c && eqb b d)
  letters_same e =
      let i : a ≡ c = omega (arith, u, v) in
      let j : b ≡ d = omega (arith, u, v) in
      rw (eq-eqb a c i, eq-eqb b d j)

  letters_other : (m ≡ n → ⊥) → false ≡ (eqb a c && eqb b d)
  letters_other f = go (eqb a c) (eqb b d) refl refl
    where
      go : (p q : Bool) → eqb a c ≡ p → eqb b d ≡ q → false ≡ (p && q)
      go true true e g = let i = eqb-true a c e in let j = eqb-true b d g in absurd (f (rw (u, v, i, j)))
      go true false e g = refl
      go false q e g = refl

-- the letters of the k-th word stand from 2 * k on
abbrev letters_of : List ℕ → ℕ → List ℕ
letters_of words k = get_or words (2 * k) 0 ∷ get_or words (2 * k + 1) 0 ∷ []

each_spelt : (k : ℕ) → k < 19 → equal (letters_of operator_letters k) (get_or operator_words k []) ≡ true
unfolding operator_letters flatten operator_words equal
each_spelt k h = passes_at (λ (k : ℕ). equal (letters_of operator_letters k) (get_or operator_words k [])) 19 refl k h

second_byte : (words : List ℕ) → words ≡ operator_letters → (k : ℕ) → k < 19 → get_or words (2 * k + 1) 0 < 256
unfolding operator_letters flatten operator_words
second_byte words e k h = rw e (ltb-true _ _ (passes_at (λ (i : ℕ). ltb (get_or operator_letters (2 * i + 1) 0) 256) 19 refl k h))

letters_decide : (words : List ℕ) → words ≡ operator_letters → (k : ℕ) → k < 19 → (a b : ℕ)
    → equal (a ∷ b ∷ []) (get_or operator_words k []) ≡ (eqb a (get_or words (2 * k) 0) && eqb b (get_or words (2 * k + 1) 0))
unfolding equal
letters_decide words e k h a b =
    let s = sym (equal-same (letters_of operator_letters k) (get_or operator_words k []) (each_spelt k h)) in
    rw (s, e) (ap (λ (r : Bool). eqb a (get_or operator_letters (2 * k) 0) && r) (and-true (eqb b (get_or operator_letters (2 * k + 1) 0))))

-- the two bytes at a position
pub two_bytes_lem : (xs : List ℕ) (p : ℕ) → 2 ≤ length xs - p → take 2 (drop p xs) ≡ get_or xs p 0 ∷ get_or xs (p + 1) 0 ∷ []
two_bytes_lem xs p h =
    let a : p < length xs = omega arith in
    let b : suc p < length xs = omega arith in
    rw (drop-cons xs p 0 a, drop-cons xs (suc p) 0 b, add-one p)

module _ (xs : List ℕ) (p : ℕ) where
  pub operator_short : length xs - p < 2 → None ≡ operator_at xs p
  operator_short h = go (operator_at xs p) refl
    where
      go : (f : Option ℕ) → operator_at xs p ≡ f → None ≡ f
      go (Some k) e = absurd (short (operator_rise (operator_derives xs p k e)))
        where
          short : p + 2 ≤ length xs → ⊥
          short i = omega arith
      go None e = refl

  module _ (h : 2 ≤ length xs - p) (words : List ℕ) (k : ℕ) (t : Trying words (get_or xs p 0) (get_or xs (p + 1) 0) k) where
    abbrev word : List ℕ
    word = get_or xs p 0 ∷ get_or xs (p + 1) 0 ∷ []

    module _ (g : k < 19) where
      abbrev same_bytes : Bool
      same_bytes = eqb (get_or xs p 0) (get_or words (2 * k) 0) && eqb (get_or xs (p + 1) 0) (get_or words (2 * k + 1) 0)

      tried : equal word (get_or operator_words k []) ≡ same_bytes
      tried = letters_decide words t.letters k g (get_or xs p 0) (get_or xs (p + 1) 0)

      module _ (m n : ℕ) (hb : get_or xs (p + 1) 0 < 256) (u : m ≡ from_be_bytes w16 word) (v : n ≡ from_be_bytes w16 (get_or words (2 * k) 0 ∷ get_or words (2 * k + 1) 0 ∷ [])) where
        pub trying_found : m ≡ n → Some k ≡ operator_at xs p
        unfolding operator_at
        trying_found e = rw (two_bytes_lem xs p h, t.left, try_step k word g, tried ∙ sym (letters_same _ _ _ _ m n hb (second_byte words t.letters k g) u v e))

        pub trying_next : (m ≡ n → ⊥) → Trying words (get_or xs p 0) (get_or xs (p + 1) 0) (k + 1)
        trying_next f =
            record { letters = t.letters; few = omega arith; left = t.left ∙ rw (try_step k word g, tried ∙ sym (letters_other _ _ _ _ m n hb (second_byte words t.letters k g) u v f)) }

    pub trying_ends : 19 ≤ k → None ≡ operator_at xs p
    unfolding operator_at find_operator
    trying_ends g =
        let n : length operator_words ≤ k = rw many_words g in
        rw (two_bytes_lem xs p h, t.left, drop_of_length-le operator_words n)
