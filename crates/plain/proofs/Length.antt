-- The plain spelling forgets where the tests stood, and is never longer than its source; what 02 says of it leaves nothing free.
-- Assumes nothing.
use Prim.Native.Nat.{ℕ, ◌+◌, ◌≤◌, ◌<◌}
use native.Mathlib.Omega.{arith}
use mathlib.Core.Path.{◌≡◌, refl, ap, ◌∙◌}
use mathlib.Core.Bool.{Bool}
use mathlib.Core.List.{List, ◌++◌}
use lib.ListN.{length, length-append}
use Rattle.base.specs.Ascii.{ascii}
use Rattle.base.specs.Operators.{operator_words}
use Rattle.base.proofs.Below.{passes_same}
use Rattle.syntax.specs.Tree.{Test, Tree, test, bracketed, join, negation, erase}
use Rattle.syntax.specs.declared.Connective.{Connective}
use Rattle.syntax.specs.Grammar.{TestAt, a_test, Connects, connects, opens, opens_not, closes, chooses, Item, item_test, item_bracket, item_not, item_bracketed, Filter, one_item, one_more, Spells}
use Rattle.syntax.proofs.Words.{spaces_rise, gap_rise}
use Rattle.plain.specs.Plain.{operator_word, plain_value, plain_test, connective_text, is_join, in_round_if, in_round, plain, operand}
use Rattle.plain.specs.Laws.{Determined}
use Rattle.plain.proofs.Values.{value_short}

-- ---- positions do not matter

join-erase : (f : Tree) → is_join (erase f) ≡ is_join f
unfolding erase
join-erase (test t) = refl
join-erase (bracketed p b f t) = refl
join-erase (join c f g) = refl
join-erase (negation f) = refl

join-same : (c : Connective) (a a' b b' : List ℕ) (j j' : Bool) → a ≡ a' → b ≡ b' → j ≡ j' → a ++ (connective_text c ++ in_round_if j b) ≡ a' ++ (connective_text c ++ in_round_if j' b')
join-same c a a' b b' j j' e f g = cc

pub plain-erase : (f : Tree) → plain (erase f) ≡ plain f
unfolding plain erase plain_test
plain-erase (test t) = refl
plain-erase (bracketed p b f t) = ap (λ (s : List ℕ). b ++ (ascii "[" ++ (s ++ (ascii "]." ++ plain_test t)))) (plain-erase f)
plain-erase (join c f g) = join-same c (plain (erase f)) (plain f) (plain (erase g)) (plain g) (is_join (erase g)) (is_join g) (plain-erase f) (plain-erase g) (join-erase g)
plain-erase (negation f) = ap (λ (s : List ℕ). ascii "not" ++ in_round s) (plain-erase f)

-- ---- lengths of the parts

pub word-length : (k : ℕ) → k < length operator_words → length (operator_word k) ≡ 2
unfolding operator_words
word-length k l = passes_same (λ (i : ℕ). length (operator_word i)) (λ (i : ℕ). 2) 19 refl k l

pub round-length : (s : List ℕ) → length (in_round s) ≡ length s + 2
round-length s = let e = length-append s (ascii ")") in omega (arith, e)

pub test_length : (n w v : List ℕ) → length (n ++ (ascii " " ++ (w ++ (ascii " " ++ v)))) ≡ length n + (length w + (length v + 2))
test_length n w v =
    let a = length-append n (ascii " " ++ (w ++ (ascii " " ++ v))) in
    let b = length-append w (ascii " " ++ v) in
    omega (arith, a, b)

pub choice_length : (n s m : List ℕ) → length (n ++ (ascii "[" ++ (s ++ (ascii "]." ++ m)))) ≡ length n + (length s + (length m + 3))
choice_length n s m =
    let a = length-append n (ascii "[" ++ (s ++ (ascii "]." ++ m))) in
    let b = length-append s (ascii "]." ++ m) in
    omega (arith, a, b)

pub join-length : (c : Connective) (a b : List ℕ) → length (a ++ (connective_text c ++ b)) ≡ length a + (length (connective_text c) + length b)
join-length c a b = let e = length-append a (connective_text c ++ b) in let f = length-append (connective_text c) b in omega (arith, e, f)

pub operand_long : (f : Tree) → length (operand f) ≤ length (plain f) + 2
operand_long (test t) = omega arith
operand_long (bracketed p b f t) = omega arith
operand_long (join c f g) = let e = round-length (plain (join c f g)) in omega (arith, e)
operand_long (negation f) = omega arith

pub operand_short : (f : Tree) → length (plain f) ≤ length (operand f)
operand_short (test t) = omega arith
operand_short (bracketed p b f t) = omega arith
operand_short (join c f g) = let e = round-length (plain (join c f g)) in omega (arith, e)
operand_short (negation f) = omega arith

-- ---- no source is shorter

pub connects_long : {xs : List ℕ} {p q : ℕ} {c : Connective} → Connects xs p q c → p + length (connective_text c) ≤ q
connects_long {xs} {p} {q} (connects {c = Connective.And} g s w) = omega (arith, gap_rise g, spaces_rise w)
connects_long {xs} {p} {q} (connects {c = Connective.Or} g s w) = omega (arith, gap_rise g, spaces_rise w)

pub test_short : {xs : List ℕ} {close p q : ℕ} {t : Test} → TestAt xs close p q t → p + length (plain_test t) ≤ q
unfolding plain_test
test_short (a_test {k = k} {n = n} {v = v} s h g o i w f) =
    omega (arith, test_length n (operator_word k) (plain_value v), gap_rise g, gap_rise i, word-length k o.one_of, value_short w)

mutual
  unfolding plain

  pub item_short : {xs : List ℕ} {close d p q : ℕ} {f : Tree} → Item xs close d p q f → p + length (operand f) ≤ q
  item_short (item_test h) = test_short h
  item_short (item_bracket {f = f} (opens s w) i (closes z t)) = omega (arith, operand_long f, spaces_rise w, spaces_rise z, filter_short i)
  item_short (item_not {f = f} (opens_not s w t z) i (closes y u)) = omega (arith, round-length (plain f), spaces_rise w, spaces_rise z, spaces_rise y, filter_short i)
  item_short (item_bracketed {n = n} {f = f} {t = t} (chooses s h o w) i (closes z u) v k) = omega (arith, choice_length n (plain f) (plain_test t), spaces_rise w, spaces_rise z, filter_short i, test_short k)

  pub filter_short : {xs : List ℕ} {close d p q : ℕ} {f : Tree} → Filter xs close d p q f → p + length (plain f) ≤ q
  filter_short (one_item {f = f} i) = omega (arith, item_short i, operand_short f)
  filter_short (one_more {c = c} {f = f} {g = g} l j i) = omega (arith, join-length c (plain f) (operand g), filter_short l, connects_long j, item_short i)

pub never_longer : (text : List ℕ) (f : Tree) → Spells text f → length (plain f) ≤ length text
never_longer text f s = omega (arith, spaces_rise s.before, spaces_rise s.after, filter_short s.filter)

-- ---- two functions of which it all holds agree

pub determined : Determined
determined spell spell' a b text f s =
    let back = a.reads_back text f s in
    let back' = b.reads_back text f s in
    let g = back.0 in
    let g' = back'.0 in
    let sg : Spells (spell f) g = back.1.0 in
    let sg' : Spells (spell' f) g' = back'.1.0 in
    let e : spell g' ≡ spell f = (a.same_bytes (spell' f) text g' f sg' s).1 back'.1.1 in
    let e' : spell' g ≡ spell' f = (b.same_bytes (spell f) text g f sg s).1 back.1.1 in
    let l : length (spell g') ≤ length (spell' f) = a.never_longer (spell' f) g' sg' in
    let l' : length (spell' g) ≤ length (spell f) = b.never_longer (spell f) g sg in
    let m : length (spell g') ≡ length (spell f) = ap (λ (x : List ℕ). length x) e in
    let m' : length (spell' g) ≡ length (spell' f) = ap (λ (x : List ℕ). length x) e' in
    let n : length (spell f) ≡ length (spell' g) = omega arith in
    b.shortest (spell f) g sg n ∙ e'
