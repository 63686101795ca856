-- The plain spelling is read back as the same tests, joined, negated and grouped the same.
-- `Spellable d f` is what the derivation of any text shows of its tree (`filter_spellable`): names, operators, values with a spelling, and
-- brackets nested at most d deep. By induction on it, where the plain spelling stands in a text before something that may follow, the
-- grammar derives it there, with a tree that differs in positions only (`item-written`, `written`). The brackets that the plain spelling
-- has around a join stood in the source too, so the nesting left is enough. As a text spells one tree, two trees have one plain spelling
-- exactly where they differ in positions only (`same_bytes`), and spelling again gives the same bytes (`again`).
-- Assumes nothing.
use Prim.Native.Nat.{ℕ, suc, ◌+◌, ◌≤◌, ◌<◌}
use Prim.Native.Char.{code}
use native.Mathlib.Omega.{arith}
use mathlib.Core.Path.{◌≡◌, refl, ap, sym, ◌∙◌, subst}
use mathlib.Core.Bool.{Bool, false}
use mathlib.Core.Logic.{◌↔◌}
use mathlib.Core.List.{List, [], ◌∷◌, ◌++◌, append_assoc, append-nil}
use lib.ListN.{length, drop, length-append, length-map}
use Rattle.base.specs.Ascii.{ascii}
use Rattle.base.specs.Names.{Name}
use Rattle.base.specs.Operators.{operator_words}
use Rattle.syntax.specs.Tree.{name, Test, moved, under, Tree, test, bracketed, join, negation, tests_of, erase}
use Rattle.syntax.specs.declared.Connective.{Connective}
use Rattle.syntax.specs.Grammar.{no_space, gap, Follows, the_end, a_space, a_close, TestAt, a_test, Connects, connects, opens, opens_not, closes, chooses, round, square, Item, item_test, item_bracket, item_not, item_bracketed, Filter, one_item, one_more, Spells, deepest, most_tests}
use Rattle.syntax.proofs.Words.{stands_after}
use Rattle.syntax.proofs.Spelling.{spells_unique}
use Rattle.plain.specs.Plain.{operator_word, plain_value, plain_test, connective_text, is_join, in_round_if, in_round, plain, operand}
use Rattle.plain.proofs.Values.{SpellableValue, value_spellable, value_written}
use Rattle.plain.proofs.Length.{plain-erase, word-length, test_length, choice_length, join-length, round-length}

-- ---- what can be spelled with brackets nested d deep

pub data SpellableTest : Test → Type 0 where
  spellable_test : {p k : ℕ} {n v : List ℕ} → Name n → k < length operator_words → SpellableValue v → SpellableTest (record { at = p; path = name n; operator = k; value = v })

mutual
  pub data SpellableItem : ℕ → Tree → Type 0 where
    as_test : {d : ℕ} {t : Test} → SpellableTest t → SpellableItem d (test t)
    as_bracketed : {d p : ℕ} {n : List ℕ} {f : Tree} {t : Test} → Name n → Spellable d f → SpellableTest t → SpellableItem (suc d) (bracketed p n f t)
    as_not : {d : ℕ} {f : Tree} → Spellable d f → SpellableItem (suc d) (negation f)
    as_group : {d : ℕ} {c : Connective} {f g : Tree} → Spellable d (join c f g) → SpellableItem (suc d) (join c f g)

  pub data Spellable : ℕ → Tree → Type 0 where
    by_itself : {d : ℕ} {f : Tree} → is_join f ≡ false → SpellableItem d f → Spellable d f
    joined : {d : ℕ} {c : Connective} {f g : Tree} → Spellable d f → SpellableItem d g → Spellable d (join c f g)

mutual
  deeper_item : {d : ℕ} {f : Tree} → SpellableItem d f → SpellableItem (suc d) f
  deeper_item (as_test t) = as_test t
  deeper_item (as_bracketed n s t) = as_bracketed n (deeper s) t
  deeper_item (as_not s) = as_not (deeper s)
  deeper_item (as_group s) = as_group (deeper s)

  deeper : {d : ℕ} {f : Tree} → Spellable d f → Spellable (suc d) f
  deeper (by_itself e i) = by_itself e (deeper_item i)
  deeper (joined s i) = joined (deeper s) (deeper_item i)

pub alone : {d : ℕ} {f : Tree} → SpellableItem d f → Spellable d f
alone (as_test t) = by_itself refl (as_test t)
alone (as_bracketed n s t) = by_itself refl (as_bracketed n s t)
alone (as_not s) = by_itself refl (as_not s)
alone (as_group s) = deeper s

pub grouped : {d : ℕ} {f : Tree} → Spellable d f → SpellableItem (suc d) f
grouped (by_itself e i) = deeper_item i
grouped (joined s i) = as_group (joined s i)

test_spellable : {xs : List ℕ} {close p q : ℕ} {t : Test} → TestAt xs close p q t → SpellableTest t
test_spellable (a_test s h g o i w f) = spellable_test h o.one_of (value_spellable w)

mutual
  item_spellable : {xs : List ℕ} {close d p q : ℕ} {f : Tree} → Item xs close d p q f → SpellableItem d f
  item_spellable (item_test h) = as_test (test_spellable h)
  item_spellable (item_bracket o i c) = grouped (filter_spellable i)
  item_spellable (item_not o i c) = as_not (filter_spellable i)
  item_spellable (item_bracketed (chooses s n o w) i c v h) = as_bracketed n (filter_spellable i) (test_spellable h)

  filter_spellable : {xs : List ℕ} {close d p q : ℕ} {f : Tree} → Filter xs close d p q f → Spellable d f
  filter_spellable (one_item i) = alone (item_spellable i)
  filter_spellable (one_more l j i) = joined (filter_spellable l) (item_spellable i)

-- ---- small facts

connective_follows : (close : ℕ) (c : Connective) (w rest : List ℕ) → Follows close ((connective_text c ++ w) ++ rest)
connective_follows close Connective.And w rest = a_space
connective_follows close Connective.Or w rest = a_space

join_erased : (c : Connective) (f f' g g' : Tree) → erase f ≡ erase f' → erase g ≡ erase g' → erase (join c f g) ≡ erase (join c f' g')
unfolding erase
join_erased c f f' g g' a b = ap (λ (x : Tree). join c x (erase g)) a ∙ ap (λ (x : Tree). join c (erase f') x) b

-- ---- what is written at p, before the rest

module _ (xs : List ℕ) where
  -- the bytes w stand at p, and rest after them
  abbrev At : ℕ → List ℕ → List ℕ → Type 0
  At p w rest = drop p xs ≡ w ++ rest

  after : (p : ℕ) (w rest : List ℕ) → At p w rest → drop (p + length w) xs ≡ rest
  after p w rest h = stands_after xs p w (rest, h)

  split : (p : ℕ) (v w rest : List ℕ) → At p (v ++ w) rest → At p v (w ++ rest)
  split p v w rest h = h ∙ append_assoc v w rest

  record TestWritten (close p : ℕ) (t : Test) : Type 0 where
    test : Test
    here : TestAt xs close p (p + length (plain_test t)) test
    same : moved 0 test ≡ moved 0 t

  record ItemWritten (close d p : ℕ) (f : Tree) : Type 0 where
    tree : Tree
    here : Item xs close d p (p + length (operand f)) tree
    same : erase tree ≡ erase f

  record Written (close d p : ℕ) (f : Tree) : Type 0 where
    tree : Tree
    here : Filter xs close d p (p + length (plain f)) tree
    same : erase tree ≡ erase f

  test_written : {t : Test} → SpellableTest t → (close p : ℕ) (rest : List ℕ) → Follows close rest → At p (plain_test t) rest → TestWritten close p t
  unfolding plain_test
  test_written (spellable_test {p = q} {k = k} {n = n} {v = v} m l s) close p rest f h =
      let e : ℕ = p + length n in
      let h1 : drop p xs ≡ n ++ (0x20 ∷ ((operator_word k ++ (ascii " " ++ plain_value v)) ++ rest)) = split p n (ascii " " ++ (operator_word k ++ (ascii " " ++ plain_value v))) rest h in
      let h2 : drop e xs ≡ 0x20 ∷ ((operator_word k ++ (ascii " " ++ plain_value v)) ++ rest) = after p n (0x20 ∷ ((operator_word k ++ (ascii " " ++ plain_value v)) ++ rest)) h1 in
      let h3 : drop (e + 1) xs ≡ (operator_word k ++ (ascii " " ++ plain_value v)) ++ rest = after e (0x20 ∷ []) ((operator_word k ++ (ascii " " ++ plain_value v)) ++ rest) h2 in
      let h4 : drop (e + 1) xs ≡ operator_word k ++ (0x20 ∷ (plain_value v ++ rest)) = h3 ∙ append_assoc (operator_word k) (ascii " " ++ plain_value v) rest in
      let h5 : drop (e + 1 + length (operator_word k)) xs ≡ 0x20 ∷ (plain_value v ++ rest) = after (e + 1) (operator_word k) (0x20 ∷ (plain_value v ++ rest)) h4 in
      let t : length (operator_word k) ≡ 2 = word-length k l in
      let h6 : drop (e + 1 + 2) xs ≡ 0x20 ∷ (plain_value v ++ rest) = subst (λ (x : ℕ). drop (e + 1 + x) xs ≡ 0x20 ∷ (plain_value v ++ rest)) t h5 in
      let h7 : drop (e + 1 + 2 + 1) xs ≡ plain_value v ++ rest = after (e + 1 + 2) (0x20 ∷ []) (plain_value v ++ rest) h6 in
      let h8 : drop (e + 1 + 2 + 1 + length (plain_value v)) xs ≡ rest = after (e + 1 + 2 + 1) (plain_value v) rest h7 in
      let u : Test = record { at = p; path = name n; operator = k; value = v } in
      let i : TestAt xs close p (e + 1 + 2 + 1 + length (plain_value v)) u =
      a_test (0x20 ∷ ((operator_word k ++ (ascii " " ++ plain_value v)) ++ rest), h1) m (gap (((operator_word k ++ (ascii " " ++ plain_value v)) ++ rest), h2) no_space) (record { one_of = l; stands = (0x20 ∷ (plain_value v ++ rest), h4) })
      (gap (plain_value v ++ rest, h6) no_space) (value_written xs (e + 1 + 2 + 1) rest v s h7) (subst (Follows close) (sym h8) f) in
      let z : e + 1 + 2 + 1 + length (plain_value v) ≡ p + length (n ++ (ascii " " ++ (operator_word k ++ (ascii " " ++ plain_value v)))) = omega (arith, test_length n (operator_word k) (plain_value v), t) in
      record { test = u; here = subst (λ (x : ℕ). TestAt xs close p x u) z i; same = refl }

  connects_written : (m : ℕ) (c : Connective) (rest : List ℕ) → drop m xs ≡ connective_text c ++ rest → Connects xs m (m + length (connective_text c)) c
  connects_written m Connective.And rest h =
      let h1 : drop (m + 1) xs ≡ ascii "and " ++ rest = after m (0x20 ∷ []) (ascii "and " ++ rest) h in
      let z : m + 1 + 4 ≡ m + 5 = omega arith in
      subst (λ (x : ℕ). Connects xs m x Connective.And) z (connects (gap (ascii "and " ++ rest, h) no_space) (rest, h1) no_space)
  connects_written m Connective.Or rest h =
      let h1 : drop (m + 1) xs ≡ ascii "or " ++ rest = after m (0x20 ∷ []) (ascii "or " ++ rest) h in
      let z : m + 1 + 3 ≡ m + 4 = omega arith in
      subst (λ (x : ℕ). Connects xs m x Connective.Or) z (connects (gap (ascii "or " ++ rest, h) no_space) (rest, h1) no_space)

  mutual
    unfolding plain erase

    item-written : {d : ℕ} {f : Tree} → SpellableItem d f → (close p : ℕ) (rest : List ℕ) → Follows close rest → At p (operand f) rest → ItemWritten close d p f
    item-written (as_test {d = d} {t = t} s) close p rest g h =
        let w : TestWritten close p t = test_written s close p rest g h in
        record { tree = test w.test; here = item_test w.here; same = ap (λ (x : Test). test x) w.same }
    item-written (as_bracketed {d = d} {p = q} {n = n} {f = f} {t = t} k s l) close p rest g h =
        let m : List ℕ = plain_test t in
        let e : ℕ = p + length n in
        let h1 : drop p xs ≡ n ++ (code "[" ∷ ((plain f ++ (ascii "]." ++ m)) ++ rest)) = split p n (ascii "[" ++ (plain f ++ (ascii "]." ++ m))) rest h in
        let h2 : drop e xs ≡ code "[" ∷ ((plain f ++ (ascii "]." ++ m)) ++ rest) = after p n (code "[" ∷ ((plain f ++ (ascii "]." ++ m)) ++ rest)) h1 in
        let h3 : drop (e + 1) xs ≡ plain f ++ (code "]" ∷ (code "." ∷ (m ++ rest))) = after e (ascii "[") ((plain f ++ (ascii "]." ++ m)) ++ rest) h2 ∙ append_assoc (plain f) (ascii "]." ++ m) rest in
        let w : Written square d (e + 1) f = written s square (e + 1) (code "]" ∷ (code "." ∷ (m ++ rest))) a_close h3 in
        let c : ℕ = e + 1 + length (plain f) in
        let h4 : drop c xs ≡ code "]" ∷ (code "." ∷ (m ++ rest)) = after (e + 1) (plain f) (code "]" ∷ (code "." ∷ (m ++ rest))) h3 in
        let h5 : drop (c + 1) xs ≡ code "." ∷ (m ++ rest) = after c (ascii "]") (code "." ∷ (m ++ rest)) h4 in
        let h6 : drop (c + 1 + 1) xs ≡ m ++ rest = after (c + 1) (ascii ".") (m ++ rest) h5 in
        let u : TestWritten close (c + 1 + 1) t = test_written l close (c + 1 + 1) rest g h6 in
        let z : c + 1 + 1 + length m ≡ p + length (n ++ (ascii "[" ++ (plain f ++ (ascii "]." ++ m)))) = omega (arith, choice_length n (plain f) m) in
        record {
          tree = bracketed p n w.tree u.test;
          here = subst (λ (x : ℕ). Item xs close (suc d) p x (bracketed p n w.tree u.test)) z
              (item_bracketed (chooses (code "[" ∷ ((plain f ++ (ascii "]." ++ m)) ++ rest), h1) k (((plain f ++ (ascii "]." ++ m)) ++ rest), h2) no_space) w.here (closes no_space (code "." ∷ (m ++ rest), h4)) (m ++ rest, h5) u.here);
          same = ap (λ (x : Tree). bracketed 0 n x (moved 0 u.test)) w.same ∙ ap (λ (x : Test). bracketed 0 n (erase f) x) u.same;
        }
    item-written (as_not {d = d} {f = f} s) close p rest g h =
        let h0 : drop p xs ≡ ascii "not" ++ (code "(" ∷ ((plain f ++ ascii ")") ++ rest)) = h in
        let h1 : drop (p + 3) xs ≡ code "(" ∷ ((plain f ++ ascii ")") ++ rest) = after p (ascii "not") (code "(" ∷ ((plain f ++ ascii ")") ++ rest)) h0 in
        let h2 : drop (p + 3 + 1) xs ≡ plain f ++ (round ∷ rest) = after (p + 3) (ascii "(") ((plain f ++ ascii ")") ++ rest) h1 ∙ append_assoc (plain f) (ascii ")") rest in
        let w : Written round d (p + 3 + 1) f = written s round (p + 3 + 1) (round ∷ rest) a_close h2 in
        let h3 = after (p + 3 + 1) (plain f) (round ∷ rest) h2 in
        let z : p + 3 + 1 + length (plain f) + 1 ≡ p + length (ascii "not" ++ in_round (plain f)) = omega (arith, round-length (plain f)) in
        record {
          tree = negation w.tree;
          here = subst (λ (x : ℕ). Item xs close (suc d) p x (negation w.tree)) z
              (item_not (opens_not (code "(" ∷ ((plain f ++ ascii ")") ++ rest), h0) no_space ((plain f ++ ascii ")") ++ rest, h1) no_space) w.here (closes no_space (rest, h3)));
          same = ap (λ (x : Tree). negation x) w.same;
        }
    item-written (as_group {d = d} {c = c} {f = f} {g = g} s) close p rest y h =
        let u : List ℕ = plain (join c f g) in
        let h0 : drop p xs ≡ code "(" ∷ ((u ++ ascii ")") ++ rest) = h in
        let h2 : drop (p + 1) xs ≡ u ++ (round ∷ rest) = after p (ascii "(") ((u ++ ascii ")") ++ rest) h0 ∙ append_assoc u (ascii ")") rest in
        let w : Written round d (p + 1) (join c f g) = written s round (p + 1) (round ∷ rest) a_close h2 in
        let h3 = after (p + 1) u (round ∷ rest) h2 in
        let z : p + 1 + length u + 1 ≡ p + length (in_round u) = omega (arith, round-length u) in
        record {
          tree = w.tree;
          here = subst (λ (x : ℕ). Item xs close (suc d) p x w.tree) z (item_bracket (opens ((u ++ ascii ")") ++ rest, h0) no_space) w.here (closes no_space (rest, h3)));
          same = w.same;
        }

    written : {d : ℕ} {f : Tree} → Spellable d f → (close p : ℕ) (rest : List ℕ) → Follows close rest → At p (plain f) rest → Written close d p f
    written (by_itself {d = d} {f = f} e i) close p rest g h =
        let o : operand f ≡ plain f = ap (λ (b : Bool). in_round_if b (plain f)) e in
        let w : ItemWritten close d p f = item-written i close p rest g (h ∙ ap (λ (x : List ℕ). x ++ rest) (sym o)) in
        record { tree = w.tree; here = one_item (subst (λ (x : List ℕ). Item xs close d p (p + length x) w.tree) o w.here); same = w.same }
    written (joined {d = d} {c = c} {f = f} {g = g} s i) close p rest y h =
        let h1 : drop p xs ≡ plain f ++ ((connective_text c ++ operand g) ++ rest) = split p (plain f) (connective_text c ++ operand g) rest h in
        let m : ℕ = p + length (plain f) in
        let h2 : drop m xs ≡ (connective_text c ++ operand g) ++ rest = after p (plain f) ((connective_text c ++ operand g) ++ rest) h1 in
        let h3 : drop m xs ≡ connective_text c ++ (operand g ++ rest) = h2 ∙ append_assoc (connective_text c) (operand g) rest in
        let h4 : drop (m + length (connective_text c)) xs ≡ operand g ++ rest = after m (connective_text c) (operand g ++ rest) h3 in
        let a = written s close p ((connective_text c ++ operand g) ++ rest) (connective_follows close c (operand g) rest) h1 in
        let b = item-written i close (m + length (connective_text c)) rest y h4 in
        let z : m + length (connective_text c) + length (operand g) ≡ p + length (plain f ++ (connective_text c ++ operand g)) = omega (arith, join-length c (plain f) (operand g)) in
        record {
          tree = join c a.tree b.tree;
          here = subst (λ (x : ℕ). Filter xs close d p x (join c a.tree b.tree)) z (one_more a.here (connects_written m c (operand g ++ rest) h3) b.here);
          same = join_erased c a.tree f b.tree g a.same b.same;
        }

-- ---- the whole text

tests_erase : (f : Tree) → length (tests_of (erase f)) ≡ length (tests_of f)
unfolding tests_of erase
tests_erase (test t) = refl
tests_erase (bracketed p b f t) = ap suc (length-map (tests_of (erase f)) (under b) ∙ tests_erase f ∙ sym (length-map (tests_of f) (under b)))
tests_erase (join c f g) =
    length-append (tests_of (erase f)) (tests_of (erase g)) ∙ ap (λ (x : ℕ). x + length (tests_of (erase g))) (tests_erase f)
    ∙ ap (λ (x : ℕ). length (tests_of f) + x) (tests_erase g) ∙ sym (length-append (tests_of f) (tests_of g))
tests_erase (negation f) = tests_erase f

-- a tree that can be spelled within both limits is spelled by its plain spelling, but for positions
pub spelled : (f : Tree) → Spellable deepest f → length (tests_of f) ≤ most_tests → (g : Tree) × (Spells (plain f) g × (erase g ≡ erase f))
spelled f s n =
    let w : Written (plain f) round deepest 0 f = written (plain f) s round 0 [] the_end (sym (append-nil (plain f))) in
    let e : erase w.tree ≡ erase f = w.same in
    let l : length (tests_of w.tree) ≡ length (tests_of f) = sym (tests_erase w.tree) ∙ ap (λ (x : Tree). length (tests_of x)) e ∙ tests_erase f in
    let z : 0 + length (plain f) ≡ length (plain f) = omega arith in
    let h : Filter (plain f) round deepest 0 (length (plain f)) w.tree = subst (λ (x : ℕ). Filter (plain f) round deepest 0 x w.tree) z w.here in
    let few : length (tests_of w.tree) ≤ most_tests = subst (λ (x : ℕ). x ≤ most_tests) (sym l) n in
    (w.tree, (record { from = 0; to = length (plain f); before = no_space; filter = h; after = no_space; few = few }, e))

pub reads_back : (text : List ℕ) (f : Tree) → Spells text f → (g : Tree) × (Spells (plain f) g × (erase g ≡ erase f))
reads_back text f s = spelled f (filter_spellable s.filter) s.few

-- ---- what follows, since a text spells one tree

pub same_bytes : (text other : List ℕ) (f g : Tree) → Spells text f → Spells other g → (plain f ≡ plain g) ↔ (erase f ≡ erase g)
same_bytes text other f g s t =
    let a = reads_back text f s in
    let b = reads_back other g t in (
      λ e. sym a.1.1 ∙ ap erase (spells_unique (plain g) a.0 b.0 (subst (λ (x : List ℕ). Spells x a.0) e a.1.0) b.1.0) ∙ b.1.1,
      λ e. sym (plain-erase f) ∙ ap plain e ∙ plain-erase g,
    )

pub again : (text : List ℕ) (f g : Tree) → Spells text f → Spells (plain f) g → plain g ≡ plain f
again text f g s t =
    let a = reads_back text f s in
    (same_bytes (plain f) text g f t s).1 (ap erase (spells_unique (plain f) g a.0 t a.1.0) ∙ a.1.1)
