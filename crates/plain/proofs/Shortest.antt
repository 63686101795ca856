-- A text as short as the plain spelling of its tree is that spelling: each of its parts is, since none can be shorter.
-- By induction on the derivation (`item_tight`, `filter_tight`). No part is shorter than its plain form (file Length), so where the whole
-- is as short, each part is: one space for a gap and none elsewhere, no round brackets but those of not and those around a join behind a
-- connective (`bracket_tight`, `operand_tight`), and the plain value of each test. A part as short as its plain form is that form.
-- `plain-spelling` has all laws of the plain spelling together.
-- Assumes nothing.
use Prim.Native.Nat.{ℕ, ◌+◌, ◌≤◌}
use native.Mathlib.Omega.{arith}
use mathlib.Core.Path.{◌≡◌, refl, ap, sym, ◌∙◌}
use mathlib.Core.Bool.{true, false}
use mathlib.Core.List.{List, [], ◌∷◌, ◌++◌, append_assoc, append-nil}
use lib.ListN.{length, drop}
use lib.Seq.{drop-length}
use Rattle.base.specs.Ascii.{ascii}
use Rattle.syntax.specs.Tree.{Test, Tree, test, bracketed, join, negation}
use Rattle.syntax.specs.declared.Connective.{Connective}
use Rattle.syntax.specs.Grammar.{Gap, gap, TestAt, a_test, Connects, connects, Opens, opens, opens_not, Closes, closes, chooses, round, Item, item_test, item_bracket, item_not, item_bracketed, Filter, one_item, one_more, Spells}
use Rattle.syntax.proofs.Words.{spaces_rise, gap_rise}
use Rattle.plain.specs.Plain.{operator_word, plain_value, plain_test, connective_text, plain, operand}
use Rattle.plain.specs.Laws.{PlainSpelling}
use Rattle.plain.proofs.Values.{value_short, stands_tight, value_tight}
use Rattle.plain.proofs.Length.{word-length, test_length, choice_length, join-length, round-length, connects_long, test_short, item_short, filter_short, never_longer}
use Rattle.plain.proofs.Reading.{reads_back, same_bytes, again}

-- ---- parts

gap_tight : {xs : List ℕ} {p q : ℕ} → Gap xs p q → q ≡ p + 1 → drop p xs ≡ 0x20 ∷ drop q xs
gap_tight {xs} {p} {q} (gap s w) e = stands_tight xs p q (0x20 ∷ []) s e

connects_tight : {xs : List ℕ} {p q : ℕ} {c : Connective} → Connects xs p q c → q ≡ p + length (connective_text c) → drop p xs ≡ connective_text c ++ drop q xs
connects_tight {xs} (connects {p = p} {a = a} {q = q} {c = Connective.And} g s w) e =
    let i : a ≡ p + 1 = omega (arith, gap_rise g, spaces_rise w) in
    let j : q ≡ a + 4 = omega arith in
    gap_tight g i ∙ ap (λ (t : List ℕ). 0x20 ∷ t) (stands_tight xs a q (ascii "and ") s j)
connects_tight {xs} (connects {p = p} {a = a} {q = q} {c = Connective.Or} g s w) e =
    let i : a ≡ p + 1 = omega (arith, gap_rise g, spaces_rise w) in
    let j : q ≡ a + 3 = omega arith in
    gap_tight g i ∙ ap (λ (t : List ℕ). 0x20 ∷ t) (stands_tight xs a q (ascii "or ") s j)

-- one part after another
chain : (a b c d rest : List ℕ) → a ≡ b ++ c → c ≡ d ++ rest → a ≡ (b ++ d) ++ rest
chain a b c d rest h k = h ∙ ap (λ (x : List ℕ). b ++ x) k ∙ sym (append_assoc b d rest)

closed : {xs : List ℕ} {close p q : ℕ} → Closes xs close p q → q ≡ p + 1 → drop p xs ≡ close ∷ drop q xs
closed {xs} {close} (closes {p = p} {a = a} w s) e =
    let i : a ≡ p = omega (arith, spaces_rise w) in
    ap (λ (k : ℕ). drop k xs) (sym i) ∙ stands_tight xs a (a + 1) (close ∷ []) s refl

opened : {xs : List ℕ} {p q : ℕ} → Opens xs p q false → q ≡ p + 1 → drop p xs ≡ ascii "(" ++ drop q xs
opened {xs} (opens {p = p} {q = q} s w) e = stands_tight xs p q (ascii "(") s e

opened_not : {xs : List ℕ} {p q : ℕ} → Opens xs p q true → q ≡ p + 4 → drop p xs ≡ ascii "not(" ++ drop q xs
opened_not {xs} (opens_not {p = p} {a = a} {q = q} s w t z) e =
    let i : a ≡ p + 3 = omega (arith, spaces_rise w, spaces_rise z) in
    let j : q ≡ a + 1 = omega arith in
    stands_tight xs p a (ascii "not") s i ∙ ap (λ (x : List ℕ). ascii "not" ++ x) (stands_tight xs a q (ascii "(") t j)

-- what stands between brackets
between : (xs : List ℕ) (p a b q : ℕ) (opening u : List ℕ) (close : ℕ) → drop p xs ≡ opening ++ drop a xs → drop a xs ≡ u ++ drop b xs → drop b xs ≡ close ∷ drop q xs
    → drop p xs ≡ (opening ++ (u ++ (close ∷ []))) ++ drop q xs
between xs p a b q opening u close h k l =
    chain (drop p xs) opening (drop a xs) (u ++ (close ∷ [])) (drop q xs) h (chain (drop a xs) u (drop b xs) (close ∷ []) (drop q xs) k l)

opens_long : {xs : List ℕ} {p q : ℕ} → Opens xs p q false → p + 1 ≤ q
opens_long (opens s w) = omega (arith, spaces_rise w)

opens_not_long : {xs : List ℕ} {p q : ℕ} → Opens xs p q true → p + 4 ≤ q
opens_not_long (opens_not s w t z) = omega (arith, spaces_rise w, spaces_rise z)

closes_long : {xs : List ℕ} {close p q : ℕ} → Closes xs close p q → p + 1 ≤ q
closes_long (closes w s) = omega (arith, spaces_rise w)

-- a bracket that is not idle is one around a join
bracket_tight : (xs : List ℕ) (p a b q : ℕ) (f : Tree) → Opens xs p a false → (b ≡ a + length (plain f) → drop a xs ≡ plain f ++ drop b xs) → Closes xs round b q → a + length (plain f) ≤ b → q ≡ p + length (operand f)
    → drop p xs ≡ operand f ++ drop q xs
bracket_tight xs p a b q (test t) o h c l e = absurd (omega (arith, opens_long o, closes_long c))
bracket_tight xs p a b q (bracketed r n f t) o h c l e = absurd (omega (arith, opens_long o, closes_long c))
bracket_tight xs p a b q (negation f) o h c l e = absurd (omega (arith, opens_long o, closes_long c))
bracket_tight xs p a b q (join d f g) o h c l e =
    let u : List ℕ = plain (join d f g) in
    let m = round-length u in
    between xs p a b q (ascii "(") u round (opened o (omega (arith, m, opens_long o, closes_long c))) (h (omega (arith, m, opens_long o, closes_long c))) (closed c (omega (arith, m, opens_long o, closes_long c)))

operand_tight : (f : Tree) (p q : ℕ) → p + length (operand f) ≤ q → q ≡ p + length (plain f) → operand f ≡ plain f
operand_tight (test t) p q l e = refl
operand_tight (bracketed r n f t) p q l e = refl
operand_tight (negation f) p q l e = refl
operand_tight (join c f g) p q l e = absurd (omega (arith, round-length (plain (join c f g))))

test_tight : {xs : List ℕ} {close p q : ℕ} {t : Test} → TestAt xs close p q t → q ≡ p + length (plain_test t) → drop p xs ≡ plain_test t ++ drop q xs
unfolding plain_test
test_tight {xs} {close} {p} {q} (a_test {a = a} {b = b} {k = k} {n = n} {v = v} s h g o i w f) r =
    let l = test_length n (operator_word k) (plain_value v) in
    let t = word-length k o.one_of in
    let y = gap_rise g in
    let z = gap_rise i in
    let u = value_short w in
    let e : ℕ = p + length n in
    let a1 : a ≡ e + 1 = omega arith in
    let b1 : b ≡ a + 2 + 1 = omega arith in
    let q1 : q ≡ b + length (plain_value v) = omega arith in
    let w1 : a + 2 ≡ a + length (operator_word k) = omega arith in
    chain (drop p xs) n (drop e xs) (ascii " " ++ (operator_word k ++ (ascii " " ++ plain_value v))) (drop q xs) (stands_tight xs p e n s refl)
    (chain (drop e xs) (ascii " ") (drop a xs) (operator_word k ++ (ascii " " ++ plain_value v)) (drop q xs) (gap_tight g a1)
    (chain (drop a xs) (operator_word k) (drop (a + 2) xs) (ascii " " ++ plain_value v) (drop q xs) (stands_tight xs a (a + 2) (operator_word k) o.stands w1)
    (chain (drop (a + 2) xs) (ascii " ") (drop b xs) (plain_value v) (drop q xs) (gap_tight i b1) (value_tight w q1))))

-- ---- items and filters

mutual
  unfolding plain

  item_tight : {xs : List ℕ} {close d p q : ℕ} {f : Tree} → Item xs close d p q f → q ≡ p + length (operand f) → drop p xs ≡ operand f ++ drop q xs
  item_tight (item_test h) r = test_tight h r
  item_tight {xs} {close} {d} {p} {q} (item_bracket {a = a} {b = b} {f = f} o i c) r = bracket_tight xs p a b q f o (λ e. filter_tight i e) c (filter_short i) r
  item_tight {xs} {close} {d} {p} {q} (item_not {a = a} {b = b} {f = f} o i c) r =
      let m = round-length (plain f) in
      let x = opens_not_long o in
      let y = closes_long c in
      let z = filter_short i in
      let a1 : a ≡ p + 4 = omega arith in
      let b1 : b ≡ a + length (plain f) = omega arith in
      let q1 : q ≡ b + 1 = omega arith in
      between xs p a b q (ascii "not(") (plain f) round (opened_not o a1) (filter_tight i b1) (closed c q1)
  item_tight {xs} {close} {d} {p} {q} (item_bracketed {a = a} {b = b} {m = c} {n = n} {f = f} {t = t} (chooses s h o w) i z v k) r =
      let l = choice_length n (plain f) (plain_test t) in
      let y = filter_short i in
      let x = spaces_rise w in
      let g = closes_long z in
      let j = test_short k in
      let e : ℕ = p + length n in
      let a1 : a ≡ e + 1 = omega arith in
      let b1 : b ≡ a + length (plain f) = omega arith in
      let c1 : c ≡ b + 1 = omega arith in
      let q1 : q ≡ c + 1 + length (plain_test t) = omega arith in
      chain (drop p xs) n (drop e xs) (ascii "[" ++ (plain f ++ (ascii "]." ++ plain_test t))) (drop q xs) (stands_tight xs p e n s refl)
      (chain (drop e xs) (ascii "[") (drop a xs) (plain f ++ (ascii "]." ++ plain_test t)) (drop q xs) (stands_tight xs e a (ascii "[") o a1)
      (chain (drop a xs) (plain f) (drop b xs) (ascii "]." ++ plain_test t) (drop q xs) (filter_tight i b1)
      (chain (drop b xs) (ascii "]") (drop c xs) (ascii "." ++ plain_test t) (drop q xs) (closed z c1)
      (chain (drop c xs) (ascii ".") (drop (c + 1) xs) (plain_test t) (drop q xs) (stands_tight xs c (c + 1) (ascii ".") v refl) (test_tight k q1)))))

  filter_tight : {xs : List ℕ} {close d p q : ℕ} {f : Tree} → Filter xs close d p q f → q ≡ p + length (plain f) → drop p xs ≡ plain f ++ drop q xs
  filter_tight {xs} {close} {d} {p} {q} (one_item {f = f} i) r =
      let o : operand f ≡ plain f = operand_tight f p q (item_short i) r in
      let e : q ≡ p + length (operand f) = r ∙ ap (λ (x : List ℕ). p + length x) (sym o) in
      item_tight i e ∙ ap (λ (x : List ℕ). x ++ drop q xs) o
  filter_tight {xs} {close} {d} {p} {q} (one_more {m = m} {a = a} {c = c} {f = f} {g = g} l j i) r =
      let o = join-length c (plain f) (operand g) in
      let s : m ≡ p + length (plain f) = omega (arith, o, filter_short l, connects_long j, item_short i) in
      let t : a ≡ m + length (connective_text c) = omega (arith, o, filter_short l, connects_long j, item_short i) in
      let u : q ≡ a + length (operand g) = omega (arith, o, filter_short l, connects_long j, item_short i) in
      chain (drop p xs) (plain f) (drop m xs) (connective_text c ++ operand g) (drop q xs) (filter_tight l s) (chain (drop m xs) (connective_text c) (drop a xs) (operand g) (drop q xs) (connects_tight j t) (item_tight i u))

pub shortest : (text : List ℕ) (f : Tree) → Spells text f → length text ≡ length (plain f) → text ≡ plain f
shortest text f s e =
    let a : s.from ≡ 0 = omega (arith, spaces_rise s.before, spaces_rise s.after, filter_short s.filter) in
    let b : s.to ≡ length text = omega (arith, spaces_rise s.before, spaces_rise s.after, filter_short s.filter) in
    let c : s.to ≡ s.from + length (plain f) = omega arith in
    let h = filter_tight s.filter c in
    ap (λ (k : ℕ). drop k text) (sym a) ∙ h ∙ ap (λ (k : ℕ). plain f ++ drop k text) b ∙ ap (λ (x : List ℕ). plain f ++ x) (drop-length text) ∙ append-nil (plain f)

-- ---- all that 02 says of it

pub plain-spelling : PlainSpelling plain
plain-spelling = record { reads_back = reads_back; again = again; same_bytes = same_bytes; never_longer = never_longer; shortest = shortest }
