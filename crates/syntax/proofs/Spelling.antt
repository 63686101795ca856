-- The grammar and the reader agree: each text spells one tree at most, and the reader finds it.
-- Assumes nothing.
use Prim.Native.Nat.{ℕ, ◌+◌, ◌≤◌}
use native.Mathlib.Nat.{le_refl}
use native.Mathlib.Omega.{arith}
use mathlib.Core.Path.{◌≡◌, ap}
use mathlib.Core.Logic.{◌↔◌, ⊎_elim}
use mathlib.Core.Option.{some}
use mathlib.Core.List.Memᴰ
use mathlib.Core.List.{List, [], ◌∷◌, ◌++◌, map, Memᴰ}
use lib.ListN.{length}
use Rattle.syntax.specs.Tree.{name, Test, moved, under, Tree, tests_of, Rising, rising_end, rising_next}
use Rattle.syntax.specs.Grammar.{TestAt, a_test, Item, item_test, item_bracket, item_not, item_bracketed, Filter, one_item, one_more, Spells}
use Rattle.syntax.specs.Reader.{read}
use Rattle.syntax.proofs.Tests.{test_rise}
use Rattle.syntax.proofs.Structure.{connects_rise, opens_rise, chooses_rise, closes_rise}
use Rattle.syntax.proofs.Sound.{read_sound}
use Rattle.syntax.proofs.Complete.{read_complete, filter_rise}

-- the reader reads a tree exactly where the text spells it
pub read_iff : (xs : List ℕ) (f : Tree) → (read xs ≡ some f) ↔ Spells xs f
read_iff xs f = (read_sound xs f, read_complete xs f)

pub spells_unique : (xs : List ℕ) (f g : Tree) → Spells xs f → Spells xs g → f ≡ g
spells_unique xs f g a b = let p = read_complete xs f a in let q = read_complete xs g b in cc

pub spells_not_empty : (f : Tree) → Spells [] f → ⊥
spells_not_empty f s = omega (arith, filter_rise s.filter)

-- ---- the tests stand in the order of the text

rising_lower : {p a q : ℕ} {ts : List Test} → p ≤ a → Rising a q ts → Rising p q ts
rising_lower {p} h (rising_end {q = q} e) = rising_end {p = p} {q = q} (omega arith)
rising_lower {p} h (rising_next {t = t} e r) = rising_next {p = p} {t = t} (omega arith) r

rising_longer : {p b q : ℕ} {ts : List Test} → b ≤ q → Rising p b ts → Rising p q ts
rising_longer {q = q} h (rising_end {p = p} e) = rising_end {p = p} {q = q} (omega arith)
rising_longer h (rising_next e r) = rising_next e (rising_longer h r)

rising_append : {p m q : ℕ} {ts us : List Test} → Rising p m ts → Rising m q us → Rising p q (ts ++ us)
rising_append (rising_end e) s = rising_lower e s
rising_append (rising_next e r) s = rising_next e (rising_append r s)

-- of a part that begins later and ends earlier
rising_inside : {p a b q : ℕ} {ts : List Test} → p + 1 ≤ a → b + 1 ≤ q → Rising a b ts → Rising p q ts
rising_inside {p} {a} {b} {q} h k r =
    let low : p ≤ a = omega arith in
    let high : b ≤ q = omega arith in
    rising_lower low (rising_longer high r)

test_rising : {xs : List ℕ} {close p q : ℕ} {t : Test} → TestAt xs close p q t → p + 1 ≤ q → Rising p q (t ∷ [])
test_rising (a_test {p = p} {q = q} {k = k} {n = n} {v = v} s h g o i w f) e =
    rising_next {p = p} {t = record { at = p; path = name n; operator = k; value = v }} (le_refl p) (rising_end e)

-- a bundle's name before their paths leaves the tests where they are
rising_under : {p q : ℕ} {ts : List Test} (b : List ℕ) → Rising p q ts → Rising p q (map (under b) ts)
rising_under b (rising_end e) = rising_end e
rising_under b (rising_next {t = t} e r) = rising_next {t = under b t} e (rising_under b r)

mutual
  unfolding tests_of

  item_rising : {xs : List ℕ} {close d p q : ℕ} {f : Tree} → Item xs close d p q f → Rising p q (tests_of f)
  item_rising (item_test h) = test_rising h (test_rise h).0
  item_rising (item_bracket o i c) = rising_inside (opens_rise o).0 (closes_rise c).0 (filter_rising i)
  item_rising (item_not o i c) = rising_inside (opens_rise o).0 (closes_rise c).0 (filter_rising i)
  item_rising (item_bracketed {p = p} {a = a} {b = b} {q = q} {n = n} {t = t} o i c s h) =
      let u = chooses_rise o in
      let v = closes_rise c in
      let w = test_rise h in
      let low : p + 1 ≤ a = u.0 in
      let high : b ≤ q = omega arith in
      rising_next {p = p} {t = under n (moved p t)} (le_refl p) (rising_under n (rising_lower low (rising_longer high (filter_rising i))))

  filter_rising : {xs : List ℕ} {close d p q : ℕ} {f : Tree} → Filter xs close d p q f → Rising p q (tests_of f)
  filter_rising (one_item i) = item_rising i
  filter_rising (one_more {m = m} {a = a} l j i) =
      let v : m ≤ a = omega (arith, connects_rise j) in
      rising_append (filter_rising l) (rising_lower v (item_rising i))

pub tests_rise : (xs : List ℕ) (f : Tree) → Spells xs f → Rising 0 (length xs) (tests_of f)
tests_rise xs f s =
    let low : 0 ≤ s.from = omega arith in
    rising_lower low (rising_longer (filter_rise s.filter).1 (filter_rising s.filter))

-- no test begins before the first position
pub rising_member : {p q : ℕ} {t : Test} {ts : List Test} → Rising p q ts → Memᴰ t ts → p ≤ t.at
rising_member (rising_end h) m = absurd (Memᴰ.not-nil m)
rising_member {p = p} {t = t} (rising_next {t = u} {ts = ts} h r) m =
    ⊎_elim (λ e. let same : t.at ≡ u.at = ap (λ (x : Test). x.at) e in omega arith) (λ k. let l = rising_member r k in omega arith) (Memᴰ.cases_cons m)

-- so there are fewer tests than bytes
rising_count : {p q : ℕ} {ts : List Test} → Rising p q ts → p + length ts ≤ q
rising_count (rising_end e) = omega arith
rising_count (rising_next e r) = let h = rising_count r in omega arith

pub item_count : {xs : List ℕ} {close d p q : ℕ} {f : Tree} → Item xs close d p q f → p + length (tests_of f) ≤ q
item_count i = rising_count (item_rising i)

pub filter_count : {xs : List ℕ} {close d p q : ℕ} {f : Tree} → Filter xs close d p q f → p + length (tests_of f) ≤ q
filter_count i = rising_count (filter_rising i)
