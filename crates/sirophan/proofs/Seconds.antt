-- The rules that are said a second time are those of the code.
-- Assumes nothing.
use Prim.Native.Nat.{ℕ, zero, suc, ◌+◌, ◌*◌, ◌-◌}
use Prim.Native.Char.{code}
use native.Mathlib.Omega.{arith}
use mathlib.Core.Path.{◌≡◌, refl, ap, sym, ◌∙◌, subst}
use mathlib.Core.Bool.{true, false, ◌||◌}
use mathlib.Core.Logic.{◌↔◌, ◌⊎◌, inl, inr, ⊎_elim}
use mathlib.Core.List.Memᴰ
use mathlib.Core.List.{List, [], ◌∷◌, ◌++◌, map, Memᴰ}
use lib.Dec.{eqb}
use lib.ListN.{get_or, take}
use borrow.Author.Tests.{eqb-true}
use Rattle.base.specs.Lists.{All, member}
use Rattle.base.specs.Operators.{operator_words, ap as approximate, ss, sb, «in», ni}
use Rattle.base.proofs.All.{all_same}
use Rattle.base.proofs.Tests.{or_either}
use Rattle.number.specs.Reading.{value_from}
use Rattle.block.specs.Sum.{sum_from, check_sum}
use Rattle.syntax.specs.Tree.{Test, under, Tree, test, bracketed, join, negation, tests_of}
use Rattle.judge.specs.Faults.{unsupported}
use Rattle.refusal.specs.Order.{lines, numbers}
use Rattle.sirophan.specs.Seconds.{NotSupported, word_ap, word_ss, word_sb, word_in, word_ni, places_sum, TestIn, its_test, outer_test, inner_test, in_first, in_second, in_negation, orders, among}

-- ---- words that are not supported

unsupported_there : (k : ℕ) → unsupported k ≡ true → NotSupported k (get_or operator_words k [])
unfolding unsupported member operator_words
unsupported_there k h =
    ⊎_elim (λ e. at approximate e word_ap)
    (λ a. ⊎_elim (λ e. at ss e word_ss)
    (λ b. ⊎_elim (λ e. at sb e word_sb)
    (λ c. ⊎_elim (λ e. at «in» e word_in)
    (λ d. ⊎_elim (λ e. at ni e word_ni) (λ e. absurd (let z : ◌≡◌ {A = ℕ} 0 1 = cc in omega arith)) (or_either (eqb k ni) false d))
    (or_either (eqb k «in») (eqb k ni || false) c))
    (or_either (eqb k sb) (eqb k «in» || (eqb k ni || false)) b))
    (or_either (eqb k ss) (eqb k sb || (eqb k «in» || (eqb k ni || false))) a))
    (or_either (eqb k approximate) (eqb k ss || (eqb k sb || (eqb k «in» || (eqb k ni || false)))) h)
  where
    at : (j : ℕ) → eqb k j ≡ true → NotSupported j (get_or operator_words j []) → NotSupported k (get_or operator_words k [])
    at j e w = subst (λ (x : ℕ). NotSupported x (get_or operator_words x [])) (sym (eqb-true k j e)) w

unsupported-back : {k : ℕ} {w : List ℕ} → NotSupported k w → (unsupported k ≡ true) × (w ≡ get_or operator_words k [])
unfolding unsupported member operator_words
unsupported-back word_ap = (refl, refl)
unsupported-back word_ss = (refl, refl)
unsupported-back word_sb = (refl, refl)
unsupported-back word_in = (refl, refl)
unsupported-back word_ni = (refl, refl)

pub unsupported_iff : (k : ℕ) (w : List ℕ) → ((unsupported k ≡ true) × (w ≡ get_or operator_words k [])) ↔ NotSupported k w
unsupported_iff k w = ((λ h. subst (NotSupported k) (sym h.1) (unsupported_there k h.0)), unsupported-back)

-- ---- digits

last_from : (before : ℕ) (s : List ℕ) (x : ℕ) → value_from before (s ++ (x ∷ [])) ≡ value_from before s * 10 + (x - code "0")
unfolding value_from
last_from before [] x = refl
last_from before (y ∷ s) x = last_from (before * 10 + (y - code "0")) s x

pub last_digit : (s : List ℕ) (x : ℕ) → value_from 0 (s ++ (x ∷ [])) ≡ value_from 0 s * 10 + (x - code "0")
last_digit = last_from 0

pub no_digit : value_from 0 [] ≡ 0
unfolding value_from
no_digit = refl

-- ---- the check sum

one_more : (i n : ℕ) (b : List ℕ) → sum_from i (take (suc n) b) ≡ sum_from i (take n b) + get_or b n 0 * (i + n)
unfolding sum_from
one_more i zero [] = omega arith
one_more i (suc n) [] = omega arith
one_more i zero (x ∷ b) = let z : i + 0 ≡ i = omega arith in rw z (omega arith)
one_more i (suc n) (x ∷ b) =
    let more : sum_from (suc i) (take (suc n) b) ≡ sum_from (suc i) (take n b) + get_or b n 0 * (suc i + n) = one_more (suc i) n b in
    let same : suc i + n ≡ i + suc n = omega arith in
    ap (λ (s : ℕ). x * i + s) (more ∙ ap (λ (m : ℕ). sum_from (suc i) (take n b) + get_or b n 0 * m) same) ∙ regroup (x * i) (sum_from (suc i) (take n b)) (get_or b n 0 * (i + suc n))
  where
    regroup : (a b c : ℕ) → a + (b + c) ≡ a + b + c
    regroup a b c = omega arith

sum_places : (n : ℕ) (b : List ℕ) → sum_from 1 (take n b) ≡ places_sum n b
unfolding sum_from places_sum
sum_places zero b = refl
sum_places (suc n) b =
    let place : 1 + n ≡ suc n = omega arith in
    one_more 1 n b ∙ ap (λ (s : ℕ). s + get_or b n 0 * (1 + n)) (sum_places n b) ∙ ap (λ (m : ℕ). places_sum n b + get_or b n 0 * m) place

pub check_sum_places : (b : List ℕ) → check_sum b ≡ places_sum 508 b
unfolding check_sum
check_sum_places b = sum_places 508 b

-- ---- tests

mem_append : {u : Test} (xs ys : List Test) → Memᴰ u (xs ++ ys) → Memᴰ u xs ⊎ Memᴰ u ys
mem_append [] ys m = inr m
mem_append (x ∷ xs) ys m = ⊎_elim (λ e. inl (Memᴰ.head e)) (λ r. ⊎_elim (λ a. inl (Memᴰ.tail a)) (λ b. inr b) (mem_append xs ys r)) (Memᴰ.cases_cons m)

mem_first : {u : Test} {xs : List Test} (ys : List Test) → Memᴰ u xs → Memᴰ u (xs ++ ys)
mem_first ys (Memᴰ.head e) = Memᴰ.head e
mem_first ys (Memᴰ.tail m) = Memᴰ.tail (mem_first ys m)

mem_second : {u : Test} (xs : List Test) {ys : List Test} → Memᴰ u ys → Memᴰ u (xs ++ ys)
mem_second [] m = m
mem_second (x ∷ xs) m = Memᴰ.tail (mem_second xs m)

mem_map : (g : Test → Test) {u : Test} (xs : List Test) → Memᴰ u (map g xs) → (v : Test) × Memᴰ v xs × (u ≡ g v)
mem_map g [] m = absurd (Memᴰ.not-nil m)
mem_map g (x ∷ xs) m = ⊎_elim (λ e. (x, Memᴰ.head refl, e)) (λ r. let w = mem_map g xs r in (w.0, Memᴰ.tail w.1, w.2)) (Memᴰ.cases_cons m)

map_mem : (g : Test → Test) {v u : Test} {xs : List Test} → Memᴰ v xs → u ≡ g v → Memᴰ u (map g xs)
map_mem g (Memᴰ.head e) h = Memᴰ.head (h ∙ ap g e)
map_mem g (Memᴰ.tail m) h = Memᴰ.tail (map_mem g m h)

tests_there : (f : Tree) (u : Test) → Memᴰ u (tests_of f) → TestIn f u
unfolding tests_of
tests_there (test t) u m = ⊎_elim (λ e. subst (TestIn (test t)) (sym e) its_test) (λ r. absurd (Memᴰ.not-nil r)) (Memᴰ.cases_cons m)
tests_there (bracketed p b f t) u m =
    ⊎_elim (λ e. outer_test e) (λ r. let w = mem_map (under b) (tests_of f) r in inner_test (tests_there f w.0 w.1) w.2) (Memᴰ.cases_cons m)
tests_there (join c f g) u m = ⊎_elim (λ a. in_first (tests_there f u a)) (λ b. in_second (tests_there g u b)) (mem_append (tests_of f) (tests_of g) m)
tests_there (negation f) u m = in_negation (tests_there f u m)

tests_back : {f : Tree} {u : Test} → TestIn f u → Memᴰ u (tests_of f)
unfolding tests_of
tests_back its_test = Memᴰ.head refl
tests_back (outer_test e) = Memᴰ.head e
tests_back (inner_test {b = b} h e) = Memᴰ.tail (map_mem (under b) (tests_back h) e)
tests_back (in_first {g = g} h) = mem_first (tests_of g) (tests_back h)
tests_back (in_second {f = f} h) = mem_second (tests_of f) (tests_back h)
tests_back (in_negation h) = tests_back h

pub tests_iff : (f : Tree) (u : Test) → Memᴰ u (tests_of f) ↔ TestIn f u
tests_iff f u = (tests_there f u, tests_back)

-- ---- the order of refusals

in_lines : map (λ (o : List (List ℕ)). among (numbers o) lines) orders ≡ map (λ (o : List (List ℕ)). o) orders
unfolding orders member
in_lines = refl

pub orders_kept : All (λ (o : List (List ℕ)). among (numbers o) lines ≡ o) orders
orders_kept = all_same (λ (o : List (List ℕ)). among (numbers o) lines) (λ (o : List (List ℕ)). o) orders in_lines
