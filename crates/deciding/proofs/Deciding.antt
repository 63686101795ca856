-- The tests that are kept are the ones that 02 names, and no others.
-- Assumes nothing.
use Prim.Native.Nat.{ℕ, zero, suc, ◌+◌, ◌≤◌, ◌<◌}
use native.Mathlib.Omega.{arith}
use native.Mathlib.Nat.{le_refl}
use mathlib.Core.Path.{◌≡◌, refl, sym, ◌∙◌, subst}
use mathlib.Core.Bool.{Bool, true, false, cond}
use mathlib.Core.Logic.{◌↔◌, ⊎_elim}
use lib.Dec.{eqb, ltb}
use borrow.Author.Tests.{eq-eqb, ne_eqb, lt-ltb, le-ltb, eqb-true, eqb-false, ltb-true, ltb-false}
use Rattle.base.proofs.Tests.{cond-elim, decided}
use Rattle.syntax.specs.Tree.{Tree}
use Rattle.deciding.specs.Deciding.{outer_count, Suffices, without, losing, Explains}
use Rattle.deciding.specs.Marks.{suffices, spare_below, deciding}
use Rattle.deciding.proofs.Exact.{suffices_stands, stands_suffices, says_local}

-- ---- the tests kept are the ones that 02 names

-- fewer tests that suffice are enough
suffices_more : (f : Tree) (v k l : ℕ → Bool) → ((j : ℕ) → j < outer_count f → k j ≡ true → l j ≡ true) → Suffices f v k → Suffices f v l
suffices_more f v k l h s u a = s u (λ i b e. a i b (h i b e))

pub without-here : (i : ℕ) (k : ℕ → Bool) → without i k i ≡ false
without-here i k = let e = eq-eqb i i refl in cc

pub without_other : (i j : ℕ) (k : ℕ → Bool) → (j ≡ i → ⊥) → without i k j ≡ k j
without_other i j k n = let e = ne_eqb j i n in cc

losing-before : (i j : ℕ) (k : ℕ → Bool) → j < i → losing i k j ≡ true
losing-before i j k h = let e = lt-ltb j i h in cc

losing-later : (i j : ℕ) (k : ℕ → Bool) → i ≤ j → losing i k j ≡ without i k j
losing-later i j k h = let e = le-ltb j i h in cc

lose : (a b c : Bool) → cond a true (cond b false c) ≡ cond a true (cond b false (cond b false c))
lose true b c = refl
lose false true c = refl
lose false false c = refl

-- the tests from the i-th on have had their turn
record Tried (f : Tree) (v : ℕ → Bool) (i : ℕ) (k : ℕ → Bool) : Type 0 where
  stand : Suffices f v k
  untried : (j : ℕ) → j < i → k j ≡ true
  turn : (j : ℕ) → i ≤ j → j < outer_count f → (k j ≡ false) ↔ Suffices f v (losing j k)

-- where the tests after the j-th are the same, and so is what it would lose
turn_same : (f : Tree) (v k l : ℕ → Bool) (j : ℕ) → ((i : ℕ) → j ≤ i → l i ≡ k i) → (k j ≡ false) ↔ Suffices f v (losing j k) → (l j ≡ false) ↔ Suffices f v (losing j l)
turn_same f v k l j h t =
    let same : (i : ℕ) → losing j l i ≡ losing j k i =
    λ i. ⊎_elim (λ e. let w : i < j = ltb-true i j e in losing-before j i l w ∙ sym (losing-before j i k w)) (λ e. let w = ltb-false i j e in let x = h i w in cc) (decided (ltb i j)) in
    let x = h j (le_refl j) in
    (λ e. suffices_more f v (losing j k) (losing j l) (λ i b c. same i ∙ c) (t.0 (sym x ∙ e)), λ s. x ∙ t.1 (suffices_more f v (losing j l) (losing j k) (λ i b c. sym (same i) ∙ c) s))

-- all before the i-th are kept: losing it is being without it
without-losing : (f : Tree) (v k : ℕ → Bool) (i : ℕ) → Suffices f v (without i k) → Suffices f v (losing i k)
without-losing f v k i = suffices_more f v (without i k) (losing i k) (λ j b e. ⊎_elim (λ t. losing-before i j k (ltb-true j i t)) (λ t. losing-later i j k (ltb-false j i t) ∙ e) (decided (ltb j i)))

losing-without : (f : Tree) (v k : ℕ → Bool) (i : ℕ) → ((j : ℕ) → j < i → k j ≡ true) → Suffices f v (losing i k) → Suffices f v (without i k)
losing-without f v k i h =
    suffices_more f v (losing i k) (without i k) (λ j b e. ⊎_elim
    (λ t. let w : j < i = ltb-true j i t in let n : j ≡ i → ⊥ = λ q. omega arith in without_other i j k n ∙ h j w)
    (λ t. sym (losing-later i j k (ltb-false j i t)) ∙ e) (decided (ltb j i)))

module _ (f : Tree) (v : ℕ → Bool) where
  spare_step : (i : ℕ) (k : ℕ → Bool) → suffices f v (without i k) ≡ true → Tried f v (suc i) k → Tried f v i (without i k)
  spare_step i k e t =
      let s = suffices_stands f v (without i k) e in
      record {
        stand = s;
        untried = λ j h. let n : j ≡ i → ⊥ = λ q. omega arith in without_other i j k n ∙ t.untried j (omega arith);
        turn = λ j a b. ⊎_elim
            (λ q. let w : j ≡ i = eqb-true j i q in
            subst (λ (x : ℕ). (without i k x ≡ false) ↔ Suffices f v (losing x (without i k))) (sym w)
            (λ c. suffices_more f v (losing i k) (losing i (without i k)) (λ x y z. again x z) (without-losing f v k i s), λ c. without-here i k))
            (λ q. let n : j ≡ i → ⊥ = eqb-false j i q in
            turn_same f v k (without i k) j (λ x h. let m : x ≡ i → ⊥ = λ y. n (omega arith) in without_other i x k m) (t.turn j (let m : j ≡ i → ⊥ = n in omega arith) b))
            (decided (eqb j i));
      }
    where
      again : (x : ℕ) → losing i k x ≡ true → losing i (without i k) x ≡ true
      again x z = sym (lose (ltb x i) (eqb x i) (k x)) ∙ z

  keep-step : (i : ℕ) (k : ℕ → Bool) → suffices f v (without i k) ≡ false → i < outer_count f → Tried f v (suc i) k → Tried f v i k
  keep-step i k e l t =
      record {
        stand = t.stand;
        untried = λ j h. t.untried j (omega arith);
        turn = λ j a b. ⊎_elim
            (λ q. let w : j ≡ i = eqb-true j i q in
            subst (λ (x : ℕ). (k x ≡ false) ↔ Suffices f v (losing x k)) (sym w) (
              λ c. absurd (let y = t.untried i (omega arith) in let z : ◌≡◌ {A = ℕ} 0 1 = cc in omega arith),
              λ c. absurd (let y = stands_suffices f v (without i k) (losing-without f v k i (λ j h. t.untried j (omega arith)) c) in let z : ◌≡◌ {A = ℕ} 0 1 = cc in omega arith),
            ))
            (λ q. let n : j ≡ i → ⊥ = eqb-false j i q in t.turn j (omega arith) b)
            (decided (eqb j i));
      }

  all_tried : (i : ℕ) (k : ℕ → Bool) → i ≤ outer_count f → Tried f v i k → Tried f v 0 (spare_below i f v k)
  unfolding spare_below
  all_tried zero k l t = t
  all_tried (suc i) k l t =
      all_tried i (cond (suffices f v (without i k)) (without i k) k) (omega arith)
      (cond-elim (λ (h : ℕ → Bool). Tried f v i h) (suffices f v (without i k)) (λ e. spare_step i k e t) (λ e. keep-step i k e (omega arith) t))

  pub explains : Explains f v (deciding f v)
  unfolding deciding
  explains =
      let k : ℕ → Bool = spare_below (outer_count f) f v (λ j. true) in
      let t : Tried f v 0 k =
      all_tried (outer_count f) (λ j. true) (le_refl (outer_count f))
      (record { stand = λ u h. says_local f 0 u v (λ j a b. h j (omega arith) refl); untried = λ j h. refl; turn = λ j a b. absurd (omega arith) }) in
      record {
        stands = t.stand;
        needed = λ i l e s. let x = (t.turn i (omega arith) l).1 (without-losing f v k i s) in let z : ◌≡◌ {A = ℕ} 0 1 = cc in omega arith;
        in_turn = λ i l. t.turn i (omega arith) l;
      }

-- ---- and no others

alike : (a b : Bool) → (a ≡ false → b ≡ false) → (b ≡ false → a ≡ false) → a ≡ b
alike true true f g = refl
alike true false f g = g refl
alike false true f g = sym (f refl)
alike false false f g = refl

losing-alike : (f : Tree) (v k l : ℕ → Bool) (i : ℕ) → ((j : ℕ) → i < j → j < outer_count f → k j ≡ l j) → Suffices f v (losing i k) → Suffices f v (losing i l)
losing-alike f v k l i h = suffices_more f v (losing i k) (losing i l) (λ j b e. ⊎_elim
    (λ t. losing-before i j l (ltb-true j i t))
    (λ t. let n : i ≤ j = ltb-false j i t in sym (losing-later i j k n ∙ later j n b) ∙ e) (decided (ltb j i)))
  where
    later : (j : ℕ) → i ≤ j → j < outer_count f → without i k j ≡ losing i l j
    later j n b =
        ⊎_elim (λ q. let w : j ≡ i = eqb-true j i q in let x = le-ltb j i n in cc)
        (λ q. let m : j ≡ i → ⊥ = eqb-false j i q in without_other i j k m ∙ h j (omega arith) b ∙ sym (losing-later i j l n ∙ without_other i j l m)) (decided (eqb j i))

module _ (f : Tree) (v k l : ℕ → Bool) (a : Explains f v k) (b : Explains f v l) where
  alike_from : (d i : ℕ) → outer_count f ≤ i + d → i < outer_count f → k i ≡ l i
  alike_from zero i h n = absurd (omega arith)
  alike_from (suc d) i h n =
      let later : (j : ℕ) → i < j → j < outer_count f → k j ≡ l j = λ j x y. alike_from d j (omega arith) y in
      alike (k i) (l i) (λ e. (b.in_turn i n).1 (losing-alike f v k l i later ((a.in_turn i n).0 e)))
      (λ e. (a.in_turn i n).1 (losing-alike f v l k i (λ j x y. sym (later j x y)) ((b.in_turn i n).0 e)))

  pub explains_unique : (i : ℕ) → i < outer_count f → k i ≡ l i
  explains_unique i n = alike_from (outer_count f) i (omega arith) n
