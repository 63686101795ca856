-- Laws of items: their layout in a block, and a walk over them.
-- `laid_out` tests the layout by recursion on the number of items left, and a turn takes one item off (`laid_first`, `items-first`). A loop
-- keeps that what is left gives the answer of the whole: `LaidTo` for the test of the layout. `Walk` says that the items left are laid out
-- from p on. The item at p then ends before byte 508 (`walk_within`), and the walk goes on behind it (`walk_next`).
-- Assumes nothing.
use Rattle.std.specs.Prelude.{Option, Some, None, MatchOption}
use Prim.Native.Nat.{ℕ, zero, suc, ◌+◌, ◌-◌, ◌≤◌, ◌<◌}
use native.Mathlib.Omega.{arith}
use mathlib.Core.Path.{◌≡◌, refl, ap, sym, ◌∙◌, subst}
use mathlib.Core.Bool.{Bool, true, false, cond, ◌&&◌, or-true}
use mathlib.Core.List.{List, [], ◌∷◌}
use lib.Dec.{leb, eqb}
use lib.ListN.{length, get_or}
use borrow.Author.Tests.{eq-eqb, ne_eqb, eqb-true, le-leb, lt-leb, leb-true}
use Rattle.std.specs.Bool.{then_some}
use Rattle.base.specs.Parts.{part}
use mathlib.Core.Logic.{⊎_elim}
use Rattle.base.proofs.Tests.{and_left, and_right, or_either}
use Rattle.block.specs.Items.{zeros, has_marks, length_at, next, mark_at, text_at, laid_out, has_layout, has_either, items, PlaceAt, Walk, LaysOut}
use Rattle.block.proofs.Invariants.{LaidTo}

-- ---- what the functions that look at a layout answer

module _ (b : List ℕ) (laid : Bool) where
  pub lays_wrong : false ≡ laid → LaysOut b laid None
  lays_wrong h = record { wrong = λ _. sym h; right = λ e k. absurd (let z : ◌≡◌ {A = ℕ} 0 1 = cc in omega arith); zero = λ e k. absurd (let z : ◌≡◌ {A = ℕ} 0 1 = cc in omega arith) }

  pub lays_right : (p : ℕ) → true ≡ laid → zeros (part b p 508) ≡ true → LaysOut b laid (Some p)
  lays_right p h z =
      record {
        wrong = λ k. absurd (let z : ◌≡◌ {A = ℕ} 0 1 = cc in omega arith);
        right = λ e k. sym h;
        zero = λ e k. let same : p ≡ e = cc in subst (λ (x : ℕ). zeros (part b x 508) ≡ true) same z;
      }

-- ---- what the loop over the items keeps

laid_first : (k : ℕ) (b : List ℕ) (p : ℕ) → 0 < k → laid_out k b p ≡ (leb (next b p) 508 && laid_out (k - 1) b (next b p))
unfolding laid_out
laid_first k b p h = let e : k ≡ suc (k - 1) = omega arith in ap (λ (n : ℕ). laid_out n b p) e

laid_none : (k : ℕ) (b : List ℕ) (p : ℕ) → k ≤ 0 → laid_out k b p ≡ zeros (part b p 508)
unfolding laid_out
laid_none k b p h = let e : k ≡ 0 = omega arith in ap (λ (n : ℕ). laid_out n b p) e

module _ (b : List ℕ) (from count : ℕ) where
  module _ (p done end : ℕ) (inv : LaidTo b from count p done) (l : done < count) (e : end ≡ next b p) where
    pub laid_to_past : 508 < end → LaysOut b (laid_out count b from) None
    laid_to_past h =
        let k : 508 < next b p = omega arith in
        let none : false ≡ laid_out (count - done) b p = rw (laid_first (count - done) b p (omega arith), lt-leb (next b p) 508 k) in
        lays_wrong b _ (none ∙ inv.rest)

    pub laid_to_next : end ≤ 508 → LaidTo b from count end (done + 1)
    laid_to_next h =
        let k : next b p ≤ 508 = omega arith in
        let fewer : count - (done + 1) ≡ count - done - 1 = omega arith in
        let rest : laid_out (count - (done + 1)) b end ≡ laid_out (count - done) b p = rw (fewer, e, laid_first (count - done) b p (omega arith), le-leb (next b p) 508 k) in
        record { within = h; rest = rest ∙ inv.rest }

  -- the padding behind the last item decides
  module _ (p done : ℕ) (inv : LaidTo b from count p done) (l : count ≤ done) (z : Bool) (e : z ≡ zeros (part b p 508)) where
    padding_decides : z ≡ laid_out count b from
    padding_decides = e ∙ sym (laid_none (count - done) b p (omega arith)) ∙ inv.rest

    pub laid_to_end : (r : Option ℕ) → r ≡ then_some z p → LaysOut b (laid_out count b from) r
    laid_to_end r k = rw k (ends z refl)
      where
        ends : (t : Bool) → t ≡ z → LaysOut b (laid_out count b from) (then_some t p)
        ends true h = lays_right b _ p (h ∙ padding_decides) (sym e ∙ sym h)
        ends false h = lays_wrong b _ (h ∙ padding_decides)

-- ---- what the tests of a layout decide, and what a layout has

module _ (b : List ℕ) (first at most : ℕ) where
  pub layout_first_not : (get_or b 0 0 ≡ first → ⊥) → LaysOut b (has_layout first at most b) None
  unfolding has_layout
  layout_first_not n = lays_wrong b _ (rw (ne_eqb (get_or b 0 0) first n))

  module _ (f : get_or b 0 0 ≡ first) where
    pub layout_many : most < get_or b at 0 → LaysOut b (has_layout first at most b) None
    unfolding has_layout
    layout_many n = lays_wrong b _ (rw (eq-eqb (get_or b 0 0) first f, lt-leb (get_or b at 0) most n))

    pub layout_items_decide : get_or b at 0 ≤ most → laid_out (get_or b at 0) b (at + 1) ≡ has_layout first at most b
    unfolding has_layout
    layout_items_decide n = rw (eq-eqb (get_or b 0 0) first f, le-leb (get_or b at 0) most n)

    pub layout_laid : get_or b at 0 ≤ most → (r : Option ℕ) → LaysOut b (laid_out (get_or b at 0) b (at + 1)) r → LaysOut b (has_layout first at most b) r
    layout_laid n r e = subst (λ (laid : Bool). LaysOut b laid r) (layout_items_decide n) e

  module _ (h : has_layout first at most b ≡ true) where
    after_first : (leb (get_or b at 0) most && laid_out (get_or b at 0) b (at + 1)) ≡ true
    unfolding has_layout
    after_first = and_right (eqb (get_or b 0 0) first) (leb (get_or b at 0) most && laid_out (get_or b at 0) b (at + 1)) h

    pub layout_first : get_or b 0 0 ≡ first
    unfolding has_layout
    layout_first = eqb-true (get_or b 0 0) first (and_left (eqb (get_or b 0 0) first) (leb (get_or b at 0) most && laid_out (get_or b at 0) b (at + 1)) h)

    pub layout_count : get_or b at 0 ≤ most
    layout_count = leb-true (get_or b at 0) most (and_left (leb (get_or b at 0) most) (laid_out (get_or b at 0) b (at + 1)) after_first)

    pub layout_items : laid_out (get_or b at 0) b (at + 1) ≡ true
    layout_items = and_right (leb (get_or b at 0) most) (laid_out (get_or b at 0) b (at + 1)) after_first

    -- where a walk over the items starts
    pub walk_start : length b ≡ 512 → at < 508 → Walk b (at + 1) (get_or b at 0)
    walk_start s l = record { size = s; within = omega arith; laid = layout_items }

-- either of two first bytes, the second where the first has no layout
pub either_laid : (b : List ℕ) (plain marked at most : ℕ) (r t : Option ℕ) → LaysOut b (has_layout plain at most b) r
    → MatchOption r (LaysOut b (has_layout marked at most b) t) (λ p. t ≡ Some p) → LaysOut b (has_either plain marked at most b) t
unfolding has_either
either_laid b plain marked at most None t l h = rw (l.wrong refl) h
either_laid b plain marked at most (Some p) t l h = rw (h, l.right p refl) (lays_right b true p refl (l.zero p refl))

module _ (b : List ℕ) (laid : Bool) (r : Option ℕ) (l : LaysOut b laid r) where
  pub laid_zero : (p : ℕ) → r ≡ Some p → zeros (part b p 508) ≡ true
  laid_zero p h = l.zero p h

-- a block with either layout has that of its own first byte
pub either_own : (b : List ℕ) (plain marked at most : ℕ) → has_either plain marked at most b ≡ true → has_layout (get_or b 0 0) at most b ≡ true
unfolding has_either
either_own b plain marked at most h =
    ⊎_elim (λ (l : has_layout plain at most b ≡ true). subst (λ (f : ℕ). has_layout f at most b ≡ true) (sym (layout_first b plain at most l)) l)
    (λ (l : has_layout marked at most b ≡ true). subst (λ (f : ℕ). has_layout f at most b ≡ true) (sym (layout_first b marked at most l)) l)
    (or_either (has_layout plain at most b) (has_layout marked at most b) h)

-- which is one of the two
pub either_form : (b : List ℕ) (plain marked at most : ℕ) → has_either plain marked at most b ≡ true → (w : Bool) × (get_or b 0 0 ≡ cond w marked plain)
unfolding has_either
either_form b plain marked at most h =
    ⊎_elim (λ (l : has_layout plain at most b ≡ true). (false, layout_first b plain at most l)) (λ (l : has_layout marked at most b ≡ true). (true, layout_first b marked at most l))
    (or_either (has_layout plain at most b) (has_layout marked at most b) h)

-- a block with the layout of one of them has either
pub own_either : (b : List ℕ) (plain marked at most : ℕ) (w : Bool) → has_layout (cond w marked plain) at most b ≡ true → has_either plain marked at most b ≡ true
unfolding has_either
own_either b plain marked at most true h = rw h (or-true (has_layout plain at most b))
own_either b plain marked at most false h = rw h

-- ---- an item as the code finds it

module _ (b : List ℕ) (p : ℕ) (w : Bool) (e : w ≡ has_marks (get_or b 0 0)) where
  pub item-marked : w ≡ true → (n : ℕ) → n ≡ get_or b (p + 2) 0 → PlaceAt b p (record { tag = get_or b p 0; mark = get_or b (p + 1) 0; start = p + 3; end = p + 3 + n })
  unfolding mark_at next length_at
  item-marked h n i =
      let k : has_marks (get_or b 0 0) ≡ true = sym e ∙ h in
      let z : p + 3 ≡ p + 2 + 1 = omega arith in
      record { tag = refl; mark = rw k; start = rw k z; end = rw (k, i) (ap (λ (n : ℕ). n + get_or b (p + 2) 0) z); ahead = omega arith; order = omega arith }

  pub item-plain : w ≡ false → (n : ℕ) → n ≡ get_or b (p + 1) 0 → PlaceAt b p (record { tag = get_or b p 0; mark = 0; start = p + 2; end = p + 2 + n })
  unfolding mark_at next length_at
  item-plain h n i =
      let k : has_marks (get_or b 0 0) ≡ false = sym e ∙ h in
      let z : p + 2 ≡ p + 1 + 1 = omega arith in
      record { tag = refl; mark = rw k; start = rw k z; end = rw (k, i) (ap (λ (n : ℕ). n + get_or b (p + 1) 0) z); ahead = omega arith; order = omega arith }

-- ---- a walk over the items of a block

module _ (b : List ℕ) (p left : ℕ) (w : Walk b p left) (l : 0 < left) where
  laid_both : (leb (next b p) 508 && laid_out (left - 1) b (next b p)) ≡ true
  laid_both = sym (laid_first left b p l) ∙ w.laid

  -- the item at p ends at or before byte 507
  pub walk_within : next b p ≤ 508
  walk_within = leb-true (next b p) 508 (and_left (leb (next b p) 508) (laid_out (left - 1) b (next b p)) laid_both)

  -- and the walk goes on there
  pub walk_next : Walk b (next b p) (left - 1)
  walk_next = record { size = w.size; within = walk_within; laid = and_right (leb (next b p) 508) (laid_out (left - 1) b (next b p)) laid_both }

pub items-length : {X : Type 0} (make : ℕ → ℕ → List ℕ → X) (k : ℕ) (b : List ℕ) (p : ℕ) → length (items make k b p) ≡ k
unfolding items
items-length make zero b p = refl
items-length make (suc k) b p = ap suc (items-length make k b (next b p))

module _ {X : Type 0} (make : ℕ → ℕ → List ℕ → X) (b : List ℕ) (p left : ℕ) where
  pub items_none : left ≤ 0 → items make left b p ≡ []
  unfolding items
  items_none h = let e : left ≡ 0 = omega arith in ap (λ (n : ℕ). items make n b p) e

  pub items-first : 0 < left → items make left b p ≡ make (get_or b p 0) (mark_at b p) (text_at b p) ∷ items make (left - 1) b (next b p)
  unfolding items
  items-first h = let e : left ≡ suc (left - 1) = omega arith in ap (λ (n : ℕ). items make n b p) e
