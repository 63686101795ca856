-- Sparing: the tests still kept and those left to try give the tests that decide.
-- The tests are tried from the last to the first. The invariant `Kept`: sparing what is left to try, from the tests still kept, gives the
-- tests that decide, and the list has the marks of those kept. The loop keeps it for whatever expression the rows state (`Sparing`). A turn
-- clears a test's mark and takes the mark of the whole. That mark is decided exactly where the other tests kept suffice (`tested`), so
-- leaving the mark clear or putting it back is the definition's own step (`kept_next`).
-- Assumes nothing.
use Prim.Native.Nat.{ℕ, suc, ◌+◌, ◌-◌, ◌≤◌, ◌<◌}
use native.Mathlib.Omega.{arith}
use native.Mathlib.Nat.{le_refl}
use mathlib.Core.Path.{◌≡◌, sym, ap, ap₂, subst, ◌∙◌}
use mathlib.Core.Bool.{Bool, true, false, cond}
use mathlib.Core.Logic.{⊎_elim}
use mathlib.Core.Option.{some}
use mathlib.Core.List.{List}
use lib.Dec.{eqb}
use lib.ListN.{length, get_or, set, length-set}
use lib.Seq.{get_or-set_same, get_or-set_other}
use borrow.Author.Tests.{eqb-true, eqb-false}
use Rattle.base.proofs.Tests.{decided}
use Rattle.syntax.specs.Tree.{Tree, test, bracketed, join, negation}
use Rattle.rows.specs.Expression.{Expression}
use Rattle.rows.specs.Cells.{stated}
use Rattle.deciding.specs.Deciding.{outer_count, without}
use Rattle.deciding.specs.declared.Mark.{Mark}
use Rattle.deciding.specs.Marks.{mark, opposite, joined_marks, mark_by, is_decided, masked, suffices, spare_below, deciding}
use Rattle.deciding.specs.Rows.{outline, marks_in, MarksWhole, Spares}
use Rattle.deciding.proofs.Deciding.{without-here, without_other}

-- only the tests of the tree matter
mark_local : (f : Tree) (i : ℕ) (m n : ℕ → Mark) → ((j : ℕ) → i ≤ j → j < i + outer_count f → m j ≡ n j) → mark_by m i f ≡ mark_by n i f
unfolding outer_count mark_by
mark_local (test t) i m n h = h i (le_refl i) (omega arith)
mark_local (bracketed p b f t) i m n h = h i (le_refl i) (omega arith)
mark_local (join c f g) i m n h = ap₂ (joined_marks c) (mark_local f i m n (λ j a b. h j a (omega arith))) (mark_local g (i + outer_count f) m n (λ j a b. h j (omega arith) (omega arith)))
mark_local (negation f) i m n h = ap opposite (mark_local f i m n h)

-- the tests below `left` are still to be tried, and the list has the marks of those that are kept
pub record Kept (f : Tree) (v : ℕ → Bool) (left : ℕ) (marks : List Mark) : Type 0 where
  pub kept : ℕ → Bool
  pub same : spare_below left f v kept ≡ deciding f v
  pub marked : (j : ℕ) → j < outer_count f → get_or marks j Mark.Spared ≡ mark (kept j) (v j)

-- ---- a test is tried

module _ (f : Tree) (v : ℕ → Bool) (i : ℕ) (marks : List Mark) (k : Kept f v (suc i) marks) (inside : i < length marks) where
  abbrev lost : ℕ → Bool
  lost = without i k.kept

  -- the list without it
  loses : (j : ℕ) → j < outer_count f → get_or (set marks i Mark.Spared) j Mark.Spared ≡ mark (lost j) (v j)
  loses j b =
      ⊎_elim
      (λ q. let w : j ≡ i = eqb-true j i q in
      subst (λ (n : ℕ). get_or (set marks i Mark.Spared) n Mark.Spared ≡ mark (lost n) (v n)) (sym w)
      (get_or-set_same marks i Mark.Spared Mark.Spared inside ∙ sym (ap (λ (t : Bool). mark t (v i)) (without-here i k.kept))))
      (λ q. let n : j ≡ i → ⊥ = eqb-false j i q in
      get_or-set_other marks i j Mark.Spared Mark.Spared n ∙ k.marked j b ∙ sym (ap (λ (t : Bool). mark t (v j)) (without_other i j k.kept n)))
      (decided (eqb j i))

  module _ (whole : Mark) (w : whole ≡ mark_by (marks_in (set marks i Mark.Spared)) 0 f) where
    tested : suffices f v lost ≡ is_decided whole
    unfolding suffices
    tested = ap is_decided (mark_local f 0 (masked lost v) (marks_in (set marks i Mark.Spared)) (λ j a b. sym (loses j (omega arith))) ∙ sym w)

    module _ (old x : Mark) (o : old ≡ get_or marks i Mark.Spared) (e : x ≡ cond (is_decided whole) Mark.Spared old) where
      -- the list after the try, by whether the answer still stands
      tries : (b : Bool) → is_decided whole ≡ b → (j : ℕ) → j < outer_count f → get_or (set (set marks i Mark.Spared) i x) j Mark.Spared ≡ mark (cond b lost k.kept j) (v j)
      tries b h j l = ⊎_elim (λ q. at_it (eqb-true j i q)) (λ q. beside (eqb-false j i q)) (decided (eqb j i))
        where
          long : i < length (set marks i Mark.Spared)
          long = omega (arith, length-set marks i Mark.Spared)

          stored : (b : Bool) → is_decided whole ≡ b → i < outer_count f → x ≡ mark (cond b lost k.kept i) (v i)
          stored true h l = e ∙ ap (λ (t : Bool). cond t Mark.Spared old) h ∙ sym (ap (λ (t : Bool). mark t (v i)) (without-here i k.kept))
          stored false h l = e ∙ ap (λ (t : Bool). cond t Mark.Spared old) h ∙ o ∙ k.marked i l

          at_it : j ≡ i → get_or (set (set marks i Mark.Spared) i x) j Mark.Spared ≡ mark (cond b lost k.kept j) (v j)
          at_it w =
              subst (λ (n : ℕ). get_or (set (set marks i Mark.Spared) i x) n Mark.Spared ≡ mark (cond b lost k.kept n) (v n)) (sym w)
              (get_or-set_same (set marks i Mark.Spared) i x Mark.Spared long ∙ stored b h (subst (λ (n : ℕ). n < outer_count f) w l))

          other : (b : Bool) → (j ≡ i → ⊥) → get_or marks j Mark.Spared ≡ mark (cond b lost k.kept j) (v j)
          other true n = k.marked j l ∙ sym (ap (λ (t : Bool). mark t (v j)) (without_other i j k.kept n))
          other false n = k.marked j l

          beside : (j ≡ i → ⊥) → get_or (set (set marks i Mark.Spared) i x) j Mark.Spared ≡ mark (cond b lost k.kept j) (v j)
          beside n = get_or-set_other (set marks i Mark.Spared) i j x Mark.Spared n ∙ get_or-set_other marks i j Mark.Spared Mark.Spared n ∙ other b n

      kept_next : Kept f v i (set (set marks i Mark.Spared) i x)
      unfolding spare_below
      kept_next =
          record {
            kept = cond (suffices f v lost) lost k.kept;
            same = k.same;
            marked = tries (suffices f v lost) (sym tested);
          }

-- ---- the loop

pub record Sparing (rows : List ℕ) (tests : ℕ) (before marks : List Mark) (left : ℕ) : Type 0 where
  pub kept : (e : Expression) (v : ℕ → Bool) → stated rows ≡ some e → tests ≡ outer_count (outline e) → ((j : ℕ) → j < tests → get_or before j Mark.Spared ≡ mark true (v j))
      → Kept (outline e) v left marks
  pub size : length marks ≡ 32
  pub within : left ≤ tests

pub sparing_start : (rows : List ℕ) (tests : ℕ) (before : List Mark) → length before ≡ 32 → Sparing rows tests before before tests
unfolding deciding
sparing_start rows tests before z =
    record {
      kept = λ e v s n h. record {
        kept = λ j. true;
        same = ap (λ (k : ℕ). spare_below k (outline e) v (λ j. true)) n;
        marked = λ j l. h j (omega (arith, l, n));
      };
      size = z;
      within = omega arith;
    }

module _ (rows : List ℕ) (tests : ℕ) (before marks : List Mark) (left : ℕ) (s : Sparing rows tests before marks left) (t : tests ≤ 32) (i : ℕ) (l : 0 < left) (d : i ≡ left - 1) where
  pub sparing_inside : i < length marks
  sparing_inside = omega (arith, t, s.within, s.size, l, d)

  pub sparing_again : i < length (set marks i Mark.Spared)
  sparing_again = omega (arith, sparing_inside, length-set marks i Mark.Spared)

  pub sparing_next : (whole old x : Mark) → MarksWhole rows (set marks i Mark.Spared) whole → old ≡ get_or marks i Mark.Spared → x ≡ cond (is_decided whole) Mark.Spared old
      → Sparing rows tests before (set (set marks i Mark.Spared) i x) (left - 1)
  sparing_next whole old x w o e =
      let up : left ≡ suc i = omega (arith, l, d) in
      rw (← d)
      (record {
        kept = λ f v a n h. kept_next (outline f) v i marks (subst (λ (k : ℕ). Kept (outline f) v k marks) up (s.kept f v a n h)) sparing_inside whole (w.whole f a) old x o e;
        size = length-set (set marks i Mark.Spared) i x ∙ length-set marks i Mark.Spared ∙ s.size;
        within = omega (arith, s.within, up);
      })

pub sparing_end : (rows : List ℕ) (tests : ℕ) (before marks : List Mark) (left : ℕ) → Sparing rows tests before marks left → left ≤ 0 → length before ≡ 32 → Spares rows tests before marks
unfolding spare_below
sparing_end rows tests before marks left s l z =
    let none_left : left ≡ 0 = omega (arith, l) in
    record {
      decides = λ e v a n h.
          let k : Kept (outline e) v 0 marks = subst (λ (m : ℕ). Kept (outline e) v m marks) none_left (s.kept e v a n h) in
          λ j b. k.marked j (omega (arith, b, n)) ∙ ap (λ (q : ℕ → Bool). masked q v j) k.same;
      size = s.size ∙ sym z;
    }
