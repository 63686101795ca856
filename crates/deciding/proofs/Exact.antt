-- Three values are exact, since each test stands once in the tree: the mark of the whole is a yes or a no exactly where the answer stands.
-- By induction on the tree, whose outer tests are numbered from i on. One way (`mark-fits`): verdicts that the marks of the tests leave
-- open make the whole say what its mark leaves open. The other way (`comes`): whatever the mark of the whole leaves open comes about for
-- some such verdicts. For a join `parts` finds what each part is to say. The parts have no test in common, so verdicts can be chosen for
-- each and put together (`says_local`). So the mark is decided exactly where no other verdicts of the spared tests change the answer
-- (`suffices_stands`, `stands_suffices`).
-- Assumes nothing.
use Prim.Native.Nat.{ℕ, ◌+◌, ◌≤◌, ◌<◌}
use native.Mathlib.Omega.{arith}
use native.Mathlib.Nat.{le_refl}
use mathlib.Core.Path.{◌≡◌, refl, ap, sym, ◌∙◌, subst}
use mathlib.Core.Bool.{Bool, true, false, cond, not, ◌&&◌, ◌||◌, not-not}
use lib.Dec.{ltb}
use borrow.Author.Tests.{lt-ltb, le-ltb, ltb-true, ltb-false}
use Rattle.base.proofs.Tests.{cond-elim}
use Rattle.syntax.specs.Tree.{Tree, test, bracketed, join, negation}
use Rattle.syntax.specs.declared.Connective.{Connective}
use Rattle.judge.specs.Verdicts.{joined}
use Rattle.deciding.specs.Deciding.{outer_count, says_by, Suffices}
use Rattle.deciding.specs.declared.Mark.{Mark}
use Rattle.deciding.specs.Marks.{mark, both, opposite, either, joined_marks, mark_by, is_decided, masked, suffices}

-- ---- a yes or no that a mark leaves open

data Fits : Mark → Bool → Type 0 where
  fits_spared : {b : Bool} → Fits Mark.Spared b
  fits_yes : Fits Mark.Yes true
  fits_no : Fits Mark.No false

fits_both : {a b : Mark} {x y : Bool} → Fits a x → Fits b y → Fits (both a b) (x && y)
fits_both (fits_spared {b = true}) (fits_spared {b = y}) = fits_spared {b = y}
fits_both (fits_spared {b = false}) (fits_spared {b = y}) = fits_spared {b = false}
fits_both (fits_spared {b = true}) fits_yes = fits_spared {b = true}
fits_both (fits_spared {b = false}) fits_yes = fits_spared {b = false}
fits_both (fits_spared {b = true}) fits_no = fits_no
fits_both (fits_spared {b = false}) fits_no = fits_no
fits_both fits_yes h = h
fits_both fits_no h = fits_no

fits-opposite : {a : Mark} {x : Bool} → Fits a x → Fits (opposite a) (not x)
fits-opposite (fits_spared {b = b}) = fits_spared {b = not b}
fits-opposite fits_yes = fits_no
fits-opposite fits_no = fits_yes

or_by_not : (x y : Bool) → not (not x && not y) ≡ (x || y)
or_by_not true y = refl
or_by_not false true = refl
or_by_not false false = refl

fits-joined : (c : Connective) {a b : Mark} {x y : Bool} → Fits a x → Fits b y → Fits (joined_marks c a b) (joined c x y)
fits-joined Connective.And h k = fits_both h k
fits-joined Connective.Or {a} {b} {x} {y} h k = subst (Fits (either a b)) (or_by_not x y) (fits-opposite (fits_both (fits-opposite h) (fits-opposite k)))

-- the two parts can say what the whole is to say
record Parts (c : Connective) (a b : Mark) (z : Bool) : Type 0 where
  left : Bool
  right : Bool
  fits_left : Fits a left
  fits_right : Fits b right
  whole : joined c left right ≡ z

both_parts : (a b : Mark) {z : Bool} → Fits (both a b) z → Parts Connective.And a b z
both_parts Mark.Spared Mark.Spared (fits_spared {b = z}) = record { left = true; right = z; fits_left = fits_spared; fits_right = fits_spared; whole = refl }
both_parts Mark.Spared Mark.Yes (fits_spared {b = true}) = record { left = true; right = true; fits_left = fits_spared; fits_right = fits_yes; whole = refl }
both_parts Mark.Spared Mark.Yes (fits_spared {b = false}) = record { left = false; right = true; fits_left = fits_spared; fits_right = fits_yes; whole = refl }
both_parts Mark.Spared Mark.No fits_no = record { left = false; right = false; fits_left = fits_spared; fits_right = fits_no; whole = refl }
both_parts Mark.Yes b {z} h = record { left = true; right = z; fits_left = fits_yes; fits_right = h; whole = refl }
both_parts Mark.No Mark.Spared fits_no = record { left = false; right = false; fits_left = fits_no; fits_right = fits_spared; whole = refl }
both_parts Mark.No Mark.Yes fits_no = record { left = false; right = true; fits_left = fits_no; fits_right = fits_yes; whole = refl }
both_parts Mark.No Mark.No fits_no = record { left = false; right = false; fits_left = fits_no; fits_right = fits_no; whole = refl }

opposite-opposite : (a : Mark) → opposite (opposite a) ≡ a
opposite-opposite Mark.Spared = refl
opposite-opposite Mark.Yes = refl
opposite-opposite Mark.No = refl

fits-back : {a : Mark} {x : Bool} → Fits (opposite a) x → Fits a (not x)
fits-back {a} {x} h = subst (λ (m : Mark). Fits m (not x)) (opposite-opposite a) (fits-opposite h)

parts : (c : Connective) (a b : Mark) {z : Bool} → Fits (joined_marks c a b) z → Parts c a b z
parts Connective.And a b h = both_parts a b h
parts Connective.Or a b {z} h =
    let p : Parts Connective.And (opposite a) (opposite b) (not z) = both_parts (opposite a) (opposite b) (fits-back h) in
    record {
      left = not p.left;
      right = not p.right;
      fits_left = fits-back p.fits_left;
      fits_right = fits-back p.fits_right;
      whole = sym (or_by_not (not p.left) (not p.right))
          ∙ ap (λ (b : Bool). not b) (ap (λ (b : Bool). b && not (not p.right)) (not-not p.left) ∙ ap (λ (b : Bool). p.left && b) (not-not p.right) ∙ p.whole)
          ∙ not-not z;
    }

-- ---- three values are exact

-- u is one of the cases that the marks of the tests from i on leave open
abbrev Open : (ℕ → Mark) → (i n : ℕ) → (ℕ → Bool) → Type 0
Open m i n u = (j : ℕ) → i ≤ j → j < i + n → Fits (m j) (u j)

-- the mark of the whole leaves what is said open
mark-fits : (f : Tree) (m : ℕ → Mark) (i : ℕ) (u : ℕ → Bool) → Open m i (outer_count f) u → Fits (mark_by m i f) (says_by u i f)
unfolding outer_count says_by mark_by
mark-fits (test t) m i u h = h i (le_refl i) (omega arith)
mark-fits (bracketed p b f t) m i u h = h i (le_refl i) (omega arith)
mark-fits (join c f g) m i u h =
    fits-joined c (mark-fits f m i u (λ j a b. h j a (omega arith))) (mark-fits g m (i + outer_count f) u (λ j a b. h j (omega arith) (omega arith)))
mark-fits (negation f) m i u h = fits-opposite (mark-fits f m i u h)

-- only the tests of the tree matter
pub says_local : (f : Tree) (i : ℕ) (u w : ℕ → Bool) → ((j : ℕ) → i ≤ j → j < i + outer_count f → u j ≡ w j) → says_by u i f ≡ says_by w i f
unfolding outer_count says_by
says_local (test t) i u w h = h i (le_refl i) (omega arith)
says_local (bracketed p b f t) i u w h = h i (le_refl i) (omega arith)
says_local (join c f g) i u w h =
    let a = says_local f i u w (λ j a b. h j a (omega arith)) in
    let b = says_local g (i + outer_count f) u w (λ j a b. h j (omega arith) (omega arith)) in
    ap (λ (x : Bool). joined c x (says_by u (i + outer_count f) g)) a ∙ ap (λ (x : Bool). joined c (says_by w i f) x) b
says_local (negation f) i u w h = ap (λ (x : Bool). not x) (says_local f i u w h)

-- whatever the mark of the whole leaves open comes about
record Comes (f : Tree) (m : ℕ → Mark) (i : ℕ) (z : Bool) : Type 0 where
  u : ℕ → Bool
  lies : Open m i (outer_count f) u
  says : says_by u i f ≡ z

comes : (f : Tree) (m : ℕ → Mark) (i : ℕ) {z : Bool} → Fits (mark_by m i f) z → Comes f m i z
unfolding outer_count says_by mark_by
comes (test t) m i {z} h = record { u = λ j. z; lies = λ j a b. let e : i ≡ j = omega arith in subst (λ (t : ℕ). Fits (m t) z) e h; says = refl }
comes (bracketed p b f t) m i {z} h = record { u = λ j. z; lies = λ j a b. let e : i ≡ j = omega arith in subst (λ (t : ℕ). Fits (m t) z) e h; says = refl }
comes (join c f g) m i {z} h =
    let s : Parts c (mark_by m i f) (mark_by m (i + outer_count f) g) z = parts c (mark_by m i f) (mark_by m (i + outer_count f) g) h in
    let a = comes f m i s.fits_left in
    let b = comes g m (i + outer_count f) s.fits_right in
    let u : ℕ → Bool = λ j. cond (ltb j (i + outer_count f)) (a.u j) (b.u j) in
    record {
      u = u;
      lies = λ j l r. cond-elim (Fits (m j)) (ltb j (i + outer_count f)) (λ e. a.lies j l (ltb-true j (i + outer_count f) e)) (λ e. b.lies j (ltb-false j (i + outer_count f) e) (omega arith));
      says =
          (let p : says_by u i f ≡ says_by a.u i f = says_local f i u a.u (λ j l r. let t = lt-ltb j (i + outer_count f) r in cc) in
          let q : says_by u (i + outer_count f) g ≡ says_by b.u (i + outer_count f) g = says_local g (i + outer_count f) u b.u (λ j l r. let t = le-ltb j (i + outer_count f) l in cc) in
          ap (λ (x : Bool). joined c x (says_by u (i + outer_count f) g)) (p ∙ a.says) ∙ ap (λ (x : Bool). joined c s.left x) (q ∙ b.says) ∙ s.whole);
    }
comes (negation f) m i {z} h =
    let a = comes f m i (fits-back h) in
    record { u = a.u; lies = a.lies; says = ap (λ (b : Bool). not b) a.says ∙ not-not z }

-- ---- the test of sufficiency is that of the definition

fits_mask : (kept v u : Bool) → (kept ≡ true → u ≡ v) → Fits (mark kept v) u
fits_mask false v u h = fits_spared
fits_mask true true u h = subst (Fits Mark.Yes) (sym (h refl)) fits_yes
fits_mask true false u h = subst (Fits Mark.No) (sym (h refl)) fits_no

mask_fits : (kept v u : Bool) → Fits (mark kept v) u → kept ≡ true → u ≡ v
mask_fits false v u h e = absurd (let z : ◌≡◌ {A = ℕ} 0 1 = cc in omega arith)
mask_fits true true u fits_yes e = refl
mask_fits true false u fits_no e = refl

decided_one : (m : Mark) {x y : Bool} → is_decided m ≡ true → Fits m x → Fits m y → x ≡ y
decided_one Mark.Yes e fits_yes fits_yes = refl
decided_one Mark.No e fits_no fits_no = refl
decided_one Mark.Spared e h k = absurd (let z : ◌≡◌ {A = ℕ} 0 1 = cc in omega arith)

module _ (f : Tree) (v kept : ℕ → Bool) where
  pub suffices_stands : suffices f v kept ≡ true → Suffices f v kept
  unfolding suffices
  suffices_stands e u h =
      decided_one (mark_by (masked kept v) 0 f) e (mark-fits f (masked kept v) 0 u (λ j l r. fits_mask (kept j) (v j) (u j) (λ t. h j (omega arith) t)))
      (mark-fits f (masked kept v) 0 v (λ j l r. fits_mask (kept j) (v j) (v j) (λ t. refl)))

  pub stands_suffices : Suffices f v kept → suffices f v kept ≡ true
  unfolding suffices
  stands_suffices h = by (mark_by (masked kept v) 0 f) refl
    where
      by : (m : Mark) → mark_by (masked kept v) 0 f ≡ m → is_decided m ≡ true
      by Mark.Yes e = refl
      by Mark.No e = refl
      by Mark.Spared e =
          let b : Bool = says_by v 0 f in
          let c : Comes f (masked kept v) 0 (not b) = comes f (masked kept v) 0 (subst (λ (m : Mark). Fits m (not b)) (sym e) fits_spared) in
          let s = h c.u (λ i l t. mask_fits (kept i) (v i) (c.u i) (c.lies i (omega arith) (omega arith)) t) in
          never (says_by v 0 f) (sym s ∙ c.says)
        where
          never : (b : Bool) → b ≡ not b → false ≡ true
          never true e = sym e
          never false e = e
