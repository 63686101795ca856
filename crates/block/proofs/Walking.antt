-- Laws of a walk over the items of a block: what a step and the end of it say of the items that are to come, whatever is made of each.
-- Assumes nothing.
use Prim.Native.Nat.{ℕ, ◌+◌, ◌-◌, ◌≤◌, ◌<◌}
use native.Mathlib.Omega.{arith}
use mathlib.Core.Path.{◌≡◌, ap, sym, ◌∙◌, subst}
use mathlib.Core.List.{List, [], ◌∷◌}
use lib.ListN.{length}
use Rattle.std.proofs.lemmas.Iterator.{YieldsList}
use Rattle.std.proofs.lemmas.Iterator.Consumers.{YieldsList-from_shown}
use Rattle.base.specs.Parts.{part}
use Rattle.base.proofs.Parts.{part_length}
use Rattle.block.specs.Items.{length_at, next, text_at, PlaceAt, Walk}
use Rattle.block.specs.Walking.{Steps, Walks, made, coming}
use Rattle.block.specs.declared.Place.{Place}
use Rattle.block.specs.declared.walker.Item.{Item}
use Rattle.block.specs.declared.walker.Walker.{Walker}
use Rattle.block.proofs.Items.{items_none, items-first, items-length, walk_within, walk_next}

-- ---- a step in the code

module _ (b : List ℕ) (p : ℕ) (r : Place) (i : PlaceAt b p r) where
  pub walk_on : (left : ℕ) → Walk b p left → 0 < left → Walk b r.end (left - 1)
  walk_on left w l = subst (λ (e : ℕ). Walk b e (left - 1)) (sym i.end) (walk_next b p left w l)

  pub text_there : part b r.start r.end ≡ text_at b p
  unfolding text_at
  text_there = rw (i.start, i.end)

-- where the text of an item stands
pub record Stands (b : List ℕ) (i : Item) : Type 0 where
  pub within : i.start + length i.text.now ≤ 508
  pub size : length b ≡ 512
  pub text : i.text.now ≡ part b i.start (i.start + length i.text.now)

module _ (s : Walker) (i : Item) (t : Walker) (h : Steps s i t) (w : Walk s.block.now s.at s.left) where
  -- the text ends where the next item starts
  step_end : i.start + length i.text.now ≡ next s.block.now s.at
  unfolding text_at next
  step_end =
      let e = next s.block.now s.at in
      let a = length_at s.block.now s.at + 1 in
      let within : e ≤ 508 = walk_within s.block.now s.at s.left w h.some in
      let long : length i.text.now ≡ e - a = ap length h.text ∙ part_length s.block.now a e (omega (arith, within, w.size)) in
      omega (arith, h.start, long)

  pub step_stands : Stands s.block.now i
  unfolding text_at
  step_stands = record {
    within = omega (arith, step_end, walk_within s.block.now s.at s.left w h.some);
    size = w.size;
    text = rw (step_end, h.start) h.text;
  }

-- ---- the items to come, each made into something

module _ {X : Type 0} (make : ℕ → ℕ → List ℕ → X) where
  pub step_first : (s : Walker) (i : Item) (t : Walker) → Steps s i t → coming make s ≡ made make i ∷ coming make t
  step_first s i t h = items-first make s.block.now s.at s.left h.some ∙ rw (h.tag, h.mark, h.text, h.left, h.block, h.at)

  pub none_coming : (s : Walker) → s.left ≡ 0 → coming make s ≡ []
  none_coming s h = items_none make s.block.now s.at s.left (omega arith)

  pub walk_listed : (s : Walker) → YieldsList Walks (made make) s (coming make s)
  walk_listed s = YieldsList-from_shown Walks (made make) (coming make) (λ t u h. omega (arith, h.0, items-length make t.left t.block.now t.at)) (λ t i u h. step_first t i u h) s

-- ---- a `for` loop over the items, whose answer is what G says of those to come: a turn that goes on, one that decides, and the end

module _ {X A : Type 0} (make : ℕ → ℕ → List ℕ → X) (G : List X → A) (answer : A) (s : Walker) (inv : G (coming make s) ≡ answer) where
  module _ (i : Item) (t : Walker) (h : Steps s i t) where
    pub walked_next : (G' : List X → A) → G (made make i ∷ coming make t) ≡ G' (coming make t) → G' (coming make t) ≡ answer
    walked_next G' e = sym e ∙ sym (ap G (step_first make s i t h)) ∙ inv

    pub walked_decides : (x : A) → x ≡ G (made make i ∷ coming make t) → x ≡ answer
    walked_decides x e = e ∙ sym (ap G (step_first make s i t h)) ∙ inv

  pub walked_end : s.left ≡ 0 → (x : A) → x ≡ G [] → x ≡ answer
  walked_end h x e = e ∙ ap G (sym (none_coming make s h)) ∙ inv
