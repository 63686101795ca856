-- Laws of finding a parameter: what the next of a list decides.
-- Assumes nothing.
use Rattle.std.specs.Prelude.{Option, Some, None}
use Prim.Native.Nat.{ℕ, zero, suc, ◌+◌}
use native.Mathlib.Numerals.{add-one}
use mathlib.Core.Path.{◌≡◌, refl, ap, sym, ◌∙◌}
use mathlib.Core.Bool.{true, false, ◌&&◌, and-false}
use lib.Dec.{eqb}
use borrow.Author.Tests.{eq-eqb, ne_eqb}
use mathlib.Core.List.{List, [], ◌∷◌}
use Rattle.std.specs.declared.iter.Enumerate.{Enumerate}
use Rattle.std.specs.Option.{option_map, option_map_or}
use Rattle.std.specs.List.{slice_get}
use Rattle.base.specs.Lists.{equal}
use Rattle.sheet.specs.Sheet.{Parameter, kind_at, parameter}
use Rattle.block.specs.Walking.{made, coming}
use Rattle.block.specs.declared.walker.Item.{Item}
use Rattle.block.specs.declared.walker.Walker.{Walker}
use Rattle.sheet.specs.declared.Found.{Found}
use Rattle.sheet.specs.Find.{found_at, find_from, find}

-- ---- counted from 0: the first parameter has the index 0, and all are to come

pub counted_start : (s t : Enumerate Walker) (x : Walker) {ps : List Parameter} → s ≡ t → t.count ≡ 0 → t.iter ≡ x → coming parameter x ≡ ps → (s.count ≡ 0) × (coming parameter s.iter ≡ ps)
counted_start s t x e n i h = (ap (λ (r : Enumerate Walker). r.count) e ∙ n, ap (λ (r : Enumerate Walker). coming parameter r.iter) e ∙ ap (coming parameter) i ∙ h)

-- ---- by name

pub find-start : (c : ℕ) (n : List ℕ) {xs ps : List Parameter} → xs ≡ ps → find_from 0 c n xs ≡ find c n ps
unfolding find
find-start c n e = ap (find_from 0 c n) e

-- the parameters to come decide, the first of which has the index i
module _ (i c : ℕ) (n : List ℕ) (xs : List Parameter) (answer : Option Found) (inv : find_from i c n xs ≡ answer) where
  module _ (p : Parameter) (ps : List Parameter) (e : xs ≡ p ∷ ps) where
    pub find-here : p.bundle ≡ c → equal p.name n ≡ true → found_at i p.kind ≡ answer
    unfolding find_from
    find-here b same = sym (ap (find_from i c n) e ∙ rw (eq-eqb p.bundle c b, same)) ∙ inv

    passed : (eqb p.bundle c && equal p.name n) ≡ false → find_from (i + 1) c n ps ≡ answer
    unfolding find_from
    passed other = sym (ap (find_from i c n) e ∙ rw (other, add-one i)) ∙ inv

    pub find_other_bundle : (p.bundle ≡ c → ⊥) → find_from (i + 1) c n ps ≡ answer
    find_other_bundle b = passed (rw (ne_eqb p.bundle c b))

    pub find_other_name : equal p.name n ≡ false → find_from (i + 1) c n ps ≡ answer
    find_other_name other = passed (rw (other, and-false))

  pub find_end : xs ≡ [] → None ≡ answer
  unfolding find_from
  find_end e = sym (ap (find_from i c n) e) ∙ inv

-- ---- the kind by index, 0 past the last

pub kind_got : (ps : List Parameter) (i : ℕ) (r : Option Item) → option_map (made parameter) r ≡ slice_get ps i → option_map_or (λ (p : Item). p.tag) r 0 ≡ kind_at i ps
unfolding kind_at
kind_got [] i None e = refl
kind_got [] i (Some p) e = cc
kind_got (q ∷ ps) zero None e = cc
kind_got (q ∷ ps) zero (Some p) e = let same : made parameter p ≡ q = cc in ap (λ (x : Parameter). x.kind) same
kind_got (q ∷ ps) (suc i) r e = kind_got ps i r e
