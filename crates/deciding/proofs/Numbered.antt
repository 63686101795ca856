-- The tests' verdicts by number: with them the filter says what it says, and on nothing else does the explanation depend.
-- Assumes nothing.
use Prim.Native.Nat.{ℕ, zero, suc, ◌+◌, ◌<◌}
use native.Mathlib.Omega.{arith}
use mathlib.Core.Path.{◌≡◌, refl, ap, ap₂, sym, ◌∙◌}
use mathlib.Core.Bool.{Bool, false, not}
use mathlib.Core.List.{List, [], ◌∷◌, ◌++◌, map}
use lib.ListN.{length, get_or, length-append, length-map, get_or-append}
use Rattle.base.specs.Lists.{All, all_cons}
use Rattle.sheet.specs.Sheet.{Parameter}
use Rattle.card.specs.Card.{Entry}
use Rattle.syntax.specs.Tree.{Tree, test, bracketed, join, negation}
use Rattle.syntax.specs.Fold.{fold_tree}
use Rattle.judge.specs.Verdicts.{joined, filter_says}
use Rattle.deciding.specs.Deciding.{outer_tests, outer_count, verdicts, says_by, cells}
use Rattle.deciding.specs.Marks.{deciding, explanation}

-- ---- how many

pub tests_counted : (f : Tree) → length (outer_tests f) ≡ outer_count f
unfolding outer_tests outer_count
tests_counted (test t) = refl
tests_counted (bracketed p b f t) = refl
tests_counted (join c f g) = omega (arith, length-append (outer_tests f) (outer_tests g), tests_counted f, tests_counted g)
tests_counted (negation f) = tests_counted f

pub some_tests : (f : Tree) → 0 < outer_count f
unfolding outer_count
some_tests (test t) = omega arith
some_tests (bracketed p b f t) = omega arith
some_tests (join c f g) = omega (arith, some_tests f)
some_tests (negation f) = some_tests f

pub cells-counted : (v kept : ℕ → Bool) (i n : ℕ) → length (cells v kept i n) ≡ n
unfolding cells
cells-counted v kept i zero = refl
cells-counted v kept i (suc n) = ap suc (cells-counted v kept (suc i) n)

-- ---- the same verdicts, the same explanation

same-verdicts : (says other : Tree → Bool) (ts : List Tree) → All (λ (t : Tree). says t ≡ other t) ts → map says ts ≡ map other ts
same-verdicts says other [] h = refl
same-verdicts says other (t ∷ ts) (all_cons h hs) = ap₂ (λ (b : Bool) (l : List Bool). b ∷ l) h (same-verdicts says other ts hs)

pub explanation-same : (says other : Tree → Bool) (f : Tree) → All (λ (t : Tree). says t ≡ other t) (outer_tests f) → explanation says f ≡ explanation other f
unfolding explanation
explanation-same says other f h = ap (λ (l : List Bool). cells (λ i. get_or l i false) (deciding f (λ i. get_or l i false)) 0 (outer_count f)) (same-verdicts says other (outer_tests f) h)

-- ---- what the filter says, by its tests' numbers

pub map-append : {A : Type 0} {B : Type 0} (says : A → B) (ts us : List A) → map says (ts ++ us) ≡ map says ts ++ map says us
map-append says [] us = refl
map-append {B = B} says (t ∷ ts) us = ap (λ (l : List B). says t ∷ l) (map-append says ts us)

pub get_d_after : (xs ys : List Bool) (n j : ℕ) → n ≡ length xs → get_or (xs ++ ys) (n + j) false ≡ get_or ys j false
get_d_after [] ys n j e = let z : n + j ≡ j = omega arith in ap (λ (k : ℕ). get_or ys k false) z
get_d_after (x ∷ xs) ys n j e = let z : n + j ≡ suc (length xs + j) = omega arith in ap (λ (k : ℕ). get_or (x ∷ (xs ++ ys)) k false) z ∙ get_d_after xs ys (length xs) j refl

module _ (ps : List Parameter) (c : ℕ) (es : List Entry) where
  abbrev says : Tree → Bool
  says = filter_says ps c es

  -- where u says from i on what the tests say
  says_tests : (f : Tree) (u : ℕ → Bool) (i : ℕ) → ((j : ℕ) → j < outer_count f → u (i + j) ≡ verdicts says f j) → says_by u i f ≡ says f
  unfolding outer_count outer_tests says_by filter_says fold_tree
  says_tests (test t) u i h = let z : i ≡ i + 0 = omega arith in ap u z ∙ h 0 (omega arith)
  says_tests (bracketed p b f t) u i h = let z : i ≡ i + 0 = omega arith in ap u z ∙ h 0 (omega arith)
  says_tests (join k f g) u i h =
      ap₂ (joined k) (says_tests f u i (λ j b. h j (omega arith) ∙ left j b))
      (says_tests g u (i + outer_count f) (λ j b. let z : i + outer_count f + j ≡ i + (outer_count f + j) = omega arith in ap u z ∙ h (outer_count f + j) (omega arith) ∙ right j))
    where
      split : map says (outer_tests f ++ outer_tests g) ≡ map says (outer_tests f) ++ map says (outer_tests g)
      split = map-append says (outer_tests f) (outer_tests g)

      size : length (map says (outer_tests f)) ≡ outer_count f
      size = length-map (outer_tests f) says ∙ tests_counted f

      left : (j : ℕ) → j < outer_count f → verdicts says (join k f g) j ≡ verdicts says f j
      left j b = ap (λ (x : List Bool). get_or x j false) split ∙ get_or-append (map says (outer_tests f)) (map says (outer_tests g)) false j (omega (arith, size))

      right : (j : ℕ) → verdicts says (join k f g) (outer_count f + j) ≡ verdicts says g j
      right j = ap (λ (x : List Bool). get_or x (outer_count f + j) false) split ∙ get_d_after (map says (outer_tests f)) (map says (outer_tests g)) (outer_count f) j (sym size)
  says_tests (negation f) u i h = ap not (says_tests f u i h)

  -- the filter's verdict
  pub says_by_verdicts : (f : Tree) → says_by (verdicts says f) 0 f ≡ says f
  says_by_verdicts f = says_tests f (verdicts says f) 0 (λ j b. let z : 0 + j ≡ j = omega arith in ap (verdicts says f) z)
