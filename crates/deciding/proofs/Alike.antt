-- Trees with the same joins, negations and brackets have the same tests that decide; and the rows' verdicts are the filter's.
-- Assumes nothing.
use Prim.Native.Nat.{ℕ, zero, suc, ◌+◌}
use mathlib.Core.Path.{◌≡◌, refl, sym, ap, ap₂, ◌∙◌}
use mathlib.Core.Bool.{Bool, true, cond}
use mathlib.Core.List.{List, [], ◌∷◌, ◌++◌, map}
use Rattle.sheet.specs.Sheet.{Parameter}
use Rattle.sheet.specs.Find.{kinds_of}
use Rattle.sheet.specs.Encode.{WellFormedSheet}
use Rattle.card.specs.Card.{Entry}
use Rattle.syntax.specs.Tree.{Tree, test, bracketed, join, negation, erase}
use Rattle.judge.specs.Verdicts.{filter_says}
use Rattle.rows.specs.Expression.{Expression, probing, choosing, joining, negating}
use Rattle.rows.specs.Good.{Fits, fits_test, fits_bracket, fits_join, fits_not}
use Rattle.rows.specs.Stated.{tree_of}
use Rattle.row_judge.proofs.Meaning.{says_is, erase-says}
use Rattle.deciding.specs.Deciding.{outer_tests, outer_count, without}
use Rattle.deciding.specs.declared.Mark.{Mark}
use Rattle.deciding.specs.Marks.{opposite, joined_marks, mark_by, is_decided, masked, suffices, spare_below, deciding}
use Rattle.deciding.specs.Rows.{outline, outer_verdicts}
use Rattle.deciding.proofs.Numbered.{map-append}

-- ---- trees that are marked alike

pub record Alike (f g : Tree) : Type 0 where
  pub count : outer_count f ≡ outer_count g
  pub marks : (m : ℕ → Mark) (i : ℕ) → mark_by m i f ≡ mark_by m i g

pub alike_through : {f g h : Tree} → Alike f g → Alike g h → Alike f h
alike_through a b = record { count = a.count ∙ b.count; marks = λ m i. a.marks m i ∙ b.marks m i }

pub alike-back : {f g : Tree} → Alike f g → Alike g f
alike-back a = record { count = sym a.count; marks = λ m i. sym (a.marks m i) }

alike-join : {f g f' g' : Tree} (c : _) → Alike f f' → Alike g g' → Alike (join c f g) (join c f' g')
unfolding outer_count mark_by
alike-join {f} {g} {f'} {g'} c a b =
    record {
      count = ap₂ (λ (x y : ℕ). x + y) a.count b.count;
      marks = λ m i. ap₂ (joined_marks c) (a.marks m i) (b.marks m (i + outer_count f) ∙ ap (λ (n : ℕ). mark_by m (i + n) g') a.count);
    }

alike_not : {f g : Tree} → Alike f g → Alike (negation f) (negation g)
unfolding outer_count mark_by
alike_not a = record { count = a.count; marks = λ m i. ap opposite (a.marks m i) }

pub alike-erase : (f : Tree) → Alike (erase f) f
unfolding erase outer_count mark_by
alike-erase (test t) = record { count = refl; marks = λ m i. refl }
alike-erase (bracketed p b f t) = record { count = refl; marks = λ m i. refl }
alike-erase (join c f g) = alike-join c (alike-erase f) (alike-erase g)
alike-erase (negation f) = alike_not (alike-erase f)

pub alike-outline : (ps : List Parameter) (xs : List ℕ) (e : Expression) → Alike (outline e) (tree_of ps xs e)
unfolding tree_of outer_count mark_by
alike-outline ps xs (probing p) = record { count = refl; marks = λ m i. refl }
alike-outline ps xs (choosing e p) = record { count = refl; marks = λ m i. refl }
alike-outline ps xs (joining c e f) = alike-join c (alike-outline ps xs e) (alike-outline ps xs f)
alike-outline ps xs (negating e) = alike_not (alike-outline ps xs e)

module _ (f g : Tree) (v : ℕ → Bool) (a : Alike f g) where
  suffices-alike : (kept : ℕ → Bool) → suffices f v kept ≡ suffices g v kept
  unfolding suffices
  suffices-alike kept = ap is_decided (a.marks (masked kept v) 0)

  spare_alike : (n : ℕ) (kept : ℕ → Bool) → spare_below n f v kept ≡ spare_below n g v kept
  unfolding spare_below
  spare_alike zero kept = refl
  spare_alike (suc n) kept =
      spare_alike n (cond (suffices f v (without n kept)) (without n kept) kept)
      ∙ ap (λ (b : Bool). spare_below n g v (cond b (without n kept) kept)) (suffices-alike (without n kept))

  pub deciding-alike : deciding f v ≡ deciding g v
  unfolding deciding
  deciding-alike = ap (λ (n : ℕ). spare_below n f v (λ j. true)) a.count ∙ spare_alike (outer_count g) (λ j. true)

-- ---- the verdicts

module _ (ps : List Parameter) (w : WellFormedSheet ps) (xs : List ℕ) (es : List Entry) where
  stated-verdicts : {c : ℕ} {e : Expression} → Fits ps xs c e → outer_verdicts (kinds_of ps) xs es e ≡ map (filter_says ps c es) (outer_tests (tree_of ps xs e))
  unfolding outer_verdicts outer_tests tree_of
  stated-verdicts (fits_test l e f) = ap (λ (b : Bool). b ∷ []) (says_is ps w xs (fits_test l e f) es)
  stated-verdicts (fits_bracket l i m k f g) = ap (λ (b : Bool). b ∷ []) (says_is ps w xs (fits_bracket l i m k f g) es)
  stated-verdicts {c = c} (fits_join {e = e} {f = f} a b) =
      ap₂ (λ (x y : List Bool). x ++ y) (stated-verdicts a) (stated-verdicts b)
      ∙ sym (map-append (filter_says ps c es) (outer_tests (tree_of ps xs e)) (outer_tests (tree_of ps xs f)))
  stated-verdicts (fits_not a) = stated-verdicts a

erased_verdicts : (ps : List Parameter) (c : ℕ) (es : List Entry) (f : Tree) → map (filter_says ps c es) (outer_tests (erase f)) ≡ map (filter_says ps c es) (outer_tests f)
unfolding erase outer_tests
erased_verdicts ps c es (test t) = ap (λ (b : Bool). b ∷ []) (erase-says ps c es (test t))
erased_verdicts ps c es (bracketed p b f t) = ap (λ (b : Bool). b ∷ []) (erase-says ps c es (bracketed p b f t))
erased_verdicts ps c es (join k f g) =
    map-append (filter_says ps c es) (outer_tests (erase f)) (outer_tests (erase g)) ∙ ap₂ (λ (x y : List Bool). x ++ y) (erased_verdicts ps c es f) (erased_verdicts ps c es g)
    ∙ sym (map-append (filter_says ps c es) (outer_tests f) (outer_tests g))
erased_verdicts ps c es (negation f) = erased_verdicts ps c es f

-- of rows that state a filter
module _ (ps : List Parameter) (w : WellFormedSheet ps) (xs : List ℕ) (e : Expression) (fits : Fits ps xs 0 e) (f : Tree) (states : erase (tree_of ps xs e) ≡ erase f) where
  pub filter_verdicts : (es : List Entry) → outer_verdicts (kinds_of ps) xs es e ≡ map (filter_says ps 0 es) (outer_tests f)
  filter_verdicts es =
      stated-verdicts ps w xs es fits ∙ sym (erased_verdicts ps 0 es (tree_of ps xs e)) ∙ ap (λ (g : Tree). map (filter_says ps 0 es) (outer_tests g)) states ∙ erased_verdicts ps 0 es f

  same_erased : (g h : Tree) → g ≡ h → Alike g h
  same_erased g h i = record { count = ap outer_count i; marks = λ m k. ap (mark_by m k) i }

  pub filter_alike : Alike (outline e) f
  filter_alike =
      alike_through (alike-outline ps xs e)
      (alike_through (alike-back (alike-erase (tree_of ps xs e))) (alike_through (same_erased (erase (tree_of ps xs e)) (erase f) states) (alike-erase f)))
