-- The alternatives of a decoded value: the computed ones are those of the rule.
-- Assumes nothing.
use Prim.Native.Nat.{ℕ, suc}
use native.Mathlib.Omega.{arith}
use mathlib.Core.Path.{◌≡◌, refl, ap, sym, ◌∙◌, subst}
use mathlib.Core.Logic.{◌↔◌}
use mathlib.Core.List.{List, [], ◌∷◌, ◌++◌, map}
use lib.ListN.{length}
use Rattle.base.specs.Lists.{All, all_empty, all_cons}
use Rattle.base.specs.Runs.{run}
use Rattle.base.specs.Split.{first_of}
use Rattle.text.specs.Bar.{bar}
use borrow.Author.Tests.{ne_eqb}
use Rattle.query.specs.Spelling.{Sign, byte, cut, split, Uncut, Pieces, last_piece, next_piece, TextIs, text_end, text_byte, text_bar, Unsplit, NoPlainBar, SplitAt, split_none, split_first, Alternative, AlternativesAre, alternatives_end, alternatives_next}
use Rattle.query.specs.Reader.{on_first, cut_signs, text_of, split_of, alternative}

-- ---- where the commas cut

-- one sign more on the first piece
more_on-first : (x : Sign) → (x ≡ cut → ⊥) → {v : List Sign} {ws : List (List Sign)} → Pieces v ws → Pieces (x ∷ v) (on_first x ws)
more_on-first x n (last_piece h) = last_piece (all_cons n h)
more_on-first x n (next_piece h r) = next_piece (all_cons n h) r

pieces_there : (v : List Sign) → Pieces v (cut_signs v)
unfolding cut_signs
pieces_there [] = last_piece all_empty
pieces_there (cut ∷ v) = next_piece all_empty (pieces_there v)
pieces_there (byte b ∷ v) = more_on-first (byte b) (λ e. let z : ◌≡◌ {A = ℕ} 0 1 = cc in omega arith) (pieces_there v)
pieces_there (split ∷ v) = more_on-first split (λ e. let z : ◌≡◌ {A = ℕ} 0 1 = cc in omega arith) (pieces_there v)

-- what is not cut is one piece, and before a cut it is the first
uncut_one : (w : List Sign) → Uncut w → cut_signs w ≡ w ∷ []
unfolding cut_signs
uncut_one [] h = refl
uncut_one (cut ∷ w) (all_cons n h) = absurd (n refl)
uncut_one (byte b ∷ w) (all_cons n h) = ap (on_first (byte b)) (uncut_one w h)
uncut_one (split ∷ w) (all_cons n h) = ap (on_first split) (uncut_one w h)

uncut_first : (w v : List Sign) → Uncut w → cut_signs (w ++ (cut ∷ v)) ≡ w ∷ cut_signs v
unfolding cut_signs
uncut_first [] v h = refl
uncut_first (cut ∷ w) v (all_cons n h) = absurd (n refl)
uncut_first (byte b ∷ w) v (all_cons n h) = ap (on_first (byte b)) (uncut_first w v h)
uncut_first (split ∷ w) v (all_cons n h) = ap (on_first split) (uncut_first w v h)

pub pieces_back : {v : List Sign} {ws : List (List Sign)} → Pieces v ws → cut_signs v ≡ ws
pieces_back (last_piece {w = w} h) = uncut_one w h
pieces_back (next_piece {w = w} {v = v} h r) = uncut_first w v h ∙ ap (λ (l : List (List Sign)). w ∷ l) (pieces_back r)

pub pieces_iff : (v : List Sign) (ws : List (List Sign)) → (cut_signs v ≡ ws) ↔ Pieces v ws
pieces_iff v ws = ((λ e. subst (Pieces v) e (pieces_there v)), pieces_back)

pieces_uncut : {v : List Sign} {ws : List (List Sign)} → Pieces v ws → All Uncut ws
pieces_uncut (last_piece h) = all_cons h all_empty
pieces_uncut (next_piece h r) = all_cons h (pieces_uncut r)

-- ---- an alternative's text, and where it is split

text_there : (w : List Sign) → Uncut w → TextIs w (text_of w)
unfolding text_of
text_there [] h = text_end
text_there (byte b ∷ w) (all_cons n h) = text_byte (text_there w h)
text_there (cut ∷ w) (all_cons n h) = absurd (n refl)
text_there (split ∷ w) (all_cons n h) = text_bar (text_there w h)

text_back : {w : List Sign} {t : List ℕ} → TextIs w t → text_of w ≡ t
unfolding text_of
text_back text_end = refl
text_back (text_byte {b = b} h) = ap (λ (l : List ℕ). b ∷ l) (text_back h)
text_back (text_bar h) = ap (λ (l : List ℕ). bar ∷ l) (text_back h)

later : (x : Sign) → (x ≡ split → ⊥) → {w : List Sign} {i : ℕ} → SplitAt w i → SplitAt (x ∷ w) (suc i)
later x n (split_none h) = split_none (all_cons n h)
later x n (split_first rest h) = split_first rest (all_cons n h)

split_there : (w : List Sign) → SplitAt w (split_of w)
unfolding split_of
split_there [] = split_none all_empty
split_there (split ∷ w) = split_first w all_empty
split_there (byte b ∷ w) = later (byte b) (λ e. let z : ◌≡◌ {A = ℕ} 0 1 = cc in omega arith) (split_there w)
split_there (cut ∷ w) = later cut (λ e. let z : ◌≡◌ {A = ℕ} 0 1 = cc in omega arith) (split_there w)

unsplit_end : (w : List Sign) → Unsplit w → split_of w ≡ length w
unfolding split_of
unsplit_end [] h = refl
unsplit_end (split ∷ w) (all_cons n h) = absurd (n refl)
unsplit_end (byte b ∷ w) (all_cons n h) = ap suc (unsplit_end w h)
unsplit_end (cut ∷ w) (all_cons n h) = ap suc (unsplit_end w h)

unsplit_first : (w rest : List Sign) → Unsplit w → split_of (w ++ (split ∷ rest)) ≡ length w
unfolding split_of
unsplit_first [] rest h = refl
unsplit_first (split ∷ w) rest (all_cons n h) = absurd (n refl)
unsplit_first (byte b ∷ w) rest (all_cons n h) = ap suc (unsplit_first w rest h)
unsplit_first (cut ∷ w) rest (all_cons n h) = ap suc (unsplit_first w rest h)

split-back : {w : List Sign} {i : ℕ} → SplitAt w i → split_of w ≡ i
split-back (split_none {w = w} h) = unsplit_end w h
split-back (split_first {w = w} rest h) = unsplit_first w rest h

pub split_iff : (w : List Sign) (i : ℕ) → (split_of w ≡ i) ↔ SplitAt w i
split_iff w i = ((λ e. subst (SplitAt w) e (split_there w)), split-back)

-- without a plain bar it is split at the first bar of its text
first-bar : {w : List Sign} {t : List ℕ} → TextIs w t → NoPlainBar w → split_of w ≡ first_of bar t
unfolding split_of run
first-bar text_end h = refl
first-bar (text_byte {b = b} {t = t} r) (all_cons n h) = ap suc (first-bar r h) ∙ sym (rw (ne_eqb b bar (λ e. n (ap byte e))))
first-bar (text_bar r) h = refl

pub split-first-bar : {w : List Sign} {t : List ℕ} {i : ℕ} → TextIs w t → SplitAt w i → NoPlainBar w → i ≡ first_of bar t
split-first-bar x y h = sym (split-back y) ∙ first-bar x h

-- ---- the alternatives of a pair

module _ (p : ℕ) (n : List ℕ) where
  alternatives_there : (ws : List (List Sign)) → All Uncut ws → AlternativesAre p n ws (map (alternative p n) ws)
  alternatives_there [] h = alternatives_end
  alternatives_there (w ∷ ws) (all_cons h r) = alternatives_next (text_there w h) (split_there w) (alternatives_there ws r)

  pub alternatives-back : {ws : List (List Sign)} {a : List Alternative} → AlternativesAre p n ws a → map (alternative p n) ws ≡ a
  alternatives-back alternatives_end = refl
  alternatives-back (alternatives_next {w = w} {ws = ws} {t = t} {i = i} {rest = rest} x y r) =
      let text : text_of w ≡ t = text_back x in
      let at : split_of w ≡ i = split-back y in
      let more : map (alternative p n) ws ≡ rest = alternatives-back r in
      cc

  -- those that are computed
  pub alternatives_cut : (v : List Sign) → Pieces v (cut_signs v) × AlternativesAre p n (cut_signs v) (map (alternative p n) (cut_signs v))
  alternatives_cut v = (pieces_there v, alternatives_there (cut_signs v) (pieces_uncut (pieces_there v)))
