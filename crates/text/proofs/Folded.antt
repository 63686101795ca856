-- Folding is what the rules say of each byte, it takes a letter of two bytes to its small letter, and behind a bar it goes on as at a text's start.
-- The rule speaks of all the bytes before, and folding has the last of them: `end_of` ties the two. A byte folds exactly where the rule says
-- so (`folds_there`, `folds_back`). Of a text that is shown by induction, the bytes before growing by one: on the text (`folded_behind`),
-- and back on the derivation (`behind-back`). That the two bytes of a letter become those of its small letter (`small_letter`, which leaves
-- most letters as they are) is computed for every code below 2,048 and looked up (`letters`). Behind a byte other than 0xC3 a text folds as
-- by itself (`fold_from_fresh`). A bar is such a byte and stays, and no other byte becomes a bar (`no_new_bar`).
-- Assumes nothing.
use mathlib.Core.Path.{◌≡◌, refl, ap, subst, ◌∙◌}
use Prim.Native.Nat.{ℕ, ◌≤◌, ◌<◌}
use Prim.Native.Char.{code}
use native.Mathlib.Omega.{arith}
use mathlib.Core.Bool.{Bool, true, false, ◌&&◌, ◌||◌, false≢true, and-false}
use mathlib.Core.List.{List, [], ◌∷◌, ◌++◌}
use mathlib.Core.Logic.{◌↔◌, ⊎_elim}
use lib.Dec.{eqb, leb}
use borrow.Author.Tests.{le-leb, leb-true, eqb-true, eq-eqb, ne_eqb}
use Rattle.base.specs.Below.{passes}
use Rattle.base.specs.Lists.{all_empty, all_cons, equal}
use Rattle.base.proofs.Below.{passes_at}
use Rattle.base.proofs.Lists.{cons_same, equal-same}
use Rattle.base.proofs.Tests.{and_left, and_right, and_both, or_either, or_left, or_right, decided, both_ways, cond-elim}
use Rattle.text.specs.Bar.{bar, NoBar}
use Rattle.text.specs.Fold.{is_capital, lead, is_accented, fold_byte, fold_from, fold_text, Folds, folds_capital, folds_accented, Becomes, becomes_small, becomes_itself, FoldedBehind, folded_end, folded_byte, Folded, two_bytes, small_letter}
use Rattle.text.proofs.Fold.{capital_there, accented_there}

-- ---- the byte before: the last of a text, behind a byte

abbrev end_of : ℕ → List ℕ → ℕ
end_of w [] = w
end_of w (x ∷ p) = end_of x p

end_of_last : (w x : ℕ) (p : List ℕ) → end_of w (p ++ (x ∷ [])) ≡ x
end_of_last w x [] = refl
end_of_last w x (y ∷ p) = end_of_last y x p

ends_so : (x : ℕ) (p : List ℕ) → end_of x p ≡ lead → (o : List ℕ) × (x ∷ p ≡ o ++ (lead ∷ []))
ends_so x [] e = ([], cons_same e refl)
ends_so x (y ∷ p) e = let w = ends_so y p e in (x ∷ w.0, ap (λ (l : List ℕ). x ∷ l) w.1)

-- ---- the tests of a byte

module _ (x : ℕ) where
  capital_back : code "A" ≤ x → x ≤ code "Z" → is_capital x ≡ true
  unfolding is_capital
  capital_back l h = and_both (leb (code "A") x) (leb x (code "Z")) (le-leb (code "A") x l) (le-leb x (code "Z") h)

  accented_back : 128 ≤ x → x ≤ 158 → (x ≡ 151 → ⊥) → is_accented x ≡ true
  unfolding is_accented
  accented_back l h n = rw (le-leb 128 x l, le-leb x 158 h, ne_eqb x 151 n)

-- the test that fold_byte makes of a byte x behind w
abbrev folding : ℕ → ℕ → Bool
folding w x = is_capital x || (eqb w lead && is_accented x)

-- ---- one byte

module _ (x : ℕ) where
  by_lead : (p : List ℕ) → eqb (end_of 0 p) lead ≡ true → is_accented x ≡ true → Folds p x
  by_lead [] e a = absurd (false≢true e)
  by_lead (y ∷ p) e a =
      let w = ends_so y p (eqb-true (end_of y p) lead e) in
      let k = accented_there x a in
      folds_accented w.0 w.1 k.0 k.1 k.2

  folds_there : (p : List ℕ) → folding (end_of 0 p) x ≡ true → Folds p x
  folds_there p t =
      ⊎_elim
      (λ c. let k = capital_there x c in folds_capital k.0 k.1)
      (λ c. by_lead p (and_left (eqb (end_of 0 p) lead) (is_accented x) c) (and_right (eqb (end_of 0 p) lead) (is_accented x) c))
      (or_either (is_capital x) (eqb (end_of 0 p) lead && is_accented x) t)

  folds_back : {p : List ℕ} → Folds p x → folding (end_of 0 p) x ≡ true
  folds_back {p = p} (folds_capital l h) = or_left (is_capital x) (eqb (end_of 0 p) lead && is_accented x) (capital_back x l h)
  folds_back {p = p} (folds_accented o e l h n) =
      let w : end_of 0 p ≡ lead = ap (end_of 0) e ∙ end_of_last 0 lead o in
      or_right (is_capital x) (eqb (end_of 0 p) lead && is_accented x)
      (and_both (eqb (end_of 0 p) lead) (is_accented x) (eq-eqb (end_of 0 p) lead w) (accented_back x l h n))

  becomes : (p : List ℕ) → Becomes p x (fold_byte (end_of 0 p) x)
  unfolding fold_byte
  becomes p =
      cond-elim (Becomes p x) (folding (end_of 0 p) x)
      (λ t. becomes_small (folds_there p t))
      (λ f. becomes_itself (λ w. both_ways (folds_back w) f))

  becomes_back : {p : List ℕ} {y : ℕ} → Becomes p x y → fold_byte (end_of 0 p) x ≡ y
  unfolding fold_byte
  becomes_back {p = p} (becomes_small w) = rw (folds_back w)
  becomes_back {p = p} (becomes_itself n) =
      let f : folding (end_of 0 p) x ≡ false = ⊎_elim (λ t. absurd (n (folds_there p t))) (λ f. f) (decided (folding (end_of 0 p) x)) in
      rw f

-- ---- the whole text

folded_behind : (p s : List ℕ) → FoldedBehind p s (fold_from (end_of 0 p) s)
unfolding fold_from
folded_behind p [] = folded_end
folded_behind p (x ∷ s) =
    folded_byte (becomes x p)
    (subst (λ (w : ℕ). FoldedBehind (p ++ (x ∷ [])) s (fold_from w s)) (end_of_last 0 x p) (folded_behind (p ++ (x ∷ [])) s))

behind-back : {p s t : List ℕ} → FoldedBehind p s t → fold_from (end_of 0 p) s ≡ t
unfolding fold_from
behind-back folded_end = refl
behind-back (folded_byte {p = p} {s = s} {t = t} {x = x} b r) =
    cons_same (becomes_back x b) (subst (λ (w : ℕ). fold_from w s ≡ t) (end_of_last 0 x p) (behind-back r))

pub fold_text_iff : (s t : List ℕ) → (fold_text s ≡ t) ↔ Folded s t
unfolding fold_text
fold_text_iff s t = ((λ e. subst (Folded s) e (folded_behind [] s)), behind-back)

-- ---- the letters

letter_folds : ℕ → Bool
letter_folds c = leb c 127 || equal (fold_text (two_bytes c)) (two_bytes (small_letter c))

letters : passes letter_folds 2048 ≡ true
unfolding letter_folds fold_text fold_from fold_byte is_capital is_accented two_bytes small_letter equal
letters = refl

pub letter_small : (c : ℕ) → 128 ≤ c → c < 2048 → fold_text (two_bytes c) ≡ two_bytes (small_letter c)
unfolding letter_folds
letter_small c l h =
    ⊎_elim
    (λ t. absurd (omega (arith, leb-true c 127 t)))
    (λ t. equal-same (fold_text (two_bytes c)) (two_bytes (small_letter c)) t)
    (or_either (leb c 127) (equal (fold_text (two_bytes c)) (two_bytes (small_letter c))) (passes_at letter_folds 2048 letters c h))

-- ---- at a bar

fold_from-append : (w : ℕ) (p q : List ℕ) → fold_from w (p ++ q) ≡ fold_from w p ++ fold_from (end_of w p) q
unfolding fold_from
fold_from-append w [] q = refl
fold_from-append w (x ∷ p) q = ap (λ (l : List ℕ). fold_byte w x ∷ l) (fold_from-append x p q)

-- behind a byte other than 0xC3 a text folds as it does by itself
fold_from_fresh : (w : ℕ) (s : List ℕ) → (w ≡ lead → ⊥) → fold_from w s ≡ fold_text s
unfolding fold_text fold_from fold_byte
fold_from_fresh w [] n = refl
fold_from_fresh w (x ∷ s) n = rw (ne_eqb w lead n)

bar-stays : (w : ℕ) → fold_byte w bar ≡ bar
unfolding fold_byte is_capital is_accented
bar-stays w = rw (and-false (eqb w lead))

pub fold_text-bar : (s c : List ℕ) → fold_text (s ++ (bar ∷ c)) ≡ fold_text s ++ (bar ∷ fold_text c)
unfolding fold_text fold_from
fold_text-bar s c =
    fold_from-append 0 s (bar ∷ c)
    ∙ ap (λ (l : List ℕ). fold_text s ++ l) (cons_same (bar-stays (end_of 0 s)) (fold_from_fresh bar c (λ e. omega arith)))

-- only a bar folds to one
no_new_bar : (w x : ℕ) → (x ≡ bar → ⊥) → fold_byte w x ≡ bar → ⊥
unfolding fold_byte
no_new_bar w x n =
    cond-elim (λ (y : ℕ). y ≡ bar → ⊥) (folding w x)
    (λ t e. ⊎_elim
    (λ c. let k = capital_there x c in omega arith)
    (λ c. let k = accented_there x (and_right (eqb w lead) (is_accented x) c) in omega arith)
    (or_either (is_capital x) (eqb w lead && is_accented x) t))
    (λ f. n)

fold_from_no_bar : (w : ℕ) {s : List ℕ} → NoBar s → NoBar (fold_from w s)
unfolding fold_from
fold_from_no_bar w all_empty = all_empty
fold_from_no_bar w (all_cons {x = x} n h) = all_cons (no_new_bar w x n) (fold_from_no_bar x h)

pub fold_text_no_bar : {s : List ℕ} → NoBar s → NoBar (fold_text s)
unfolding fold_text
fold_text_no_bar h = fold_from_no_bar 0 h
