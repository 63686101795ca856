-- The signs of a decoded value are exactly those of the rule.
-- Assumes nothing.
use Prim.Native.Nat.{ℕ}
use Prim.Native.Char.{code}
use native.Mathlib.Omega.{arith}
use mathlib.Core.Path.{◌≡◌, refl, ap, sym, ◌∙◌, subst}
use mathlib.Core.Bool.{Bool, true, false, ◌||◌}
use mathlib.Core.Logic.{◌↔◌, ⊎_elim}
use mathlib.Core.List.{List, [], ◌∷◌}
use lib.Dec.{eqb}
use borrow.Author.Tests.{ne_eqb, eqb-true, eqb-false}
use Rattle.base.specs.Lists.{member}
use Rattle.base.proofs.Tests.{cond-elim, both_ways, decided, or_either}
use Rattle.text.specs.Bar.{bar}
use Rattle.syntax.specs.Strings.{backslash}
use Rattle.query.specs.Spelling.{comma, Special, special_comma, special_bar, special_dollar, special_backslash, BeginsSpecial, begins-special, Sign, byte, cut, split, Signs, signs_end, signs_plain, signs_backslash, signs_cut, signs_split, signs_byte}
use Rattle.query.specs.Reader.{signs_of, is_special, begins_special}

-- the bytes that a backslash makes plain are the four of the rule
special_there : (b : ℕ) → is_special b ≡ true → Special b
unfolding is_special member
special_there b h =
    ⊎_elim (λ e. subst Special (sym (eqb-true b (code "$") e)) special_dollar)
    (λ k. ⊎_elim (λ e. subst Special (sym (eqb-true b comma e)) special_comma)
    (λ l. ⊎_elim (λ e. subst Special (sym (eqb-true b backslash e)) special_backslash)
    (λ m. ⊎_elim (λ e. subst Special (sym (eqb-true b bar e)) special_bar) (λ e. absurd (let z : ◌≡◌ {A = ℕ} 0 1 = cc in omega arith)) (or_either (eqb b bar) false m))
    (or_either (eqb b backslash) (eqb b bar || false) l))
    (or_either (eqb b comma) (eqb b backslash || (eqb b bar || false)) k))
    (or_either (eqb b (code "$")) (eqb b comma || (eqb b backslash || (eqb b bar || false))) h)

special_back : {b : ℕ} → Special b → is_special b ≡ true
unfolding is_special member
special_back special_comma = refl
special_back special_bar = refl
special_back special_dollar = refl
special_back special_backslash = refl

pub special_iff : (b : ℕ) → (is_special b ≡ true) ↔ Special b
special_iff b = (special_there b, special_back)

not_begins : (s : List ℕ) → begins_special s ≡ false → BeginsSpecial s → ⊥
not_begins s h (begins-special t e) = both_ways (special_back e) h

begins_not : (s : List ℕ) → (BeginsSpecial s → ⊥) → begins_special s ≡ false
begins_not [] n = refl
begins_not (b ∷ s) n = ⊎_elim (λ e. absurd (n (begins-special s (special_there b e)))) (λ e. e) (decided (is_special b))

pub not_special : (b : ℕ) {c : ℕ} → is_special b ≡ false → Special c → b ≡ c → ⊥
not_special b h k e = both_ways (ap is_special e ∙ special_back k) h

abbrev after : Bool → List ℕ → List ℕ
after true s = backslash ∷ s
after false s = s

signs_there : (pending : Bool) (s : List ℕ) → Signs (after pending s) (signs_of pending s)
unfolding signs_of
signs_there false [] = signs_end
signs_there true [] = signs_backslash (not_begins [] refl) signs_end
signs_there true (b ∷ s) =
    let r : Signs s (signs_of false s) = signs_there false s in
    cond-elim (Signs (backslash ∷ b ∷ s)) (is_special b) (λ e. signs_plain (special_there b e) r)
    (λ e. signs_backslash (not_begins (b ∷ s) e) (signs_byte (not_special b e special_backslash) (not_special b e special_comma) (not_special b e special_bar) r))
signs_there false (b ∷ s) =
    let r : Signs s (signs_of false s) = signs_there false s in
    let q : Signs (backslash ∷ s) (signs_of true s) = signs_there true s in
    cond-elim (Signs (b ∷ s)) (eqb b backslash) (λ e. subst (λ (x : ℕ). Signs (x ∷ s) (signs_of true s)) (sym (eqb-true b backslash e)) q)
    (λ x. cond-elim (Signs (b ∷ s)) (eqb b comma) (λ e. subst (λ (x : ℕ). Signs (x ∷ s) (cut ∷ signs_of false s)) (sym (eqb-true b comma e)) (signs_cut r))
    (λ y. cond-elim (Signs (b ∷ s)) (eqb b bar) (λ e. subst (λ (x : ℕ). Signs (x ∷ s) (split ∷ signs_of false s)) (sym (eqb-true b bar e)) (signs_split r))
    (λ z. signs_byte (eqb-false b backslash x) (eqb-false b comma y) (eqb-false b bar z) r)))

pub signs_of_byte : (b : ℕ) (s : List ℕ) → (b ≡ backslash → ⊥) → (b ≡ comma → ⊥) → (b ≡ bar → ⊥) → signs_of false (b ∷ s) ≡ byte b ∷ signs_of false s
unfolding signs_of
signs_of_byte b s x y z = rw (ne_eqb b backslash x, ne_eqb b comma y, ne_eqb b bar z)

pub signs_kept : (s : List ℕ) (v : List Sign) → begins_special s ≡ false → signs_of false s ≡ v → signs_of true s ≡ byte backslash ∷ v
unfolding signs_of
signs_kept [] v h e = ap (λ (l : List Sign). byte backslash ∷ l) e
signs_kept (b ∷ s) v h e =
    let k : signs_of false (b ∷ s) ≡ byte b ∷ signs_of false s = signs_of_byte b s (not_special b h special_backslash) (not_special b h special_comma) (not_special b h special_bar) in
    rw h (ap (λ (l : List Sign). byte backslash ∷ l) (sym k ∙ e))

pub signs-back : {s : List ℕ} {v : List Sign} → Signs s v → signs_of false s ≡ v
unfolding signs_of
signs-back signs_end = refl
signs-back (signs_plain {b = b} e h) = rw (special_back e) (ap (λ (l : List Sign). byte b ∷ l) (signs-back h))
signs-back (signs_backslash {s = s} {v = v} e h) = signs_kept s v (begins_not s e) (signs-back h)
signs-back (signs_cut h) = ap (λ (l : List Sign). cut ∷ l) (signs-back h)
signs-back (signs_split h) = ap (λ (l : List Sign). split ∷ l) (signs-back h)
signs-back (signs_byte {b = b} {s = s} x y z h) = signs_of_byte b s x y z ∙ ap (λ (l : List Sign). byte b ∷ l) (signs-back h)

pub signs_iff : (s : List ℕ) (v : List Sign) → (signs_of false s ≡ v) ↔ Signs s v
signs_iff s v = ((λ e. subst (Signs s) e (signs_there false s)), signs-back)
