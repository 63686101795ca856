-- Decoding gives exactly the bytes that a name or a value encodes.
-- Assumes nothing.
use Rattle.std.specs.Prelude.{Option, Some, None}
use Prim.Native.Nat.{ℕ, ◌+◌, ◌-◌, ◌*◌, ◌≤◌}
use Prim.Native.Char.{code}
use native.Mathlib.Omega.{arith}
use mathlib.Core.Path.{◌≡◌, refl, ap, sym, ◌∙◌, subst, subst₂}
use mathlib.Core.Bool.{cond, ◌&&◌}
use mathlib.Core.Logic.{⊎_elim}
use mathlib.Core.List.{List, [], ◌∷◌}
use lib.Dec.{eqb, leb}
use borrow.Author.Tests.{ne_eqb, eqb-true, eqb-false, leb-true, le-leb, lt-leb}
use Rattle.base.specs.Digits.{is_digit}
use Rattle.base.specs.Between.{between}
use Rattle.base.proofs.Tests.{and_left, and_right, decided, cond-elim}
use Rattle.query.specs.Spelling.{percent, plus, HexDigit, hex_digit, hex_capital, hex_small, Encodes, encodes_end, encodes_byte, encodes_space, encodes_percent}
use Rattle.std.proofs.lemmas.Option.{none-some, same_Some}
use Rattle.query.specs.Reader.{hex_value, hex_byte, prepend, decoded}

-- ---- hex digits

pub digit_there : (b v : ℕ) → hex_value b ≡ Some v → HexDigit b v
unfolding hex_value is_digit between
digit_there b v =
    cond-elim (λ (o : Option ℕ). o ≡ Some v → HexDigit b v) (leb 48 b && leb b 57)
    (λ t e. let l : 48 ≤ b = leb-true 48 b (and_left (leb 48 b) (leb b 57) t) in let u : b ≤ 57 = leb-true b 57 (and_right (leb 48 b) (leb b 57) t) in
    let w : b - 48 ≡ v = same_Some (b - 48) v e in let z : code "0" + v ≡ b = omega arith in subst (λ (x : ℕ). HexDigit x v) z (hex_digit (omega arith)))
    (λ _. cond-elim (λ (o : Option ℕ). o ≡ Some v → HexDigit b v) (leb 65 b && leb b 70)
    (λ t e. let l : 65 ≤ b = leb-true 65 b (and_left (leb 65 b) (leb b 70) t) in let u : b ≤ 70 = leb-true b 70 (and_right (leb 65 b) (leb b 70) t) in
    let w : b - 65 + 10 ≡ v = same_Some (b - 65 + 10) v e in
    let z : code "A" + (b - 65) ≡ b = omega arith in let y : 10 + (b - 65) ≡ v = omega arith in subst₂ HexDigit z y (hex_capital (omega arith)))
    (λ _. cond-elim (λ (o : Option ℕ). o ≡ Some v → HexDigit b v) (leb 97 b && leb b 102)
    (λ t e. let l : 97 ≤ b = leb-true 97 b (and_left (leb 97 b) (leb b 102) t) in let u : b ≤ 102 = leb-true b 102 (and_right (leb 97 b) (leb b 102) t) in
    let w : b - 97 + 10 ≡ v = same_Some (b - 97 + 10) v e in
    let z : code "a" + (b - 97) ≡ b = omega arith in let y : 10 + (b - 97) ≡ v = omega arith in subst₂ HexDigit z y (hex_small (omega arith)))
    (λ _ e. absurd (none-some v e))))

pub digit-back : {b v : ℕ} → HexDigit b v → hex_value b ≡ Some v
unfolding hex_value is_digit between
digit-back (hex_digit {n = n} h) = rw (le-leb 48 (48 + n) (omega arith), le-leb (48 + n) 57 (omega arith)) (ap Some (omega arith))
digit-back (hex_capital {n = n} h) =
    rw (le-leb 48 (65 + n) (omega arith), lt-leb (65 + n) 57 (omega arith), le-leb 65 (65 + n) (omega arith), le-leb (65 + n) 70 (omega arith)) (ap Some (omega arith))
digit-back (hex_small {n = n} h) =
    rw (le-leb 48 (97 + n) (omega arith), lt-leb (97 + n) 57 (omega arith), le-leb 65 (97 + n) (omega arith), lt-leb (97 + n) 70 (omega arith), le-leb 97 (97 + n) (omega arith), le-leb (97 + n) 102 (omega arith)) (ap Some (omega arith))

-- ---- bytes

-- a byte that is no percent sign stands for itself or for a space
pub decoded-byte : (b : ℕ) (s : List ℕ) → (b ≡ percent → ⊥) → decoded (b ∷ s) ≡ prepend (Some (cond (eqb b plus) 0x20 b)) (decoded s)
unfolding decoded
decoded-byte b [] n = rw (ne_eqb b percent n)
decoded-byte b (h ∷ []) n = rw (ne_eqb b percent n)
decoded-byte b (h ∷ l ∷ s) n = rw (ne_eqb b percent n)

pub decoded-percent : (h l : ℕ) (s : List ℕ) → decoded (percent ∷ h ∷ l ∷ s) ≡ prepend (hex_byte (hex_value h) (hex_value l)) (decoded s)
unfolding decoded
decoded-percent h l s = refl

prepend_some : (c : Option ℕ) (o : Option (List ℕ)) (v : List ℕ) → prepend c o ≡ Some v → (b : ℕ) × (c ≡ Some b) × (w : List ℕ) × (o ≡ Some w) × (v ≡ b ∷ w)
prepend_some (Some b) (Some w) v e = (b, refl, w, refl, cc)
prepend_some (Some b) None v e = absurd (none-some v e)
prepend_some None o v e = absurd (none-some v e)

hex_some : (x y : Option ℕ) (b : ℕ) → hex_byte x y ≡ Some b → (h : ℕ) × (x ≡ Some h) × (l : ℕ) × (y ≡ Some l) × (b ≡ h * 16 + l)
hex_some (Some h) (Some l) b e = (h, refl, l, refl, cc)
hex_some (Some h) None b e = absurd (none-some b e)
hex_some None y b e = absurd (none-some b e)

plain_there : (b : ℕ) (s v w : List ℕ) → (b ≡ percent → ⊥) → v ≡ cond (eqb b plus) 0x20 b ∷ w → Encodes s w → Encodes (b ∷ s) v
plain_there b s v w n e h =
    ⊎_elim
    (λ t. let b-is : b ≡ plus = eqb-true b plus t in let z : v ≡ 0x20 ∷ w = e ∙ rw t in subst (λ (x : ℕ). Encodes (x ∷ s) v) (sym b-is) (subst (Encodes (plus ∷ s)) (sym z) (encodes_space h)))
    (λ t. let z : v ≡ b ∷ w = e ∙ rw t in subst (Encodes (b ∷ s)) (sym z) (encodes_byte (eqb-false b plus t) n h))
    (decided (eqb b plus))

module _ (b : ℕ) (s v : List ℕ) (e : decoded (b ∷ s) ≡ Some v) (on : (w : List ℕ) → decoded s ≡ Some w → Encodes s w) where
  byte_there : (b ≡ percent → ⊥) → Encodes (b ∷ s) v
  byte_there n =
      let (c, p, w, t, z) = prepend_some (Some (cond (eqb b plus) 0x20 b)) (decoded s) v (sym (decoded-byte b s n) ∙ e) in
      let q : cond (eqb b plus) 0x20 b ≡ c = same_Some (cond (eqb b plus) 0x20 b) c p in
      plain_there b s v w n (z ∙ ap (λ (x : ℕ). x ∷ w) (sym q)) (on w t)

percent_there : (h l : ℕ) (s v : List ℕ) → decoded (percent ∷ h ∷ l ∷ s) ≡ Some v → ((w : List ℕ) → decoded s ≡ Some w → Encodes s w) → Encodes (percent ∷ h ∷ l ∷ s) v
percent_there h l s v e on =
    let (c, p, w, d, i) = prepend_some (hex_byte (hex_value h) (hex_value l)) (decoded s) v (sym (decoded-percent h l s) ∙ e) in
    let (x, a, y, b, k) = hex_some (hex_value h) (hex_value l) c p in
    let z : (x * 16 + y) ∷ w ≡ v = sym (i ∙ ap (λ (n : ℕ). n ∷ w) k) in
    subst (Encodes (percent ∷ h ∷ l ∷ s)) z (encodes_percent (digit_there h x a) (digit_there l y b) (on w d))

percent_alone : (v : List ℕ) → decoded (percent ∷ []) ≡ Some v → ⊥
unfolding decoded
percent_alone v e = none-some v e

percent_one : (h : ℕ) (v : List ℕ) → decoded (percent ∷ h ∷ []) ≡ Some v → ⊥
unfolding decoded
percent_one h v e = none-some v e

pub decoded_there : (s v : List ℕ) → decoded s ≡ Some v → Encodes s v
decoded_there [] v e = unfold decoded in (let z : v ≡ [] = cc in subst (Encodes []) (sym z) encodes_end)
decoded_there (b ∷ []) v e =
    ⊎_elim (λ t. let z : b ≡ percent = eqb-true b percent t in absurd (percent_alone v (ap (λ (x : ℕ). decoded (x ∷ [])) (sym z) ∙ e)))
    (λ t. byte_there b [] v e (decoded_there []) (eqb-false b percent t)) (decided (eqb b percent))
decoded_there (b ∷ h ∷ []) v e =
    ⊎_elim (λ t. let z : b ≡ percent = eqb-true b percent t in absurd (percent_one h v (ap (λ (x : ℕ). decoded (x ∷ h ∷ [])) (sym z) ∙ e)))
    (λ t. byte_there b (h ∷ []) v e (decoded_there (h ∷ [])) (eqb-false b percent t)) (decided (eqb b percent))
decoded_there (b ∷ h ∷ l ∷ s) v e =
    ⊎_elim (λ t. let z : b ≡ percent = eqb-true b percent t in
    subst (λ (x : ℕ). Encodes (x ∷ h ∷ l ∷ s) v) (sym z) (percent_there h l s v (ap (λ (x : ℕ). decoded (x ∷ h ∷ l ∷ s)) (sym z) ∙ e) (decoded_there s)))
    (λ t. byte_there b (h ∷ l ∷ s) v e (decoded_there (h ∷ l ∷ s)) (eqb-false b percent t)) (decided (eqb b percent))

pub decoded-back : {s v : List ℕ} → Encodes s v → decoded s ≡ Some v
decoded-back encodes_end = unfold decoded in refl
decoded-back (encodes_byte {b = b} {s = s} n m h) = decoded-byte b s m ∙ rw (ne_eqb b plus n, decoded-back h)
decoded-back (encodes_space {s = s} h) = decoded-byte plus s (λ e. omega arith) ∙ rw (decoded-back h)
decoded-back (encodes_percent {h = h} {l = l} {s = s} a b e) = decoded-percent h l s ∙ rw (digit-back a, digit-back b, decoded-back e)
