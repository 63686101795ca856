-- A part between ampersands is no pair exactly where it has no "=" or a % that no two hex digits follow.
-- Assumes nothing.
use Rattle.std.specs.Prelude.{Option, Some, None}
use Prim.Native.Nat.{ℕ, ◌<◌}
use native.Mathlib.Omega.{arith}
use mathlib.Core.Path.{◌≡◌, refl, ap, sym, subst, ◌∙◌}
use mathlib.Core.Bool.{false}
use mathlib.Core.Logic.{◌↔◌, ◌⊎◌, inl, inr, ⊎_elim}
use mathlib.Core.List.{List, [], ◌∷◌, ◌++◌, head-eq_of_cons-eq, tail-eq_of_cons-eq}
use lib.Dec.{eqb}
use lib.ListN.{length}
use borrow.Author.Tests.{eqb-true, eqb-false}
use Rattle.base.proofs.Tests.{decided}
use Rattle.base.specs.Split.{Without}
use Rattle.query.specs.Spelling.{ampersand, equals, percent, plus, HexDigit, hex_digit, hex_capital, hex_small, Encodes, encodes_end, encodes_byte, encodes_space, encodes_percent, Alternative, PairAt, a_pair}
use Rattle.std.proofs.lemmas.Option.{none-some}
use Rattle.query.specs.Reader.{hex_value, signs_of}
use Rattle.query.specs.Lines.{TwoHexDigits, two_hex_digits, BadPercent, bad_here, bad_later, BadPart, bad_percent, no_equals}
use Rattle.query.proofs.Cuts.{Cut, cut_at, no_cut, cut_of, not_both}
use Rattle.query.proofs.Decoding.{digit_there, digit-back}
use Rattle.query.proofs.Signs.{signs_iff}
use Rattle.query.proofs.Alternatives.{alternatives_cut}
use Rattle.query.proofs.Reading.{without-left, without_right}

-- ---- a % is bad exactly where nothing is encoded

no_percent : {x : ℕ} → HexDigit percent x → ⊥
no_percent h = not_hex h refl
  where
    not_hex : {b x : ℕ} → HexDigit b x → b ≡ percent → ⊥
    not_hex (hex_digit {n = n} h) e = omega arith
    not_hex (hex_capital {n = n} h) e = omega arith
    not_hex (hex_small {n = n} h) e = omega arith

good-percent : {s v : List ℕ} → Encodes s v → BadPercent s → ⊥
good-percent encodes_end x4 = elim x4 [ ]
good-percent (encodes_byte n m h) (bad_here k) = m refl
good-percent (encodes_byte n m h) (bad_later k) = good-percent h k
good-percent (encodes_space h) (bad_later k) = good-percent h k
good-percent (encodes_percent {s = s} x y h) (bad_here k) = k (two_hex_digits s x y)
good-percent (encodes_percent x y h) (bad_later (bad_here k)) = no_percent x
good-percent (encodes_percent x y h) (bad_later (bad_later (bad_here k))) = no_percent y
good-percent (encodes_percent x y h) (bad_later (bad_later (bad_later k))) = good-percent h k

-- what decodes neither as bytes nor as nothing has a bad one
data Decodes (s : List ℕ) : Type 0 where
  decodes_to : (v : List ℕ) → Encodes s v → Decodes s
  decodes_not : BadPercent s → Decodes s

decodes_byte : (b : ℕ) {s : List ℕ} → (b ≡ percent → ⊥) → Decodes s → Decodes (b ∷ s)
decodes_byte b {s} n (decodes_to v h) =
    ⊎_elim (λ e. decodes_to (0x20 ∷ v) (subst (λ (x : ℕ). Encodes (x ∷ s) (0x20 ∷ v)) (sym (eqb-true b plus e)) (encodes_space h)))
    (λ e. decodes_to (b ∷ v) (encodes_byte (eqb-false b plus e) n h)) (decided (eqb b plus))
decodes_byte b n (decodes_not k) = decodes_not (bad_later k)

hex_decided : (b : ℕ) → ((x : ℕ) × HexDigit b x) ⊎ ((x : ℕ) → HexDigit b x → ⊥)
hex_decided b = by_value (hex_value b) refl
  where
    by_value : (o : Option ℕ) → hex_value b ≡ o → ((x : ℕ) × HexDigit b x) ⊎ ((x : ℕ) → HexDigit b x → ⊥)
    by_value (Some x) e = inl (x, digit_there b x e)
    by_value None e = inr (λ x h. none-some x (sym e ∙ digit-back h))

decodes_percent : (h l : ℕ) {s : List ℕ} → Decodes s → Decodes (percent ∷ h ∷ l ∷ s)
decodes_percent h l {s} d = by_first_lem (hex_decided h) (hex_decided l) d
  where
    not_first : ((x : ℕ) → HexDigit h x → ⊥) → {t : List ℕ} → TwoHexDigits t → t ≡ h ∷ l ∷ s → ⊥
    not_first n (two_hex_digits {h = a} {x = x} r p q) e = n x (subst (λ (b : ℕ). HexDigit b x) (head-eq_of_cons-eq e) p)

    not_second : ((x : ℕ) → HexDigit l x → ⊥) → {t : List ℕ} → TwoHexDigits t → t ≡ h ∷ l ∷ s → ⊥
    not_second n (two_hex_digits {l = a} {y = y} r p q) e = n y (subst (λ (b : ℕ). HexDigit b y) (head-eq_of_cons-eq (tail-eq_of_cons-eq e)) q)

    by_first_lem : ((x : ℕ) × HexDigit h x) ⊎ ((x : ℕ) → HexDigit h x → ⊥) → ((x : ℕ) × HexDigit l x) ⊎ ((x : ℕ) → HexDigit l x → ⊥) → Decodes s → Decodes (percent ∷ h ∷ l ∷ s)
    by_first_lem (inl (x, p)) (inl (y, q)) (decodes_to v r) = decodes_to _ (encodes_percent p q r)
    by_first_lem (inl (x, p)) (inl (y, q)) (decodes_not k) = decodes_not (bad_later (bad_later (bad_later k)))
    by_first_lem (inl (x, p)) (inr n) r = decodes_not (bad_here (λ t. not_second n t refl))
    by_first_lem (inr n) q r = decodes_not (bad_here (λ t. not_first n t refl))

short_percent : (s : List ℕ) → length s < 2 → BadPercent (percent ∷ s)
short_percent s h = bad_here (λ t. too_short t refl)
  where
    too_short : {t : List ℕ} → TwoHexDigits t → t ≡ s → ⊥
    too_short (two_hex_digits r p q) e = let z = ap length e in omega arith

decodes : (s : List ℕ) → Decodes s
decodes [] = decodes_to [] encodes_end
decodes (b ∷ []) =
    ⊎_elim (λ e. subst (λ (x : ℕ). Decodes (x ∷ [])) (sym (eqb-true b percent e)) (decodes_not (short_percent [] (omega arith))))
    (λ e. decodes_byte b (eqb-false b percent e) (decodes [])) (decided (eqb b percent))
decodes (b ∷ h ∷ []) =
    ⊎_elim (λ e. subst (λ (x : ℕ). Decodes (x ∷ h ∷ [])) (sym (eqb-true b percent e)) (decodes_not (short_percent (h ∷ []) (omega arith))))
    (λ e. decodes_byte b (eqb-false b percent e) (decodes (h ∷ []))) (decided (eqb b percent))
decodes (b ∷ h ∷ l ∷ s) =
    ⊎_elim (λ e. subst (λ (x : ℕ). Decodes (x ∷ h ∷ l ∷ s)) (sym (eqb-true b percent e)) (decodes_percent h l (decodes s)))
    (λ e. decodes_byte b (eqb-false b percent e) (decodes (h ∷ l ∷ s))) (decided (eqb b percent))

-- ---- parts

bad_before : {m : List ℕ} (w : List ℕ) → BadPercent m → BadPercent (m ++ (equals ∷ w))
bad_before w (bad_later k) = bad_later (bad_before w k)
bad_before w (bad_here {s = s} k) = bad_here (λ t. k (cut_short s t refl))
  where
    equals_no_hex : {b x : ℕ} → HexDigit b x → b ≡ equals → ⊥
    equals_no_hex (hex_digit {n = n} h) e = omega arith
    equals_no_hex (hex_capital {n = n} h) e = omega arith
    equals_no_hex (hex_small {n = n} h) e = omega arith

    cut_short : (s : List ℕ) {t : List ℕ} → TwoHexDigits t → t ≡ s ++ (equals ∷ w) → TwoHexDigits s
    cut_short [] (two_hex_digits r p q) e = absurd (equals_no_hex p (head-eq_of_cons-eq e))
    cut_short (a ∷ []) (two_hex_digits r p q) e = absurd (equals_no_hex q (head-eq_of_cons-eq (tail-eq_of_cons-eq e)))
    cut_short (a ∷ b ∷ s) (two_hex_digits {x = x} {y = y} r p q) e =
        two_hex_digits s (subst (λ (c : ℕ). HexDigit c x) (head-eq_of_cons-eq e) p) (subst (λ (c : ℕ). HexDigit c y) (head-eq_of_cons-eq (tail-eq_of_cons-eq e)) q)

bad_behind : (m : List ℕ) {w : List ℕ} → BadPercent w → BadPercent (m ++ (equals ∷ w))
bad_behind [] k = bad_later k
bad_behind (b ∷ m) k = bad_later (bad_behind m k)

-- a name and a value that are encoded make a part without a bad one
encodes_part : {m n w u : List ℕ} → Encodes m n → Encodes w u → Encodes (m ++ (equals ∷ w)) (n ++ (equals ∷ u))
encodes_part encodes_end k = encodes_byte {b = equals} (λ e. omega arith) (λ e. omega arith) k
encodes_part (encodes_byte n m h) k = encodes_byte n m (encodes_part h k)
encodes_part (encodes_space h) k = encodes_space (encodes_part h k)
encodes_part (encodes_percent x y h) k = encodes_percent x y (encodes_part h k)

pub pair_not_bad : {at : ℕ} {s : List ℕ} {a : List Alternative} → PairAt at s a → BadPart s → ⊥
pair_not_bad (a_pair {m = m} {w = w} x h y d f g c l) (no_equals k) = not_both equals m w k
pair_not_bad (a_pair x h y d f g c l) (bad_percent k) = good-percent (encodes_part d f) k

-- a part is a pair, or bad
pub part-outcome : (at : ℕ) (s : List ℕ) → Without ampersand s → ((a : List Alternative) × PairAt at s a) ⊎ BadPart s
part-outcome at s o = by_cut (cut_of equals s) o
  where
    by_cut : {t : List ℕ} → Cut equals t → Without ampersand t → ((a : List Alternative) × PairAt at t a) ⊎ BadPart t
    by_cut (no_cut h) o = inr (no_equals h)
    by_cut (cut_at m w h) o = by_parts (decodes m) (decodes w)
      where
        by_parts : Decodes m → Decodes w → ((a : List Alternative) × PairAt at (m ++ (equals ∷ w)) a) ⊎ BadPart (m ++ (equals ∷ w))
        by_parts (decodes_to n d) (decodes_to u f) =
            let rest = alternatives_cut at n (signs_of false u) in
            inl (_, a_pair (without-left ampersand m (equals ∷ w) o) h (without_right ampersand m equals w o) d f ((signs_iff u (signs_of false u)).0 refl) rest.0 rest.1)
        by_parts (decodes_not k) f = inr (bad_percent (bad_before w k))
        by_parts (decodes_to n d) (decodes_not k) = inr (bad_percent (bad_behind m k))

pub part_iff : (at : ℕ) (s : List ℕ) → Without ampersand s → ((a : List Alternative) → PairAt at s a → ⊥) ↔ BadPart s
part_iff at s o = ((λ n. ⊎_elim (λ p. absurd (n p.0 p.1)) (λ b. b) (part-outcome at s o)), (λ b a p. pair_not_bad p b))
