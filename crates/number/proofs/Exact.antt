-- The order of exact fractions is that of billionths, so that the code loses nothing by comparing those.
-- Two fractions a over p and b over q, whose units u and v make p * u and q * v the same whole, are in the order of a * u and b * v. They are
-- compared by a * q and b * p. These, multiplied by u * v, are a * u and b * v multiplied by the whole (`left_cross`, `right_cross`), and
-- multiplying by a number above zero keeps the order both ways (`same-lt`, `same-le`). The ends of a range, half a unit off, are compared in
-- the same way (`lower_cross`, `upper_cross`). These are laws over plain numbers; the relations of two numbers are instances, with a billion
-- as the whole.
-- Assumes nothing.
use mathlib.Core.Path.{◌≡◌, sym, ap, ◌∙◌}
use Prim.Native.Nat.{ℕ, ◌+◌, ◌*◌, ◌-◌, ◌^◌, ◌≤◌, ◌<◌}
use native.Mathlib.Nat.{mul_assoc, one-le-pow, pow-le-pow_right, mul-pos, mul-lt-mul_of_pos_right, lt_of_mul-lt-mul_right}
use native.Mathlib.Omega.{arith}
use mathlib.Core.Bool.{true, false, not, ◌&&◌}
use mathlib.Core.Logic.{⊎_elim}
use lib.Dec.{leb, ltb, lit<}
use lib.Pow.{pow-add}
use borrow.Author.Tests.{ltb-true, lt-ltb, le-leb, lt-leb, leb-true, leb-false, le-ltb}
use Rattle.base.proofs.Tests.{same_test, decided}
use Rattle.number.specs.declared.Decimal.{Decimal}
use Rattle.number.specs.Value.{Bounded, is_less, is_at_most, plus, exact_value, half_unit, less, at_most, covers}
use Rattle.number.specs.Billionths.{unit, billionths}

-- ---- two numbers are in the order of their multiples

scale_lt : (x y u v c n : ℕ) → 0 < c → x * c ≡ u * n → y * c ≡ v * n → ltb x y ≡ true → ltb u v ≡ true
scale_lt x y u v c n pos p q h =
    let xy : x * c < y * c = mul-lt-mul_of_pos_right (ltb-true x y h) pos in
    lt-ltb u v (lt_of_mul-lt-mul_right n (rw (p, q) at xy))

pub same-lt : (x y u v c n : ℕ) → 0 < c → 0 < n → x * c ≡ u * n → y * c ≡ v * n → ltb x y ≡ ltb u v
same-lt x y u v c n hc hn p q =
    same_test (ltb x y) (ltb u v) (scale_lt x y u v c n hc p q) (scale_lt u v x y n c hn (sym p) (sym q))

not_lt : (a b : ℕ) → leb a b ≡ not (ltb b a)
not_lt a b =
    ⊎_elim (λ (h : leb a b ≡ true). h ∙ sym (ap not (le-ltb b a (leb-true a b h))))
    (λ (h : leb a b ≡ false). h ∙ sym (ap not (lt-ltb b a (leb-false a b h)))) (decided (leb a b))

pub same-le : (x y u v c n : ℕ) → 0 < c → 0 < n → x * c ≡ u * n → y * c ≡ v * n → leb x y ≡ leb u v
same-le x y u v c n hc hn p q = not_lt x y ∙ ap not (same-lt y x v u c n hc hn q p) ∙ sym (not_lt u v)

-- ---- a number's power of ten and its unit make a billion

ten_pos : (k : ℕ) → 0 < 10 ^ k
ten_pos k = one-le-pow k 10 (lit< tt)

pub unit_pos : (d : Decimal) → 0 < unit d
unfolding unit
unit_pos d = ten_pos (9 - d.decimals)

pub unit-whole : (d : Decimal) → Bounded d → 10 ^ d.decimals * unit d ≡ 10 ^ 9
unfolding unit
unit-whole d b =
    let e : d.decimals + (9 - d.decimals) ≡ 9 = omega (arith, b.few_decimals) in
    sym (pow-add 10 d.decimals (9 - d.decimals)) ∙ ap (λ (k : ℕ). 10 ^ k) e

pub unit_small : (d : Decimal) → Bounded d → unit d ≤ 10 ^ 9
unfolding unit
unit_small d b =
    let few : 9 - d.decimals ≤ 9 = omega arith in
    pow-le-pow_right (lit< tt) few

billionths_small : (d : Decimal) → Bounded d → billionths d < 10 ^ 17
unfolding billionths
billionths_small d b =
    let e : 10 ^ (8 + d.decimals) * unit d ≡ 10 ^ 17 =
    ap (λ (k : ℕ). k * unit d) (pow-add 10 8 d.decimals) ∙ mul_assoc (10 ^ 8) (10 ^ d.decimals) (unit d) ∙ ap (λ (k : ℕ). 10 ^ 8 * k) (unit-whole d b) in
    rw e at (mul-lt-mul_of_pos_right b.few_digits (unit_pos d))

pub billionths-made : (d : Decimal) (u : ℕ) → u ≡ unit d → d.digits * u ≡ billionths d
unfolding billionths
billionths-made d u e = rw e

pub billionths_fit : (d : Decimal) (u : ℕ) → Bounded d → u ≡ unit d → d.digits * u < 10 ^ 17
billionths_fit d u b e = rw (billionths-made d u e) (billionths_small d b)

-- ---- cross multiplication over plain numbers: a over p and b over q, with units u and v of one whole

module _ (a b p q u v : ℕ) (whole : p * u ≡ q * v) (hu : 0 < u) (hv : 0 < v) (hw : 0 < q * v) where
  left_cross : a * q * (u * v) ≡ a * u * (q * v)
  left_cross = omega arith

  right_cross : b * p * (u * v) ≡ b * v * (q * v)
  right_cross = rw (← whole) (omega arith)

  pub lt_cross : ltb (a * q) (b * p) ≡ ltb (a * u) (b * v)
  lt_cross = same-lt (a * q) (b * p) (a * u) (b * v) (u * v) (q * v) (mul-pos hu hv) hw left_cross right_cross

  pub le_cross : leb (a * q) (b * p) ≡ leb (a * u) (b * v)
  le_cross = same-le (a * q) (b * p) (a * u) (b * v) (u * v) (q * v) (mul-pos hu hv) hw left_cross right_cross

  -- b against the range of half a unit to either side of a
  scale_pos : 0 < u * (u * v)
  scale_pos = mul-pos hu (mul-pos hu hv)

  whole_pos : 0 < q * v * (q * v)
  whole_pos = mul-pos hw hw

  swap : (x : ℕ) → x * (p * u * (p * u)) ≡ x * (q * v * (q * v))
  swap x = rw whole

  half_swap : (x : ℕ) → x * (p * u * (q * v)) ≡ x * (q * v * (q * v))
  half_swap x = rw whole

  lower_left : a * (q * (2 * p)) * (u * (u * v)) ≡ 2 * (a * u) * (q * v * (q * v))
  lower_left = omega (arith, half_swap (2 * (a * u)))

  lower_right : (b * (2 * p) + 1 * q) * p * (u * (u * v)) ≡ (2 * (b * v) + u) * (q * v * (q * v))
  lower_right = omega (arith, swap (2 * (b * v)), half_swap u)

  pub lower_cross : leb (a * (q * (2 * p))) ((b * (2 * p) + 1 * q) * p) ≡ leb (2 * (a * u)) (2 * (b * v) + u)
  lower_cross = same-le _ _ _ _ (u * (u * v)) (q * v * (q * v)) scale_pos whole_pos lower_left lower_right

  upper_left : b * (p * (2 * p)) * (u * (u * v)) ≡ 2 * (b * v) * (q * v * (q * v))
  upper_left = omega (arith, swap (2 * (b * v)))

  upper_right : (a * (2 * p) + 1 * p) * q * (u * (u * v)) ≡ (2 * (a * u) + u) * (q * v * (q * v))
  upper_right = omega (arith, half_swap (2 * (a * u)), half_swap u)

  pub upper_cross : ltb (b * (p * (2 * p))) ((a * (2 * p) + 1 * p) * q) ≡ ltb (2 * (b * v)) (2 * (a * u) + u)
  upper_cross = same-lt _ _ _ _ (u * (u * v)) (q * v * (q * v)) scale_pos whole_pos upper_left upper_right

-- ---- the relations of two numbers

module _ (i f : Decimal) (bi : Bounded i) (bf : Bounded f) where
  one_whole : 10 ^ i.decimals * unit i ≡ 10 ^ f.decimals * unit f
  one_whole = unit-whole i bi ∙ sym (unit-whole f bf)

  whole_above : 0 < 10 ^ f.decimals * unit f
  whole_above = mul-pos (ten_pos f.decimals) (unit_pos f)

  less-billionths : ltb (billionths i) (billionths f) ≡ less i f
  unfolding less is_less exact_value billionths
  less-billionths = sym (lt_cross i.digits f.digits (10 ^ i.decimals) (10 ^ f.decimals) (unit i) (unit f) one_whole (unit_pos i) (unit_pos f) whole_above)

  at_most-billionths : leb (billionths i) (billionths f) ≡ at_most i f
  unfolding at_most is_at_most exact_value billionths
  at_most-billionths = sym (le_cross i.digits f.digits (10 ^ i.decimals) (10 ^ f.decimals) (unit i) (unit f) one_whole (unit_pos i) (unit_pos f) whole_above)

  covers-billionths : (leb (2 * billionths i) (2 * billionths f + unit i) && ltb (2 * billionths f) (2 * billionths i + unit i)) ≡ covers i f
  unfolding covers is_at_most is_less plus exact_value half_unit billionths
  covers-billionths =
      rw (
        lower_cross i.digits f.digits (10 ^ i.decimals) (10 ^ f.decimals) (unit i) (unit f) one_whole (unit_pos i) (unit_pos f) whole_above,
        upper_cross i.digits f.digits (10 ^ i.decimals) (10 ^ f.decimals) (unit i) (unit f) one_whole (unit_pos i) (unit_pos f) whole_above,
      )

-- what the code finds: m and n are the two numbers in billionths, u is the card's unit
module _ (i f : Decimal) (bi : Bounded i) (bf : Bounded f) (m n : ℕ) (em : m ≡ billionths i) (en : n ≡ billionths f) where
  pub less-found : ltb m n ≡ less i f
  less-found = rw (em, en) (less-billionths i f bi bf)

  pub at_most-found : leb m n ≡ at_most i f
  at_most-found = rw (em, en) (at_most-billionths i f bi bf)

  covers-written : (u : ℕ) → u ≡ unit i → (leb (2 * m) (2 * n + u) && ltb (2 * n) (2 * m + u)) ≡ covers i f
  covers-written u eu = rw (em, en, eu) (covers-billionths i f bi bf)

  pub covers-found : (u : ℕ) → u ≡ unit i → 2 * m ≤ 2 * n + u → ltb (2 * n) (2 * m + u) ≡ covers i f
  covers-found u eu h = rw (le-leb (2 * m) (2 * n + u) h) at (covers-written u eu)

  pub covers_below : (u : ℕ) → u ≡ unit i → 2 * n + u < 2 * m → leb (2 * m) (2 * n + u) ≡ covers i f
  covers_below u eu h = lt-leb (2 * m) (2 * n + u) h ∙ (rw (lt-leb (2 * m) (2 * n + u) h) at (covers-written u eu))
