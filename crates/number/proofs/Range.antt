-- A number lies inside another exactly where each point of its range lies in the other's.
-- Numbers are brought to billionths and doubled, since the ends of a range lie half a unit off. `Within` is two inequalities between the
-- ends. They take each point of the one range into the other, after multiplying by the point's denominator (`above_within`, `below_within`).
-- For the converse two points are enough: the lower end of the first range, which is a point of it (`meets_above`, `meets_below`); and the
-- upper end of the second, which is no point of the second, but would be one of the first if that ended later (`ends-within`). Points above
-- zero and below it are kept apart.
-- Assumes nothing.
use Prim.Native.Nat.{ℕ, ◌+◌, ◌*◌, ◌-◌, ◌^◌, ◌≤◌, ◌<◌}
use mathlib.Core.Path.{◌≡◌, sym, ◌∙◌}
use mathlib.Core.Bool.{true, ◌&&◌}
use mathlib.Core.Logic.{◌↔◌, ⊎_elim}
use native.Mathlib.Nat.{mul-pos, mul-le-mul_right}
use native.Mathlib.Omega.{arith}
use lib.Dec.{leb, ltb, lit<}
use borrow.Author.Tests.{ltb-true, lt-ltb, le-leb, lt-leb, leb-true, leb-false}
use Rattle.base.proofs.Tests.{and_left, and_right, and_both, decided}
use Rattle.number.specs.declared.Decimal.{Decimal}
use Rattle.number.specs.Value.{Fraction, Bounded, plus, exact_value, half_unit}
use Rattle.number.specs.Billionths.{unit, billionths, inside}
use Rattle.number.specs.Range.{above, below, InRange, Held}
use Rattle.number.proofs.Exact.{same-lt, same-le, unit_pos, unit-whole}

-- ---- multiples keep the order

module _ (x y u v c n : ℕ) (hc : 0 < c) (hn : 0 < n) (p : x * c ≡ u * n) (q : y * c ≡ v * n) where
  le_scaled : (x ≤ y) ↔ (u ≤ v)
  le_scaled =
      let e : leb x y ≡ leb u v = same-le x y u v c n hc hn p q in
      ((λ h. leb-true u v (sym e ∙ le-leb x y h)), (λ h. leb-true x y (e ∙ le-leb u v h)))

  lt_scaled : (x < y) ↔ (u < v)
  lt_scaled =
      let e : ltb x y ≡ ltb u v = same-lt x y u v c n hc hn p q in
      ((λ h. ltb-true u v (sym e ∙ lt-ltb x y h)), (λ h. ltb-true x y (e ∙ lt-ltb u v h)))

-- ---- the three tests of a range, of a over p with p units u in the whole w, at the point n over m

module _ (a p u w : ℕ) (whole : p * u ≡ w) (hu : 0 < u) (hw : 0 < w) (n m : ℕ) where
  scale_pos : 0 < u * u
  scale_pos = mul-pos hu hu

  lower_left : a * (m * (2 * p)) * (u * u) ≡ 2 * (a * u) * m * w
  lower_left = rw (← whole) (omega arith)

  lower_right : (n * (2 * p) + 1 * m) * p * (u * u) ≡ (2 * (n * w) + u * m) * w
  lower_right = rw (← whole) (omega arith)

  lower_whole : (a * (m * (2 * p)) ≤ (n * (2 * p) + 1 * m) * p) ↔ (2 * (a * u) * m ≤ 2 * (n * w) + u * m)
  lower_whole = le_scaled _ _ _ _ (u * u) w scale_pos hw lower_left lower_right

  upper_left : n * (p * (2 * p)) * (u * u) ≡ 2 * (n * w) * w
  upper_left = rw (← whole) (omega arith)

  upper_right : (a * (2 * p) + 1 * p) * m * (u * u) ≡ (2 * (a * u) + u) * m * w
  upper_right = rw (← whole) (omega arith)

  upper_whole : (n * (p * (2 * p)) < (a * (2 * p) + 1 * p) * m) ↔ (2 * (n * w) < (2 * (a * u) + u) * m)
  upper_whole = lt_scaled _ _ _ _ (u * u) w scale_pos hw upper_left upper_right

  below_left : (a * m + n * p) * (2 * p) * (u * u) ≡ (2 * (a * u) * m + 2 * (n * w)) * w
  below_left = rw (← whole) (omega arith)

  below_right : 1 * (p * m) * (u * u) ≡ u * m * w
  below_right = rw (← whole) (omega arith)

  below_whole : ((a * m + n * p) * (2 * p) ≤ 1 * (p * m)) ↔ (2 * (a * u) * m + 2 * (n * w) ≤ u * m)
  below_whole = le_scaled _ _ _ _ (u * u) w scale_pos hw below_left below_right

-- ---- the same of a number b in billionths and its unit u, over plain numbers

-- the point n over m, above zero or below it, lies in the range
record Above (b u n m : ℕ) : Type 0 where
  lower : 2 * b * m ≤ 2 * (n * 10 ^ 9) + u * m
  upper : 2 * (n * 10 ^ 9) < (2 * b + u) * m

record Below (b u n m : ℕ) : Type 0 where
  lower : 2 * b * m + 2 * (n * 10 ^ 9) ≤ u * m

module _ (d : Decimal) (k : Bounded d) (x : Fraction) where
  above_iff : InRange d (above x) ↔ Above (billionths d) (unit d) x.numerator x.denominator
  unfolding plus exact_value half_unit billionths
  above_iff =
      let low = lower_whole d.digits (10 ^ d.decimals) (unit d) (10 ^ 9) (unit-whole d k) (unit_pos d) (lit< tt) x.numerator x.denominator in
      let high = upper_whole d.digits (10 ^ d.decimals) (unit d) (10 ^ 9) (unit-whole d k) (unit_pos d) (lit< tt) x.numerator x.denominator in
      ((λ r. record { lower = low.0 r.0; upper = high.0 r.1 }), (λ r. (low.1 r.lower, high.1 r.upper)))

  below_iff : InRange d (below x) ↔ Below (billionths d) (unit d) x.numerator x.denominator
  unfolding plus exact_value half_unit billionths
  below_iff =
      let low = below_whole d.digits (10 ^ d.decimals) (unit d) (10 ^ 9) (unit-whole d k) (unit_pos d) (lit< tt) x.numerator x.denominator in
      ((λ r. record { lower = low.0 r }), (λ r. low.1 r.lower))

-- the range of i with its unit u lies in that of f with its unit v
record Within (i u f v : ℕ) : Type 0 where
  lower : 2 * f + u ≤ 2 * i + v
  upper : 2 * i + u ≤ 2 * f + v

module _ (i u f v : ℕ) where
  module _ (h : Within i u f v) (n m : ℕ) where
    lower_more : (2 * f + u) * m ≤ (2 * i + v) * m
    lower_more = mul-le-mul_right m h.lower

    upper_more : (2 * i + u) * m ≤ (2 * f + v) * m
    upper_more = mul-le-mul_right m h.upper

    above_within : Above i u n m → Above f v n m
    above_within r = record { lower = omega (arith, lower_more, r.lower); upper = omega (arith, upper_more, r.upper) }

    below_within : Below i u n m → Below f v n m
    below_within r = record { lower = omega (arith, lower_more, r.lower) }

  -- the lower end of i, a point of its own range, is one of the other's: above zero or below it
  record Meets : Type 0 where
    lower : 2 * f + u ≤ 2 * i + v
    upper : 2 * i ≤ 2 * f + v + u

  meets_above : (k : ℕ) → 0 < u → k + u ≡ 2 * i → (Above i u k (2 * 10 ^ 9) → Above f v k (2 * 10 ^ 9)) → Meets
  meets_above k p e h =
      let r : Above f v k (2 * 10 ^ 9) = h (record { lower = omega arith; upper = omega arith }) in
      record { lower = omega (arith, r.lower); upper = omega (arith, r.upper) }

  meets_below : (k : ℕ) → k + 2 * i ≡ u → (Below i u k (2 * 10 ^ 9) → Below f v k (2 * 10 ^ 9)) → Meets
  meets_below k e h =
      let r : Below f v k (2 * 10 ^ 9) = h (record { lower = omega arith }) in
      record { lower = omega (arith, r.lower); upper = omega arith }

  -- if f ended before i does, its upper end would be a point of i, and so one of f
  ends-within : Meets → (Above i u (2 * f + v) (2 * 10 ^ 9) → Above f v (2 * f + v) (2 * 10 ^ 9)) → leb (2 * i + u) (2 * f + v) ≡ true
  ends-within s h =
      ⊎_elim
      (λ e. e)
      (λ e.
      let late : 2 * f + v < 2 * i + u = leb-false (2 * i + u) (2 * f + v) e in
      let r : Above f v (2 * f + v) (2 * 10 ^ 9) = h (record { lower = omega (arith, s.upper); upper = omega arith }) in
      let z : ⊥ = omega (arith, r.upper) in absurd z)
      (decided (leb (2 * i + u) (2 * f + v)))

-- ---- a number inside another

module _ (a b : Decimal) (ka : Bounded a) (kb : Bounded b) where
  inside-within : inside a b ≡ true → Within (billionths a) (unit a) (billionths b) (unit b)
  unfolding inside
  inside-within h =
      record {
        lower = leb-true _ _ (and_left (leb (2 * billionths b + unit a) (2 * billionths a + unit b)) (leb (2 * billionths a + unit a) (2 * billionths b + unit b)) h);
        upper = leb-true _ _ (and_right (leb (2 * billionths b + unit a) (2 * billionths a + unit b)) (leb (2 * billionths a + unit a) (2 * billionths b + unit b)) h);
      }

  inside_holds : inside a b ≡ true → Held a b
  inside_holds h (above x) z r = (above_iff b kb x).1 (above_within _ _ _ _ (inside-within h) _ _ ((above_iff a ka x).0 r))
  inside_holds h (below x) z r = (below_iff b kb x).1 (below_within _ _ _ _ (inside-within h) _ _ ((below_iff a ka x).0 r))

  module _ (h : Held a b) (n : ℕ) where
    abbrev halves : Fraction
    halves = record { numerator = n; denominator = 2 * 10 ^ 9 }

    above_held : Above (billionths a) (unit a) n (2 * 10 ^ 9) → Above (billionths b) (unit b) n (2 * 10 ^ 9)
    above_held r = (above_iff b kb halves).0 (h (above halves) (lit< tt) ((above_iff a ka halves).1 r))

    below_held : Below (billionths a) (unit a) n (2 * 10 ^ 9) → Below (billionths b) (unit b) n (2 * 10 ^ 9)
    below_held r = (below_iff b kb halves).0 (h (below halves) (lit< tt) ((below_iff a ka halves).1 r))

  held_meets : Held a b → Meets (billionths a) (unit a) (billionths b) (unit b)
  held_meets h =
      ⊎_elim
      (λ e. let more : unit a ≤ 2 * billionths a = leb-true _ _ e in
      meets_above _ _ _ _ (2 * billionths a - unit a) (unit_pos a) (omega arith) (above_held h (2 * billionths a - unit a)))
      (λ e. let less : 2 * billionths a < unit a = leb-false (unit a) (2 * billionths a) e in
      meets_below _ _ _ _ (unit a - 2 * billionths a) (omega arith) (below_held h (unit a - 2 * billionths a)))
      (decided (leb (unit a) (2 * billionths a)))

  holds_inside : Held a b → inside a b ≡ true
  unfolding inside
  holds_inside h =
      let s : Meets (billionths a) (unit a) (billionths b) (unit b) = held_meets h in
      and_both (leb (2 * billionths b + unit a) (2 * billionths a + unit b)) (leb (2 * billionths a + unit a) (2 * billionths b + unit b))
      (le-leb _ _ s.lower)
      (ends-within _ _ _ _ s (above_held h (2 * billionths b + unit b)))

  pub inside_iff : (inside a b ≡ true) ↔ Held a b
  inside_iff = (inside_holds, holds_inside)

-- what the code finds: m and n are the two numbers in billionths, u and v their units
module _ (a b : Decimal) (m n u v : ℕ) (em : m ≡ billionths a) (en : n ≡ billionths b) (eu : u ≡ unit a) (ev : v ≡ unit b) where
  inside-written : (leb (2 * n + u) (2 * m + v) && leb (2 * m + u) (2 * n + v)) ≡ inside a b
  unfolding inside
  inside-written = rw (em, en, eu, ev)

  pub inside_found : 2 * n + u ≤ 2 * m + v → leb (2 * m + u) (2 * n + v) ≡ inside a b
  inside_found h = rw (le-leb (2 * n + u) (2 * m + v) h) at inside-written

  pub inside_below : 2 * m + v < 2 * n + u → leb (2 * n + u) (2 * m + v) ≡ inside a b
  inside_below h = lt-leb (2 * n + u) (2 * m + v) h ∙ (rw (lt-leb (2 * n + u) (2 * m + v) h) at inside-written)
