-- Decimal digits: those that `io::decimal` gives are the definition's, and a number of 64 bits has at most 20.
-- Assumes nothing.
use Prim.Native.Nat.{ℕ, zero, suc, ◌-◌, ◌/◌, ◌%◌, ◌^◌, ◌≤◌, ◌<◌, zero-le}
use native.Mathlib.Nat.{pow-le-pow_right, pow-suc, pow-zero, le_refl}
use native.Mathlib.Omega.{arith}
use mathlib.Core.Path.{◌≡◌, refl, sym, ap, ◌∙◌}
use mathlib.Core.Bool.{true, false}
use mathlib.Core.List.{List, [], ◌∷◌}
use mathlib.Core.Logic.{⊎_elim}
use lib.Dec.{ltb}
use lib.ListN.{length, take, length-append}
use borrow.Author.Tests.{lt-ltb, le-ltb}
use Rattle.base.proofs.Tests.{decided}
use Rattle.base.specs.Writing.{Room, Puts}
use Rattle.base.proofs.Writing.{room_same, puts_same}
use Rattle.io.specs.Digits.{hex_digit_ascii, last_digits, IsDigitCount}
use Rattle.listing.specs.Lines.{digit, digits_of, decimal}

-- a power of ten is no less than one
power : (j : ℕ) → 1 ≤ 10 ^ j
power j =
    let least : 10 ^ 0 ≤ 10 ^ j = pow-le-pow_right {n = 10} (omega arith) {i = 0} {j = j} zero-le in
    omega (arith, least, pow-zero 10)

-- a number below ten is its own digit
one_digit : (more n : ℕ) → n < 10 → digits_of more n ≡ digit n ∷ []
unfolding digits_of
one_digit zero n h = refl
one_digit (suc more) n h = rw (lt-ltb n 10 h)

last_glyph : (n : ℕ) → hex_digit_ascii (n % 10) ≡ digit (n % 10)
last_glyph n = rw (lt-ltb (n % 10) 10 (omega arith))

-- a number of more digits than one is no less than the least of so many
lowest : (j : ℕ) {n : ℕ} → IsDigitCount 10 1 n (suc j) → 1 ≤ j → 10 ^ j ≤ n
lowest j {n} w h =
    let same : suc j - 1 ≡ j = omega arith in
    rw same at (w.2 (omega arith))

same_digits : (k more n : ℕ) → n ≤ more → IsDigitCount 10 1 n k → last_digits 10 k n ≡ digits_of more n
unfolding digits_of
same_digits zero more n h w = absurd (omega (arith, w.0))
same_digits (suc zero) more n h w =
    let small : n < 10 = omega (arith, w.1, pow-suc 10 0, pow-zero 10) in
    let own : n % 10 ≡ n = omega arith in
    ap (λ (d : ℕ). d ∷ []) (last_glyph n ∙ ap digit own) ∙ sym (one_digit more n small)
same_digits (suc (suc j)) zero n h w =
    let low : 10 ^ suc j ≤ n = lowest (suc j) w (omega arith) in
    absurd (omega (arith, low, power (suc j)))
same_digits (suc (suc j)) (suc more) n h w =
    let low : 10 ^ suc j ≤ n = lowest (suc j) w (omega arith) in
    let ten : 10 ≤ n = omega (arith, low, pow-suc 10 j, power j) in
    let same : suc j - 1 ≡ j = omega arith in
    let low-tenth : 10 ^ (suc j - 1) ≤ n / 10 = rw same (omega (arith, low, pow-suc 10 j)) in
    let fewer : IsDigitCount 10 1 (n / 10) (suc j) = (omega arith, omega (arith, w.1, pow-suc 10 (suc j)), λ i. low-tenth) in
    let rest : last_digits 10 (suc j) (n / 10) ≡ digits_of more (n / 10) = same_digits (suc j) more (n / 10) (omega arith) fewer in
    rw (le-ltb n 10 ten, rest, last_glyph n)

pub digits_decimal : {n k : ℕ} → IsDigitCount 10 1 n k → last_digits 10 k n ≡ decimal n
unfolding decimal
digits_decimal {n} {k} w = same_digits k n n (le_refl n) w

-- a number below 10 ^ (1 + m) has at most 1 + m digits
most_digits : (m more n : ℕ) → n < 10 ^ suc m → length (digits_of more n) ≤ suc m
unfolding digits_of
most_digits m zero n h = omega arith
most_digits zero (suc more) n h = rw (one_digit (suc more) n (omega (arith, pow-suc 10 0, pow-zero 10))) (omega arith)
most_digits (suc m) (suc more) n h =
    ⊎_elim (λ (d : ltb n 10 ≡ true). rw d (omega arith))
    (λ (d : ltb n 10 ≡ false). rw d (omega (arith, length-append (digits_of more (n / 10)) (digit (n % 10) ∷ []), most_digits m more (n / 10) (omega (arith, pow-suc 10 (suc m))))))
    (decided (ltb n 10))

pub decimal-length : (n : ℕ) → n < 2 ^ 64 → length (decimal n) ≤ 20
unfolding decimal
decimal-length n h = most_digits 19 n n (omega arith)

-- ---- what `io::decimal` leaves in its array

module _ {n k : ℕ} (array : List ℕ) (w : IsDigitCount 10 1 n k) (e : take k array ≡ last_digits 10 k n) where
  pub number_room : {out : List ℕ} → Room (decimal n) out → Room (take k array) out
  number_room = room_same (sym (e ∙ digits_decimal w))

  pub number_puts : {out exit : List ℕ} {m : ℕ} → Puts (take k array) out exit m → Puts (decimal n) out exit m
  number_puts = puts_same (e ∙ digits_decimal w)
