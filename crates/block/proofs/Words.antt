-- Laws of numbers of four bytes: a number is written and read back, and four bytes are read and written back.
-- Assumes nothing.
use Prim.Native.Nat.{ℕ, ◌+◌, ◌*◌, ◌/◌, ◌%◌, ◌^◌, ◌-◌, ◌≤◌, ◌<◌}
use native.Mathlib.Nat.{zero-add, add-zero, add-mul-mod_self_left, add-mul-div_left, mod-eq_of_lt, div-eq_of_lt}
use native.Mathlib.Omega.{arith}
use mathlib.Core.Path.{◌≡◌, refl, ap, ap₂, sym, ◌∙◌}
use mathlib.Core.List.{List, [], ◌∷◌, ◌++◌}
use lib.ListN.{length, get_or, take, drop}
use Rattle.base.specs.Bytes.{Bytes}
use Rattle.base.specs.Lists.{all_empty, all_cons}
use Rattle.base.specs.Parts.{part}
use Rattle.base.proofs.All.{bytes-at}
use Rattle.base.proofs.Parts.{drop-at-index, drop-first, part_cons}
use Rattle.block.specs.Words.{word, word_bytes}

low_byte : (n : ℕ) → n % 256 < 256
low_byte n = omega arith

pub word-bytes : (n : ℕ) → Bytes (word_bytes n)
unfolding word_bytes
word-bytes n =
    all_cons (low_byte n) (all_cons (low_byte (n / 256)) (all_cons (low_byte (n / 256 / 256)) (all_cons (low_byte (n / 256 / 256 / 256)) all_empty)))

pub word-length : (n : ℕ) → length (word_bytes n) ≡ 4
unfolding word_bytes
word-length n = refl

four : (n : ℕ) → n < 2 ^ 32 → n % 256 + 256 * (n / 256 % 256 + 256 * (n / 256 / 256 % 256 + 256 * (n / 256 / 256 / 256 % 256))) ≡ n
four n h = omega arith

-- a number that is written is read back
pub word-written : (b : List ℕ) (p n : ℕ) (r : List ℕ) → n < 2 ^ 32 → drop p b ≡ word_bytes n ++ r → word b p ≡ n
unfolding word_bytes
word-written b p n r h e =
    rw (drop-first b p (word_bytes n ++ r) e, drop-at-index b p (word_bytes n ++ r) e 1, drop-at-index b p (word_bytes n ++ r) e 2, drop-at-index b p (word_bytes n ++ r) e 3) (four n h)

-- the lowest byte of a number, and what stands above it
low : (a q : ℕ) → a < 256 → (a + 256 * q) % 256 ≡ a
low a q h = add-mul-mod_self_left a 256 q ∙ mod-eq_of_lt h

high : (a q : ℕ) → a < 256 → (a + 256 * q) / 256 ≡ q
high a q h = add-mul-div_left a q (omega arith) ∙ ap (λ (n : ℕ). n + q) (div-eq_of_lt h) ∙ zero-add q

digits : (a b c d : ℕ) → a < 256 → b < 256 → c < 256 → d < 256 → word_bytes (a + 256 * (b + 256 * (c + 256 * d))) ≡ a ∷ b ∷ c ∷ d ∷ []
unfolding word_bytes
digits a b c d ha hb hc hd =
    rw (low a (b + 256 * (c + 256 * d)) ha, high a (b + 256 * (c + 256 * d)) ha, low b (c + 256 * d) hb, high b (c + 256 * d) hb, low c d hc, high c d hc, mod-eq_of_lt hd)

module _ (b : List ℕ) (p : ℕ) where
  -- the byte at p + k of the four
  byte-first : (k : ℕ) → k < 4 → p + 4 ≤ length b → part b (p + k) (p + 4) ≡ get_or b (p + k) 0 ∷ part b (p + (k + 1)) (p + 4)
  byte-first k m l =
      let e : p + k + 1 ≡ p + (k + 1) = omega arith in
      part_cons b (p + k) (p + 4) (omega arith) (omega arith) ∙ ap (λ (j : ℕ). get_or b (p + k) 0 ∷ part b j (p + 4)) e

  four_bytes : p + 4 ≤ length b → part b p (p + 4) ≡ get_or b p 0 ∷ get_or b (p + 1) 0 ∷ get_or b (p + 2) 0 ∷ get_or b (p + 3) 0 ∷ []
  four_bytes l =
      let none : p + 4 - (p + 4) ≡ 0 = omega arith in
      ap (λ (j : ℕ). part b j (p + 4)) (sym (add-zero p))
      ∙ byte-first 0 (omega arith) l
      ∙ ap₂ (λ (j : ℕ) (t : List ℕ). get_or b j 0 ∷ t) (add-zero p) (byte-first 1 (omega arith) l
      ∙ ap (λ (t : List ℕ). get_or b (p + 1) 0 ∷ t) (byte-first 2 (omega arith) l
      ∙ ap (λ (t : List ℕ). get_or b (p + 2) 0 ∷ t) (byte-first 3 (omega arith) l
      ∙ ap (λ (k : ℕ). get_or b (p + 3) 0 ∷ take k (drop (p + 4) b)) none)))

  module _ (h : Bytes b) where
    -- a number that is read is written back
    pub word_read : p + 4 ≤ length b → word_bytes (word b p) ≡ part b p (p + 4)
    word_read l =
        digits (get_or b p 0) (get_or b (p + 1) 0) (get_or b (p + 2) 0) (get_or b (p + 3) 0) (bytes-at h p) (bytes-at h (p + 1)) (bytes-at h (p + 2)) (bytes-at h (p + 3))
        ∙ sym (four_bytes l)

    pub word_small : word b p < 2 ^ 32
    word_small = omega (arith, bytes-at h p, bytes-at h (p + 1), bytes-at h (p + 2), bytes-at h (p + 3))
