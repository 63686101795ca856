-- Laws of parts of lists.
-- Assumes nothing.
use Prim.Native.Nat.{ℕ, suc, ◌+◌, ◌-◌, ◌≤◌, ◌<◌}
use native.Mathlib.Nat.{add-zero}
use native.Mathlib.Numerals.{add-one}
use native.Mathlib.Omega.{arith}
use mathlib.Core.Path.{◌≡◌, ap, sym, ◌∙◌}
use mathlib.Core.List.{List, ◌∷◌, ◌++◌}
use lib.ListN.{length, get_or, take, drop, length-drop}
use lib.Seq.{get_or-drop, drop-cons, drop-drop, take-add, length-take-le}
use Rattle.base.specs.Bytes.{Byte, Bytes}
use Rattle.base.specs.Parts.{part}
use Rattle.base.proofs.All.{all_take, all_drop}

module _ (s : List ℕ) where
  -- what stands in s from p on
  pub drop-at-index : (p : ℕ) (t : List ℕ) → drop p s ≡ t → (k : ℕ) → get_or s (p + k) 0 ≡ get_or t k 0
  drop-at-index p t e k = sym (get_or-drop p s k 0) ∙ ap (λ (l : List ℕ). get_or l k 0) e

  pub drop-first : (p : ℕ) (t : List ℕ) → drop p s ≡ t → get_or s p 0 ≡ get_or t 0 0
  drop-first p t e = ap (λ (n : ℕ). get_or s n 0) (sym (add-zero p)) ∙ drop-at-index p t e 0

  pub part_length : (a e : ℕ) → e ≤ length s → length (part s a e) ≡ e - a
  part_length a e h = length-take-le (e - a) (drop a s) (rw (length-drop a s) (omega arith))

  pub part_cons : (a e : ℕ) → a < e → e ≤ length s → part s a e ≡ get_or s a 0 ∷ part s (a + 1) e
  part_cons a e h k =
      let l : a < length s = omega arith in
      let n : e - a ≡ suc (e - (a + 1)) = omega arith in
      ap (λ (m : ℕ). take m (drop a s)) n ∙ rw (add-one a, drop-cons s a 0 l)

  pub part-append : (a m e : ℕ) → a ≤ m → m ≤ e → part s a m ++ part s m e ≡ part s a e
  part-append a m e h k =
      let at : m ≡ a + (m - a) = omega arith in
      let n : (m - a) + (e - m) ≡ e - a = omega arith in
      ap (λ (l : List ℕ). part s a m ++ take (e - m) l) (ap (λ (j : ℕ). drop j s) at ∙ sym (drop-drop (m - a) a s))
      ∙ sym (take-add (m - a) (e - m) (drop a s))
      ∙ ap (λ (j : ℕ). take j (drop a s)) n

  pub part_bytes : (a e : ℕ) → Bytes s → Bytes (part s a e)
  part_bytes a e h = all_take Byte (e - a) (all_drop Byte a h)
