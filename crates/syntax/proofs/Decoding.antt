-- The loop of `decode`: what was written and what is left to decode make the whole value.
-- Assumes nothing.
use Rattle.std.specs.Prelude.{Option, Some, None}
use Prim.Native.Nat.{ℕ, suc, ◌+◌, ◌≤◌, ◌<◌}
use native.Mathlib.Numerals.{add-one}
use native.Mathlib.Omega.{arith}
use mathlib.Core.Path.{◌≡◌, refl, sym, ◌∙◌}
use mathlib.Core.Bool.{Bool, true, false, cond}
use mathlib.Core.List.{List, ◌∷◌, ◌++◌, append_assoc, append-nil}
use lib.ListN.{length, get_or, take, drop, set, length-set, drop_of_length-le}
use lib.Seq.{drop-cons, take-suc-set}
use lib.Dec.{eqb}
use Rattle.base.proofs.Lists.{cons_same}
use borrow.Author.Tests.{eq-eqb, ne_eqb}
use Rattle.syntax.specs.Strings.{backslash, unescaped}
use Rattle.syntax.specs.Scan.{piece_of, decode, Decoded}

-- ---- a byte's piece

pub piece_escaped : (pending : Bool) (b u : ℕ) → pending ≡ true → u ≡ unescaped b → Some u ≡ piece_of pending b
unfolding piece_of
piece_escaped pending b u p e = rw (p, e)

pub piece_backslash : (pending : Bool) (b : ℕ) → pending ≡ false → b ≡ backslash → None ≡ piece_of pending b
unfolding piece_of
piece_backslash pending b p e = rw (p, eq-eqb b backslash e)

pub piece_plain : (pending : Bool) (b : ℕ) → pending ≡ false → (b ≡ backslash → ⊥) → Some b ≡ piece_of pending b
unfolding piece_of
piece_plain pending b p e = rw (p, ne_eqb b backslash e)

never_byte : {X : Type 0} {b : ℕ} → Some b ≡ None → X
never_byte h = let z : ◌≡◌ {A = ℕ} 0 1 = cc in absurd (omega arith)

byte-same : {b c : ℕ} → Some b ≡ Some c → b ≡ c
byte-same h = cc

decode-byte : (pending : Bool) (x b : ℕ) (xs : List ℕ) → piece_of pending x ≡ Some b → decode pending (x ∷ xs) ≡ b ∷ decode false xs
unfolding piece_of decode
decode-byte true x b xs h = cons_same (byte-same h) refl
decode-byte false x b xs h = go (eqb x backslash) h
  where
    go : (t : Bool) → cond t None (Some x) ≡ Some b → cond t (decode true xs) (x ∷ decode false xs) ≡ b ∷ decode false xs
    go true h = never_byte (sym h)
    go false h = cons_same (byte-same h) refl

decode-backslash : (pending : Bool) (x : ℕ) (xs : List ℕ) → piece_of pending x ≡ None → decode pending (x ∷ xs) ≡ decode true xs
unfolding piece_of decode
decode-backslash true x xs h = never_byte h
decode-backslash false x xs h = go (eqb x backslash) h
  where
    go : (t : Bool) → cond t None (Some x) ≡ None → cond t (decode true xs) (x ∷ decode false xs) ≡ decode true xs
    go true h = refl
    go false h = never_byte h

-- ---- the loop

pub record Decoding (raw out : List ℕ) (i n : ℕ) (pending : Bool) : Type 0 where
  pub within : i ≤ length raw
  pub written : n ≤ i
  pub room : length raw ≤ length out
  pub whole : take n out ++ decode pending (drop i raw) ≡ decode false raw

pub decoding_starts : (raw out : List ℕ) → length raw ≤ length out → Decoding raw out 0 0 false
decoding_starts raw out h = record { within = omega arith; written = omega arith; room = h; whole = refl }

module _ (raw out : List ℕ) (i n : ℕ) (pending : Bool) (d : Decoding raw out i n pending) where
  pub decoding_byte : (p : Option ℕ) (b : ℕ) → p ≡ piece_of pending (get_or raw i 0) → p ≡ Some b → i < length raw → Decoding raw (set out n b) (i + 1) (n + 1) false
  decoding_byte p b e h k =
      let room : n < length out = omega (arith, d.written, d.room) in
      let next : decode pending (drop i raw) ≡ b ∷ decode false (drop (suc i) raw) = rw (drop-cons raw i 0 k) (decode-byte pending (get_or raw i 0) b (drop (suc i) raw) (sym e ∙ h)) in
      record {
        within = omega arith;
        written = omega (arith, d.written);
        room = rw length-set d.room;
        whole = rw (add-one n, add-one i, take-suc-set out n b room, append_assoc, ← next) d.whole;
      }

  pub decoding_backslash : (p : Option ℕ) → p ≡ piece_of pending (get_or raw i 0) → p ≡ None → i < length raw → Decoding raw out (i + 1) n true
  decoding_backslash p e h k =
      let next : decode pending (drop i raw) ≡ decode true (drop (suc i) raw) = rw (drop-cons raw i 0 k) (decode-backslash pending (get_or raw i 0) (drop (suc i) raw) (sym e ∙ h)) in
      record {
        within = omega arith;
        written = omega (arith, d.written);
        room = d.room;
        whole = rw (add-one i, ← next) d.whole;
      }

  pub decoding_ends : length raw ≤ i → Decoded raw out n
  unfolding decode
  decoding_ends h =
      record {
        is = sym (append-nil (take n out)) ∙ (rw (drop_of_length-le raw h) at d.whole);
        few = omega (arith, d.written, d.within);
      }
