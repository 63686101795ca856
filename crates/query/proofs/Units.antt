-- The loop of `decode`: what was written and what is left to decode make the whole.
-- The invariant `Decoding`: the whole decodes to what was written and then to what the bytes left decode to, and where these do not decode
-- the whole does not. `unit-outcome`, by the cases of the bytes at a position: what the code finds there is the next decoded byte, from one
-- byte of the text or from a percent sign and two hex digits, and what is left to decode begins behind it; or the bytes from there on do
-- not decode. A turn is that fact and one byte more; no more is written than was read (`written`), so that there is room. The laws at the
-- end follow the code that finds the next byte, branch by branch.
-- Assumes nothing.
use Rattle.std.specs.Prelude.{Option, Some, None}
use Prim.Native.Nat.{ℕ, ◌+◌, ◌-◌, ◌≤◌, ◌<◌}
use native.Mathlib.Numerals.{add-one}
use native.Mathlib.Omega.{arith}
use mathlib.Core.Path.{◌≡◌, refl, ap, sym, ◌∙◌, subst}
use mathlib.Core.Bool.{cond}
use mathlib.Core.List.{List, [], ◌∷◌, ◌++◌, append_assoc, append-nil}
use lib.Dec.{eqb, ltb}
use lib.ListN.{length, get_or, take, drop, set, length-set, length-drop, drop_of_length-le}
use lib.Seq.{take-suc-set}
use borrow.Author.Tests.{eq-eqb, ne_eqb, eqb-true, eqb-false, lt-ltb, le-ltb, ltb-true, ltb-false}
use Rattle.base.proofs.Lists.{drop-next}
use Rattle.base.proofs.Tests.{cond-elim}
use Rattle.query.specs.Spelling.{percent, plus}
use Rattle.query.specs.Reader.{hex_value, hex_byte, prepend, decoded}
use Rattle.query.specs.Scan.{unit_of, unit_at, DecodesTo, decodes_bytes, decodes_bad}
use Rattle.query.specs.declared.DecodedByte.{DecodedByte}
use Rattle.query.proofs.Decoding.{decoded-byte, decoded-percent}

-- ---- a byte at a position

data UnitIs (raw : List ℕ) (i : ℕ) : Option DecodedByte → Type 0 where
  unit_is : {b next : ℕ} → i < next → next ≤ length raw → decoded (drop i raw) ≡ prepend (Some b) (decoded (drop next raw)) → UnitIs raw i (Some (record { byte = b; next = next }))
  unit_bad : decoded (drop i raw) ≡ None → UnitIs raw i None

-- by the byte of two hex digits, where they are that
unit_is_hex : (raw : List ℕ) (i next : ℕ) (o : Option ℕ) → i < next → next ≤ length raw → decoded (drop i raw) ≡ prepend o (decoded (drop next raw)) → UnitIs raw i (unit_of o next)
unit_is_hex raw i next (Some b) x y z = unit_is x y z
unit_is_hex raw i next None x y z = unit_bad z

percent_short : (s : List ℕ) → length s ≤ 1 → decoded (percent ∷ s) ≡ None
unfolding decoded
percent_short [] h = refl
percent_short (x ∷ []) h = refl
percent_short (x ∷ y ∷ s) h = absurd (omega arith)

module _ (raw : List ℕ) (i : ℕ) (h : i < length raw) where
  abbrev here : ℕ
  here = get_or raw i 0

  byte-decoded : (here ≡ percent → ⊥) → decoded (drop i raw) ≡ prepend (Some (cond (eqb here plus) 0x20 here)) (decoded (drop (i + 1) raw))
  byte-decoded n = ap decoded (drop-next raw i h) ∙ decoded-byte here (drop (i + 1) raw) n

  percent-decoded : here ≡ percent → i + 2 < length raw → decoded (drop i raw)
      ≡ prepend (hex_byte (hex_value (get_or raw (i + 1) 0)) (hex_value (get_or raw (i + 2) 0))) (decoded (drop (i + 3) raw))
  percent-decoded e l =
      let two : drop (i + 1) raw ≡ get_or raw (i + 1) 0 ∷ drop (i + 1 + 1) raw = drop-next raw (i + 1) (omega arith) in
      let three : drop (i + 2) raw ≡ get_or raw (i + 2) 0 ∷ drop (i + 2 + 1) raw = drop-next raw (i + 2) (omega arith) in
      let a : i + 1 + 1 ≡ i + 2 = omega arith in
      let b : i + 2 + 1 ≡ i + 3 = omega arith in
      let all : drop i raw ≡ percent ∷ get_or raw (i + 1) 0 ∷ get_or raw (i + 2) 0 ∷ drop (i + 3) raw =
      drop-next raw i h ∙ ap (λ (x : ℕ). x ∷ drop (i + 1) raw) e ∙ ap (λ (t : List ℕ). percent ∷ t) two
      ∙ ap (λ (n : ℕ). percent ∷ get_or raw (i + 1) 0 ∷ drop n raw) a ∙ ap (λ (t : List ℕ). percent ∷ get_or raw (i + 1) 0 ∷ t) three
      ∙ ap (λ (n : ℕ). percent ∷ get_or raw (i + 1) 0 ∷ get_or raw (i + 2) 0 ∷ drop n raw) b
      in
      ap decoded all ∙ decoded-percent (get_or raw (i + 1) 0) (get_or raw (i + 2) 0) (drop (i + 3) raw)

  percent-ends : here ≡ percent → length raw ≤ i + 2 → decoded (drop i raw) ≡ None
  percent-ends e l = ap decoded (drop-next raw i h ∙ ap (λ (x : ℕ). x ∷ drop (i + 1) raw) e) ∙ percent_short (drop (i + 1) raw) (omega (arith, length-drop (i + 1) raw))

  unit-outcome : UnitIs raw i (unit_at raw i)
  unfolding unit_at
  unit-outcome =
      cond-elim (UnitIs raw i) (eqb here percent)
      (λ p. let e : here ≡ percent = eqb-true here percent p in
      cond-elim (UnitIs raw i) (ltb (i + 2) (length raw))
      (λ t. let l : i + 2 < length raw = ltb-true (i + 2) (length raw) t in
      unit_is_hex raw i (i + 3) (hex_byte (hex_value (get_or raw (i + 1) 0)) (hex_value (get_or raw (i + 2) 0))) (omega arith) (omega arith) (percent-decoded e l))
      (λ t. unit_bad (percent-ends e (ltb-false (i + 2) (length raw) t))))
      (λ p. unit_is (omega arith) (omega arith) (byte-decoded (eqb-false here percent p)))

-- ---- the loop

-- the bytes before what is left
abbrev pub before : List ℕ → Option (List ℕ) → Option (List ℕ)
before s (Some v) = Some (s ++ v)
before s None = None

before-next : (s : List ℕ) (b : ℕ) (o : Option (List ℕ)) → before s (prepend (Some b) o) ≡ before (s ++ (b ∷ [])) o
before-next s b (Some v) = ap Some (sym (append_assoc s (b ∷ []) v))
before-next s b None = refl

before_empty : (o : Option (List ℕ)) → o ≡ before [] o
before_empty (Some v) = refl
before_empty None = refl

pub record Decoding (raw out : List ℕ) (i n : ℕ) : Type 0 where
  pub within : i ≤ length raw
  pub written : n ≤ i
  pub room : length raw ≤ length out
  pub whole : decoded raw ≡ before (take n out) (decoded (drop i raw))

pub decoding_starts : (raw out : List ℕ) → length raw ≤ length out → Decoding raw out 0 0
decoding_starts raw out h = record { within = omega arith; written = omega arith; room = h; whole = before_empty (decoded raw) }

module _ (raw out : List ℕ) (i n : ℕ) (d : Decoding raw out i n) where
  pub decoding_room : i < length raw → n < length out
  decoding_room h = omega (arith, d.written, d.room)

  module _ (o : Option DecodedByte) (e : o ≡ unit_at raw i) (k : i < length raw) where
    pub decoding_less : (u : DecodedByte) → o ≡ Some u → length raw - u.next < length raw - i
    decoding_less u h = by_unit (subst (UnitIs raw i) (sym e ∙ h) (unit-outcome raw i k))
      where
        by_unit : {u : DecodedByte} → UnitIs raw i (Some u) → length raw - u.next < length raw - i
        by_unit (unit_is x y z) = omega arith

    pub decoding_byte : (u : DecodedByte) → o ≡ Some u → Decoding raw (set out n u.byte) u.next (n + 1)
    decoding_byte u h = by_unit (subst (UnitIs raw i) (sym e ∙ h) (unit-outcome raw i k))
      where
        by_unit : {u : DecodedByte} → UnitIs raw i (Some u) → Decoding raw (set out n u.byte) u.next (n + 1)
        by_unit (unit_is {b = b} {next = next} x y z) =
            let room : n < length out = decoding_room k in
            let cells : take (n + 1) (set out n b) ≡ take n out ++ (b ∷ []) = rw (add-one n, take-suc-set out n b room) in
            record {
              within = y;
              written = omega (arith, d.written);
              room = rw length-set d.room;
              whole = d.whole ∙ ap (before (take n out)) z ∙ before-next (take n out) b (decoded (drop next raw)) ∙ ap (λ (s : List ℕ). before s (decoded (drop next raw))) (sym cells);
            }

    pub decoding_bad : o ≡ None → DecodesTo raw out None
    decoding_bad h = by_unit (subst (UnitIs raw i) (sym e ∙ h) (unit-outcome raw i k))
      where
        by_unit : UnitIs raw i None → DecodesTo raw out None
        by_unit (unit_bad z) = decodes_bad (d.whole ∙ ap (before (take n out)) z)

  pub decoding_ends : length raw ≤ i → DecodesTo raw out (Some n)
  unfolding decoded
  decoding_ends h =
      let left : decoded (drop i raw) ≡ Some [] = ap decoded (drop_of_length-le raw h) in
      decodes_bytes {n = n} (d.whole ∙ ap (before (take n out)) left ∙ ap Some (append-nil (take n out))) (omega (arith, d.written, d.within))

-- ---- what stands at a position, branch by branch

module _ (raw : List ℕ) (i : ℕ) where
  pub unit_short : get_or raw i 0 ≡ percent → length raw - i ≤ 2 → None ≡ unit_at raw i
  unfolding unit_at
  unit_short e h = rw (eq-eqb (get_or raw i 0) percent e, le-ltb (i + 2) (length raw) (omega arith))

  module _ (o : Option ℕ) (p : o ≡ hex_byte (hex_value (get_or raw (i + 1) 0)) (hex_value (get_or raw (i + 2) 0))) (e : get_or raw i 0 ≡ percent) (h : 2 < length raw - i) where
    pub unit_hex : unit_of o (i + 3) ≡ unit_at raw i
    unfolding unit_at
    unit_hex = rw (eq-eqb (get_or raw i 0) percent e, lt-ltb (i + 2) (length raw) (omega arith), p)

    pub unit_bad_hex : o ≡ None → None ≡ unit_at raw i
    unit_bad_hex k = ap (λ (o : Option ℕ). unit_of o (i + 3)) (sym k) ∙ unit_hex

    pub unit_percent : (b : ℕ) → o ≡ Some b → Some (record { byte = b; next = i + 3 }) ≡ unit_at raw i
    unit_percent b k = ap (λ (o : Option ℕ). unit_of o (i + 3)) (sym k) ∙ unit_hex

  pub unit_space : get_or raw i 0 ≡ plus → Some (record { byte = 32; next = i + 1 }) ≡ unit_at raw i
  unfolding unit_at
  unit_space e = rw (ne_eqb (get_or raw i 0) percent (λ z. omega arith), eq-eqb (get_or raw i 0) plus e)

  pub unit-plain : (get_or raw i 0 ≡ percent → ⊥) → (get_or raw i 0 ≡ plus → ⊥) → Some (record { byte = get_or raw i 0; next = i + 1 }) ≡ unit_at raw i
  unfolding unit_at
  unit-plain n m = rw (ne_eqb (get_or raw i 0) percent n, ne_eqb (get_or raw i 0) plus m)
