-- The loop of `next_alternative`: what was written and the signs that are left make the alternative.
-- The definition cuts a list of signs, the code goes over bytes. What the code finds at a position is the first sign there, and the signs
-- from the next position on are the others (`mark-outcome`, by the cases of the bytes there). The invariant `Gathering`: the alternative's
-- text is what was written and then the text of the first alternative of the signs left; the place of its bar is that of the bar already
-- met, or else its place in the signs left, counted behind what was written; the alternatives after it are those after the first of the
-- signs left. A turn takes one sign off, and the position grows. A comma or the end of the bytes ends the alternative (`gathering_cut`,
-- `gathering_ends`).
-- Assumes nothing.
use Rattle.std.specs.Prelude.{Option, Some, None, unwrap_or}
use Rattle.std.specs.Option.{option_or}
use Rattle.std.proofs.lemmas.Option.{none-some, same_Some}
use Prim.Native.Nat.{ℕ, suc, ◌+◌, ◌-◌, ◌≤◌, ◌<◌}
use native.Mathlib.Numerals.{add-one}
use native.Mathlib.Omega.{arith}
use mathlib.Core.Path.{◌≡◌, refl, ap, sym, ◌∙◌, subst}
use mathlib.Core.Bool.{Bool, true, false}
use mathlib.Core.List.{List, [], ◌∷◌, ◌++◌, append_assoc, append-nil}
use lib.Dec.{eqb, ltb}
use lib.ListN.{length, get_or, take, drop, set, length-set, drop_of_length-le}
use lib.Seq.{take-suc-set}
use borrow.Author.Tests.{eq-eqb, ne_eqb, eqb-true, eqb-false, lt-ltb, le-ltb, ltb-true, ltb-false}
use Rattle.base.proofs.Lists.{drop-next}
use Rattle.base.proofs.Tests.{cond-elim}
use Rattle.text.specs.Bar.{bar}
use Rattle.syntax.specs.Strings.{backslash}
use Rattle.query.specs.Spelling.{comma, Sign, byte, cut, split}
use Rattle.query.specs.Reader.{signs_of, is_special, begins_special, cut_signs, text_of, split_of}
use Rattle.query.specs.Scan.{mark_at, first_of, rest_of, signs_from, PieceOf}
use Rattle.query.specs.declared.Mark.{Mark}
use Rattle.query.proofs.Signs.{signs_of_byte, signs_kept}

-- the alternatives of signs: the first, and the rest
pub cut_first : (v : List Sign) → cut_signs v ≡ first_of v ∷ rest_of v
unfolding cut_signs first_of rest_of
cut_first [] = refl
cut_first (cut ∷ v) = refl
cut_first (byte b ∷ v) = rw (cut_first v)
cut_first (split ∷ v) = rw (cut_first v)

-- ---- what stands at a position

data MarkIs (s : List ℕ) (i : ℕ) : Mark → Type 0 where
  mark_is_byte : {b next : ℕ} → i < next → next ≤ length s → signs_from s i ≡ byte b ∷ signs_from s next → MarkIs s i (Mark.Byte b next)
  mark_is_cut : {next : ℕ} → i < next → next ≤ length s → signs_from s i ≡ cut ∷ signs_from s next → MarkIs s i (Mark.Cut next)
  mark_is_split : {next : ℕ} → i < next → next ≤ length s → signs_from s i ≡ split ∷ signs_from s next → MarkIs s i (Mark.Split next)

after_backslash : (t : List ℕ) → signs_of false (backslash ∷ t) ≡ signs_of true t
unfolding signs_of
after_backslash t = refl

plain-signs : (c : ℕ) (u : List ℕ) → is_special c ≡ true → signs_of true (c ∷ u) ≡ byte c ∷ signs_of false u
unfolding signs_of
plain-signs c u e = rw e

cut_signs_lem : (t : List ℕ) → signs_of false (comma ∷ t) ≡ cut ∷ signs_of false t
unfolding signs_of
cut_signs_lem t = refl

split-signs : (t : List ℕ) → signs_of false (bar ∷ t) ≡ split ∷ signs_of false t
unfolding signs_of
split-signs t = refl

module _ (s : List ℕ) (i : ℕ) (h : i < length s) where
  abbrev here : ℕ
  here = get_or s i 0

  from-here : (b : ℕ) → here ≡ b → signs_from s i ≡ signs_of false (b ∷ drop (i + 1) s)
  from-here b e = ap (signs_of false) (drop-next s i h ∙ ap (λ (x : ℕ). x ∷ drop (i + 1) s) e)

  lone : begins_special (drop (i + 1) s) ≡ false → here ≡ backslash → signs_from s i ≡ byte backslash ∷ signs_from s (i + 1)
  lone n e = from-here backslash e ∙ after_backslash (drop (i + 1) s) ∙ signs_kept (drop (i + 1) s) (signs_from s (i + 1)) n refl

  plain : i + 1 < length s → is_special (get_or s (i + 1) 0) ≡ true → here ≡ backslash → signs_from s i ≡ byte (get_or s (i + 1) 0) ∷ signs_from s (i + 2)
  plain l t e =
      let two : i + 1 + 1 ≡ i + 2 = omega arith in
      let next : drop (i + 1) s ≡ get_or s (i + 1) 0 ∷ drop (i + 2) s = drop-next s (i + 1) l ∙ ap (λ (n : ℕ). get_or s (i + 1) 0 ∷ drop n s) two in
      from-here backslash e ∙ after_backslash (drop (i + 1) s) ∙ ap (signs_of true) next ∙ plain-signs (get_or s (i + 1) 0) (drop (i + 2) s) t

  begins : i + 1 < length s → is_special (get_or s (i + 1) 0) ≡ false → begins_special (drop (i + 1) s) ≡ false
  begins l t = ap begins_special (drop-next s (i + 1) l) ∙ t

  mark-outcome : MarkIs s i (mark_at s i)
  unfolding mark_at
  mark-outcome =
      cond-elim (MarkIs s i) (eqb here backslash)
      (λ p. let e : here ≡ backslash = eqb-true here backslash p in
      cond-elim (MarkIs s i) (ltb (i + 1) (length s))
      (λ t. let l : i + 1 < length s = ltb-true (i + 1) (length s) t in
      cond-elim (MarkIs s i) (is_special (get_or s (i + 1) 0))
      (λ x. mark_is_byte (omega arith) (omega arith) (plain l x e))
      (λ x. mark_is_byte (omega arith) (omega arith) (lone (begins l x) e)))
      (λ t. let l : length s ≤ i + 1 = ltb-false (i + 1) (length s) t in
      mark_is_byte (omega arith) (omega arith) (lone (ap begins_special (drop_of_length-le s l)) e)))
      (λ p. cond-elim (MarkIs s i) (eqb here comma)
      (λ t. mark_is_cut (omega arith) (omega arith) (from-here comma (eqb-true here comma t) ∙ cut_signs_lem (drop (i + 1) s)))
      (λ q. cond-elim (MarkIs s i) (eqb here bar)
      (λ t. mark_is_split (omega arith) (omega arith) (from-here bar (eqb-true here bar t) ∙ split-signs (drop (i + 1) s)))
      (λ r. mark_is_byte (omega arith) (omega arith)
      (from-here here refl ∙ signs_of_byte here (drop (i + 1) s) (eqb-false here backslash p) (eqb-false here comma q) (eqb-false here bar r)))))

-- branch by branch
module _ (s : List ℕ) (i : ℕ) where
  pub mark_last : get_or s i 0 ≡ backslash → length s ≤ i + 1 → Mark.Byte (get_or s i 0) (i + 1) ≡ mark_at s i
  unfolding mark_at
  mark_last e h = rw (eq-eqb (get_or s i 0) backslash e, le-ltb (i + 1) (length s) h, e)

  pub mark-plain : (t : Bool) → t ≡ is_special (get_or s (i + 1) 0) → t ≡ true → get_or s i 0 ≡ backslash → i + 1 < length s → Mark.Byte (get_or s (i + 1) 0) (i + 2) ≡ mark_at s i
  unfolding mark_at
  mark-plain t x y e h = rw (eq-eqb (get_or s i 0) backslash e, lt-ltb (i + 1) (length s) h, sym x ∙ y)

  pub mark_lone : (t : Bool) → t ≡ is_special (get_or s (i + 1) 0) → t ≡ false → get_or s i 0 ≡ backslash → i + 1 < length s → Mark.Byte (get_or s i 0) (i + 1) ≡ mark_at s i
  unfolding mark_at
  mark_lone t x y e h = rw (eq-eqb (get_or s i 0) backslash e, lt-ltb (i + 1) (length s) h, sym x ∙ y, e)

  pub mark_cut : get_or s i 0 ≡ comma → Mark.Cut (i + 1) ≡ mark_at s i
  unfolding mark_at
  mark_cut e = rw (ne_eqb (get_or s i 0) backslash (λ z. omega arith), eq-eqb (get_or s i 0) comma e)

  pub mark-split : get_or s i 0 ≡ bar → Mark.Split (i + 1) ≡ mark_at s i
  unfolding mark_at
  mark-split e = rw (ne_eqb (get_or s i 0) backslash (λ z. omega arith), ne_eqb (get_or s i 0) comma (λ z. omega arith), eq-eqb (get_or s i 0) bar e)

  pub mark-byte : (get_or s i 0 ≡ backslash → ⊥) → (get_or s i 0 ≡ comma → ⊥) → (get_or s i 0 ≡ bar → ⊥) → Mark.Byte (get_or s i 0) (i + 1) ≡ mark_at s i
  unfolding mark_at
  mark-byte x y z = rw (ne_eqb (get_or s i 0) backslash x, ne_eqb (get_or s i 0) comma y, ne_eqb (get_or s i 0) bar z)

-- ---- the loop

-- the alternative that begins at a position
abbrev pub first : List ℕ → ℕ → List Sign
first s i = first_of (signs_from s i)

pub record Gathering (s : List ℕ) (at : ℕ) (out : List ℕ) (i n : ℕ) (split : Option ℕ) : Type 0 where
  pub within : i ≤ length s
  pub written : at + n ≤ i
  pub room : length s ≤ at + length out
  pub text : text_of (first s at) ≡ take n out ++ text_of (first s i)
  pub splits : split_of (first s at) ≡ unwrap_or split (n + split_of (first s i))
  pub rest : rest_of (signs_from s at) ≡ rest_of (signs_from s i)

pub gathering_starts : (s : List ℕ) (at : ℕ) (out : List ℕ) → at ≤ length s → length s - at ≤ length out → Gathering s at out at 0 None
gathering_starts s at out h k =
    record { within = h; written = omega arith; room = omega arith; text = refl; splits = sym (zero_sum (split_of (first s at))); rest = refl }
  where
    zero_sum : (n : ℕ) → 0 + n ≡ n
    zero_sum n = omega arith

-- the first of signs that begin so
byte_text : (b : ℕ) (v : List Sign) → text_of (first_of (byte b ∷ v)) ≡ b ∷ text_of (first_of v)
unfolding text_of first_of
byte_text b v = refl

byte_split : (b : ℕ) (v : List Sign) → split_of (first_of (byte b ∷ v)) ≡ suc (split_of (first_of v))
unfolding split_of first_of
byte_split b v = refl

byte_rest : (b : ℕ) (v : List Sign) → rest_of (byte b ∷ v) ≡ rest_of v
unfolding rest_of
byte_rest b v = refl

split_text : (v : List Sign) → text_of (first_of (split ∷ v)) ≡ bar ∷ text_of (first_of v)
unfolding text_of first_of
split_text v = refl

split-split : (v : List Sign) → split_of (first_of (split ∷ v)) ≡ 0
unfolding split_of first_of
split-split v = refl

split_rest : (v : List Sign) → rest_of (split ∷ v) ≡ rest_of v
unfolding rest_of
split_rest v = refl

cut_text : (v : List Sign) → (text_of (first_of (cut ∷ v)) ≡ []) × (split_of (first_of (cut ∷ v)) ≡ 0) × (rest_of (cut ∷ v) ≡ cut_signs v)
unfolding text_of split_of first_of rest_of
cut_text v = (refl, refl, refl)

end_text : (text_of (first_of (signs_of false [])) ≡ []) × (split_of (first_of (signs_of false [])) ≡ 0) × (rest_of (signs_of false []) ≡ [])
unfolding text_of split_of first_of rest_of signs_of
end_text = (refl, refl, refl)

split-on : (split : Option ℕ) (n m k : ℕ) → m ≡ suc k → unwrap_or split (n + m) ≡ unwrap_or split (n + 1 + k)
split-on (Some x) n m k e = refl
split-on None n m k e = omega arith

split-here : (split : Option ℕ) (n m : ℕ) → m ≡ 0 → unwrap_or split (n + m) ≡ unwrap_or split n
split-here (Some x) n m e = refl
split-here None n m e = omega arith

split_first : (split : Option ℕ) (n m : ℕ) → unwrap_or (option_or split (Some n)) m ≡ unwrap_or split n
split_first (Some x) n m = refl
split_first None n m = refl

module _ {s : List ℕ} {at : ℕ} {out : List ℕ} {i n : ℕ} {split : Option ℕ} (g : Gathering s at out i n split) where
  pub gathering_room : i < length s → n < length out
  gathering_room h = omega (arith, g.written, g.room)

  -- a byte more
  put : (b next : ℕ) (rest : List ℕ) → i < length s → text_of (first s i) ≡ b ∷ rest → text_of (first s at) ≡ take (n + 1) (set out n b) ++ rest
  put b next rest h e =
      let cells : take (n + 1) (set out n b) ≡ take n out ++ (b ∷ []) = rw (add-one n, take-suc-set out n b (gathering_room h)) in
      g.text ∙ ap (λ (t : List ℕ). take n out ++ t) e ∙ sym (append_assoc (take n out) (b ∷ []) rest) ∙ ap (λ (t : List ℕ). t ++ rest) (sym cells)

  module _ (m : Mark) (e : m ≡ mark_at s i) (h : i < length s) where
    is : {x : Mark} → m ≡ x → MarkIs s i x
    is k = subst (MarkIs s i) (sym e ∙ k) (mark-outcome s i h)

    pub gathering_byte : (b next : ℕ) → m ≡ Mark.Byte b next → Gathering s at (set out n b) next (n + 1) split
    gathering_byte b next k = by_mark (is k)
      where
        by_mark : MarkIs s i (Mark.Byte b next) → Gathering s at (set out n b) next (n + 1) split
        by_mark (mark_is_byte x y z) =
            record {
              within = y;
              written = omega (arith, g.written);
              room = rw length-set g.room;
              text = put b next (text_of (first s next)) h (ap (λ (v : List Sign). text_of (first_of v)) z ∙ byte_text b (signs_from s next));
              splits = g.splits ∙ split-on split n (split_of (first s i)) (split_of (first s next)) (ap (λ (v : List Sign). split_of (first_of v)) z ∙ byte_split b (signs_from s next));
              rest = g.rest ∙ ap rest_of z ∙ byte_rest b (signs_from s next);
            }

    pub gathering_split : (next : ℕ) (r : Option ℕ) → m ≡ Mark.Split next → r ≡ option_or split (Some n) → Gathering s at (set out n 124) next (n + 1) r
    gathering_split next r k u = by_mark (is k)
      where
        by_mark : MarkIs s i (Mark.Split next) → Gathering s at (set out n 124) next (n + 1) r
        by_mark (mark_is_split x y z) =
            record {
              within = y;
              written = omega (arith, g.written);
              room = rw length-set g.room;
              text = put 124 next (text_of (first s next)) h (ap (λ (v : List Sign). text_of (first_of v)) z ∙ split_text (signs_from s next));
              splits = g.splits ∙ split-here split n (split_of (first s i)) (ap (λ (v : List Sign). split_of (first_of v)) z ∙ split-split (signs_from s next))
                  ∙ sym (split_first split n (n + 1 + split_of (first s next))) ∙ ap (λ (o : Option ℕ). unwrap_or o (n + 1 + split_of (first s next))) (sym u);
              rest = g.rest ∙ ap rest_of z ∙ split_rest (signs_from s next);
            }

    pub gathering_less : (b next : ℕ) → m ≡ Mark.Byte b next → length s - next < length s - i
    gathering_less b next k = by_mark (is k)
      where
        by_mark : MarkIs s i (Mark.Byte b next) → length s - next < length s - i
        by_mark (mark_is_byte x y z) = omega arith

    pub gathering_less-split : (next : ℕ) → m ≡ Mark.Split next → length s - next < length s - i
    gathering_less-split next k = by_mark (is k)
      where
        by_mark : MarkIs s i (Mark.Split next) → length s - next < length s - i
        by_mark (mark_is_split x y z) = omega arith

    pub gathering_cut : (next r : ℕ) → m ≡ Mark.Cut next → r ≡ unwrap_or split n → PieceOf s at out (record { len = n; split = r; next = Some next })
    gathering_cut next r k u = by_mark (is k)
      where
        by_mark : MarkIs s i (Mark.Cut next) → PieceOf s at out (record { len = n; split = r; next = Some next })
        by_mark (mark_is_cut x y z) =
            let c = cut_text (signs_from s next) in
            record {
              text = sym (append-nil (take n out)) ∙ ap (λ (t : List ℕ). take n out ++ t) (sym (ap (λ (v : List Sign). text_of (first_of v)) z ∙ c.0)) ∙ sym g.text;
              splits = u ∙ sym (g.splits ∙ split-here split n (split_of (first s i)) (ap (λ (v : List Sign). split_of (first_of v)) z ∙ c.1));
              rest = g.rest ∙ ap rest_of z ∙ c.2;
              few = omega (arith, g.written);
              fits = omega (arith, g.written, g.room);
              on = λ j t. let same : next ≡ j = same_Some next j t in (omega (arith, g.written), omega arith);
            }

  pub gathering_ends : (r : ℕ) → length s ≤ i → r ≡ unwrap_or split n → PieceOf s at out (record { len = n; split = r; next = None })
  gathering_ends r h u =
      let z : signs_from s i ≡ signs_of false [] = ap (signs_of false) (drop_of_length-le s h) in
      record {
        text = sym (append-nil (take n out)) ∙ ap (λ (t : List ℕ). take n out ++ t) (sym (ap (λ (v : List Sign). text_of (first_of v)) z ∙ end_text.0)) ∙ sym g.text;
        splits = u ∙ sym (g.splits ∙ split-here split n (split_of (first s i)) (ap (λ (v : List Sign). split_of (first_of v)) z ∙ end_text.1));
        rest = g.rest ∙ ap rest_of z ∙ end_text.2;
        few = omega (arith, g.written, g.within);
        fits = omega (arith, g.written, g.room, g.within);
        on = λ j t. absurd (none-some j t);
      }
