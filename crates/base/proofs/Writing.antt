-- Writing into a part of a buffer, one text after another.
-- An invariant carries it. `Wrote`: of a text that is put piece by piece, what stands and what is to come make the whole. So a piece has
-- room because the whole had (`wrote_room`), and putting it leaves the rest to come (`wrote_next`, by `puts_append`). The laws of two and of
-- three texts are instances of it.
-- Assumes nothing.
use Prim.Native.Nat.{ℕ, ◌+◌, ◌-◌, ◌≤◌}
use native.Mathlib.Omega.{arith}
use mathlib.Core.Path.{◌≡◌, refl, sym, ap, ◌∙◌}
use mathlib.Core.List.{List, [], ◌++◌, append_assoc, append-nil}
use lib.ListN.{length, take, drop, length-append, length-drop, drop_of_length-le}
use lib.Seq.{take_all, drop-drop, drop_at, take_at, length-take-le}
use Rattle.base.specs.Writing.{Room, Puts}

-- ---- a text that is another's

pub room_same : {w v part : List ℕ} → w ≡ v → Room w part → Room v part
room_same e h = record { fits = omega (arith, h.fits, ap length e) }

pub puts_same : {w v part exit : List ℕ} {n : ℕ} → w ≡ v → Puts w part exit n → Puts v part exit n
puts_same {part = part} {n = n} e p = record { long = p.long ∙ ap length e; bytes = p.bytes ∙ ap (λ (x : List ℕ). x ++ drop n part) e }

-- ---- one text after another: of the text `all`, n bytes stand, and `left` is to come

-- what `&mut out[n..]` lends, and the buffer when it is back
abbrev pub lent : List ℕ → ℕ → List ℕ
lent out n = take (length out - n) (drop n out)

abbrev pub back : List ℕ → ℕ → List ℕ → List ℕ
back out n exit = take n out ++ (exit ++ drop (length out - n) (drop n out))

pub record Wrote (all left entry out : List ℕ) (n : ℕ) : Type 0 where
  pub done : List ℕ
  pub whole : all ≡ done ++ left
  pub puts : Puts done entry out n
  pub long : length out ≡ length entry
  pub within : n + length left ≤ length out

lent_is : (out : List ℕ) (n : ℕ) → lent out n ≡ drop n out
lent_is out n = take_all (length out - n) (drop n out) (omega (arith, length-drop n out))

nothing_after : (out : List ℕ) (n : ℕ) → drop (length out - n) (drop n out) ≡ []
nothing_after out n = drop_of_length-le (drop n out) {i = length out - n} (omega (arith, length-drop n out))

pub puts_length : {w part exit : List ℕ} {n : ℕ} → Puts w part exit n → n ≤ length part → length exit ≡ length part
puts_length {w} {part} {exit} {n} p h = omega (arith, ap length p.bytes, length-append w (drop n part), length-drop n part, p.long)

-- a text that stands may be put once more
pub puts_stay : {w part out : List ℕ} {n : ℕ} → Puts w part out n → Puts w out out n
puts_stay {w} {part} {out} {n} p =
    record { long = p.long; bytes = p.bytes ∙ ap (λ (x : List ℕ). w ++ x) (sym (ap (drop n) p.bytes ∙ drop_at w (drop n part) n (sym p.long))) }

-- a text over another that is no longer
pub puts_over : {w v part out exit : List ℕ} {n k : ℕ} → Puts w part out n → length w ≤ length v → Puts v out exit k → Puts v part exit k
puts_over {w} {v} {part} {out} {exit} {n} {k} p h q =
    let m : ℕ = k - n in
    let sum : k ≡ n + m = omega (arith, p.long, q.long) in
    let rest : drop k out ≡ drop k part =
    ap (λ (x : ℕ). drop x out) sum ∙ sym (drop-drop m n out) ∙ ap (drop m) (ap (drop n) p.bytes ∙ drop_at w (drop n part) n (sym p.long)) ∙ drop-drop m n part ∙ ap (λ (x : ℕ). drop x part) (sym sum) in
    record { long = q.long; bytes = q.bytes ∙ ap (λ (x : List ℕ). v ++ x) rest }

-- two texts, one after the other
pub puts_append : {w v part out exit : List ℕ} {n k : ℕ} → Puts w part out n → Puts v (lent out n) exit k → Puts (w ++ v) part (back out n exit) (n + k)
puts_append {w} {v} {part} {out} {exit} {n} {k} p q =
    let front : take n out ≡ w = ap (take n) p.bytes ∙ take_at w (drop n part) n (sym p.long) in
    let rest : drop n out ≡ drop n part = ap (drop n) p.bytes ∙ drop_at w (drop n part) n (sym p.long) in
    let given : drop k (lent out n) ≡ drop (n + k) part = ap (drop k) (lent_is out n ∙ rest) ∙ drop-drop k n part in
    record {
      long = omega (arith, p.long, q.long, length-append w v);
      bytes = rw (nothing_after out n, front, q.bytes, given, append-nil) (sym (append_assoc w v (drop (n + k) part)));
    }

pub wrote_start : (all out : List ℕ) → Room all out → Wrote all all out out 0
wrote_start all out h = record { done = []; whole = refl; puts = record { long = refl; bytes = refl }; long = refl; within = omega (arith, h.fits) }

module _ {all left entry out : List ℕ} {n : ℕ} (w : Wrote all left entry out n) where
  -- there is room for the next text
  pub wrote_room : (v left' : List ℕ) → left ≡ v ++ left' → Room v (lent out n)
  wrote_room v left' e = record { fits = rw (lent_is out n, length-drop) (omega (arith, w.within, ap length e, length-append v left')) }

  pub wrote_next : (v left' : List ℕ) → left ≡ v ++ left' → {exit : List ℕ} {k : ℕ} → Puts v (lent out n) exit k → Wrote all left' entry (back out n exit) (n + k)
  wrote_next v left' e {exit} {k} q =
      let room : length v ≤ length (lent out n) = (wrote_room v left' e).fits in
      let same : length exit ≡ length (lent out n) = puts_length q (omega (arith, q.long)) in
      let size : length (lent out n) ≡ length out - n = ap length (lent_is out n) ∙ length-drop n out in
      let total : length (back out n exit) ≡ length out = omega (arith, length-append (take n out) (exit ++ drop (length out - n) (drop n out)), length-append exit (drop (length out - n) (drop n out)), ap length (nothing_after out n), length-take-le n out (omega (arith, w.within)), w.within) in
      record {
        done = w.done ++ v;
        whole = w.whole ∙ ap (λ (x : List ℕ). w.done ++ x) e ∙ sym (append_assoc w.done v left');
        puts = puts_append w.puts q;
        long = total ∙ w.long;
        within = omega (arith, w.within, ap length e, length-append v left', q.long, total);
      }

  pub wrote_fits : (v left' : List ℕ) → left ≡ v ++ left' → {exit : List ℕ} {k : ℕ} → Puts v (lent out n) exit k → n + k ≤ length out
  wrote_fits v left' e q = omega (arith, w.within, ap length e, length-append v left', q.long)

  pub wrote_end : left ≡ [] → Puts all entry out n
  wrote_end e = puts_same (sym (w.whole ∙ ap (λ (x : List ℕ). w.done ++ x) e ∙ append-nil w.done)) w.puts

-- ---- two texts, as a writer puts them: room for each, the sum, and the whole

module _ (a b out : List ℕ) (h : Room (a ++ b) out) where
  pub first_room : Room a out
  first_room = record { fits = omega (arith, h.fits, length-append a b) }

  module _ {out₁ : List ℕ} {n : ℕ} (p : Puts a out out₁ n) where
    pub first_wrote : Wrote (a ++ b) b out out₁ n
    first_wrote =
        let long : length out₁ ≡ length out = puts_length p (omega (arith, h.fits, p.long, length-append a b)) in
        record { done = a; whole = refl; puts = p; long = long; within = omega (arith, h.fits, p.long, length-append a b) }

    pub first-within : n ≤ length out₁
    first-within = omega (arith, first_wrote.within)

    pub last_room : Room b (lent out₁ n)
    last_room = wrote_room first_wrote b [] (sym (append-nil b))

    pub last_wrote : {exit : List ℕ} {k : ℕ} → Puts b (lent out₁ n) exit k → Wrote (a ++ b) [] out (back out₁ n exit) (n + k)
    last_wrote q = wrote_next first_wrote b [] (sym (append-nil b)) q

-- ---- and three

module _ (a b c out : List ℕ) (h : Room (a ++ (b ++ c)) out) {out₁ : List ℕ} {n : ℕ} (p : Puts a out out₁ n) where
  pub second_room : Room b (lent out₁ n)
  second_room = wrote_room (first_wrote a (b ++ c) out h p) b c refl

  module _ {exit : List ℕ} {k : ℕ} (q : Puts b (lent out₁ n) exit k) where
    pub second_wrote : Wrote (a ++ (b ++ c)) c out (back out₁ n exit) (n + k)
    second_wrote = wrote_next (first_wrote a (b ++ c) out h p) b c refl q

    pub third_room : Room c (lent (back out₁ n exit) (n + k))
    third_room = wrote_room second_wrote c [] (sym (append-nil c))

    pub third_wrote : {exit₂ : List ℕ} {m : ℕ} → Puts c (lent (back out₁ n exit) (n + k)) exit₂ m → Wrote (a ++ (b ++ c)) [] out (back (back out₁ n exit) (n + k) exit₂) (n + k + m)
    third_wrote r = wrote_next second_wrote c [] (sym (append-nil c)) r
