-- Lines in a buffer: how long they are, texts one after another, and the numbers of a list line by line.
-- Assumes nothing.
use Prim.Native.Nat.{ℕ, suc, ◌+◌, ◌*◌, ◌^◌, ◌≤◌, ◌<◌, zero-le}
use native.Mathlib.Numerals.{add-one}
use native.Mathlib.Omega.{arith}
use mathlib.Core.Path.{◌≡◌, refl, sym, ap, ◌∙◌}
use mathlib.Core.List.{List, [], ◌∷◌, ◌++◌}
use lib.ListN.{length, get_or, drop, length-append, drop_of_length-le}
use lib.Seq.{drop-cons}
use Rattle.base.specs.Ascii.{ascii}
use Rattle.base.specs.Writing.{Room, Puts}
use Rattle.base.proofs.Writing.{lent, back, Wrote, wrote_start, wrote_room, wrote_next, wrote_end, third_wrote}
use Rattle.listing.specs.Lines.{decimal, line_feed, labelled, number_line, lines, refusal_line, count_line}
use Rattle.listing.proofs.Decimal.{decimal-length}

-- ---- room for the lines

labelled-length : (word : List ℕ) (n : ℕ) → n < 2 ^ 64 → length (labelled word n) ≤ length word + 20
labelled-length word n h = omega (arith, length-append word (decimal n), decimal-length n h)

pub lines-length : (ns : List ℕ) → ((i : ℕ) → get_or ns i 0 < 2 ^ 64) → length (lines ns) ≤ 21 * length ns
unfolding lines
lines-length [] h = omega arith
lines-length (n ∷ ns) h =
    omega (arith, length-append (decimal n ++ line_feed) (lines ns), length-append (decimal n) line_feed, decimal-length n (h 0), lines-length ns (λ i. h (suc i)))

module _ (out : List ℕ) where
  pub refusal_room : (number place : ℕ) → number < 2 ^ 64 → place < 2 ^ 64 → 64 ≤ length out → Room (refusal_line number place) out
  refusal_room number place h k l =
      record { fits = omega (arith, length-append (labelled (ascii "refused ") number) (labelled (ascii " at ") place ++ line_feed), length-append (labelled (ascii " at ") place) line_feed, labelled-length (ascii "refused ") number h, labelled-length (ascii " at ") place k) }

  pub count_room : (matches cards : ℕ) → matches < 2 ^ 64 → cards < 2 ^ 64 → 64 ≤ length out → Room (count_line matches cards) out
  count_room matches cards h k l =
      record { fits = omega (arith, length-append (decimal matches) (labelled (ascii " of ") cards ++ line_feed), length-append (labelled (ascii " of ") cards) line_feed, decimal-length matches h, labelled-length (ascii " of ") cards k) }

-- ---- three texts, one behind another

pub three_puts : (a b c out : List ℕ) → Room (a ++ (b ++ c)) out → {out₁ : List ℕ} {n : ℕ} → Puts a out out₁ n → {exit : List ℕ} {k : ℕ} → Puts b (lent out₁ n) exit k
    → {exit₂ : List ℕ} {m : ℕ} → Puts c (lent (back out₁ n exit) (n + k)) exit₂ m → Puts (a ++ (b ++ c)) out (back (back out₁ n exit) (n + k) exit₂) (n + k + m)
three_puts a b c out h p q r = wrote_end (third_wrote a b c out h p q r) refl

-- ---- the numbers of a list: i lines stand, in `at` bytes

pub record LinesPut (ns entry out : List ℕ) (at i : ℕ) : Type 0 where
  pub few : i ≤ length ns
  pub wrote : Wrote (lines ns) (lines (drop i ns)) entry out at

pub lines_begin : (ns out : List ℕ) → ((i : ℕ) → get_or ns i 0 < 2 ^ 64) → 21 * length ns ≤ length out → LinesPut ns out out 0 0
lines_begin ns out h k = record { few = zero-le; wrote = wrote_start (lines ns) out (record { fits = omega (arith, lines-length ns h) }) }

-- the numbers from i on begin with the line of the next one
next_line : (ns : List ℕ) (i : ℕ) → i < length ns → lines (drop i ns) ≡ number_line (get_or ns i 0) ++ lines (drop (i + 1) ns)
unfolding lines
next_line ns i h = ap lines (drop-cons ns i 0 h) ∙ rw (add-one i)

module _ {ns entry out : List ℕ} {at i : ℕ} (l : LinesPut ns entry out at i) where
  module _ (h : i < length ns) {x : ℕ} (e : x ≡ get_or ns i 0) where
    next : lines (drop i ns) ≡ number_line x ++ lines (drop (i + 1) ns)
    next = next_line ns i h ∙ ap (λ (n : ℕ). number_line n ++ lines (drop (i + 1) ns)) (sym e)

    pub line_room : Room (number_line x) (lent out at)
    line_room = wrote_room l.wrote (number_line x) (lines (drop (i + 1) ns)) next

    pub line_put : {exit : List ℕ} {k : ℕ} → Puts (number_line x) (lent out at) exit k → LinesPut ns entry (back out at exit) (at + k) (i + 1)
    line_put p = record { few = omega arith; wrote = wrote_next l.wrote (number_line x) (lines (drop (i + 1) ns)) next p }

  pub lines_end : length ns ≤ i → Puts (lines ns) entry out at
  unfolding lines
  lines_end h = wrote_end l.wrote (ap lines (drop_of_length-le ns {i = i} h))
