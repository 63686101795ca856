-- What the code's tests on the bytes of a value come to.
-- A law for each test that the code makes of a byte or a value: the test is that of the definition, so what the code writes in a branch
-- equals what the definition has there, and room and what was written carry over by that equation. The loop over the bytes between the
-- quotes keeps `Escaping`: what is written and then the escaped form of the bytes left make the whole (base's `Wrote`). A string is a
-- quote, what the loop writes, and a quote, one behind another (`string_puts`).
-- Assumes nothing.
use Prim.Native.Nat.{ℕ, ◌+◌, ◌≤◌, ◌<◌, zero-le}
use native.Mathlib.Omega.{arith}
use mathlib.Core.Path.{◌≡◌, refl, sym, ap, ◌∙◌}
use mathlib.Core.Bool.{Bool, true, false, cond, not}
use mathlib.Core.List.{List, [], ◌∷◌, ◌++◌}
use lib.Dec.{eqb}
use lib.ListN.{length, get_or, take, drop, drop_of_length-le}
use borrow.Author.Tests.{eq-eqb, ne_eqb, le-leb, lt-leb}
use Rattle.base.specs.Lists.{every}
use Rattle.base.proofs.Lists.{drop-next}
use Rattle.syntax.specs.Strings.{quote, backslash, is_bare, is_plain}
use Rattle.syntax.specs.Scan.{decode, contents, Decoded}
use Rattle.plain.specs.Plain.{is_word, escape_of, escaped, plain_value}
use Rattle.base.specs.Writing.{Room, Puts}
use Rattle.plain.specs.Writing.{escaped_byte, quoted}
use Rattle.base.proofs.Writing.{room_same, puts_same, lent, back, Wrote, wrote_start, wrote_room, wrote_fits, wrote_next, wrote_end, first_room, first-within, second_room, second_wrote, third_room, third_wrote}

-- ---- a byte between the quotes

pub plain_low : (b : ℕ) → b < 0x20 → false ≡ is_plain b
unfolding is_plain
plain_low b h = rw (lt-leb 0x20 b h)

module _ (b : ℕ) (l : 0x20 ≤ b) where
  pub plain-quote : b ≡ quote → not (eqb b quote) ≡ is_plain b
  unfolding is_plain
  plain-quote e = rw (le-leb 0x20 b l, eq-eqb b quote e)

  pub plain_other : (b ≡ quote → ⊥) → not (eqb b backslash) ≡ is_plain b
  unfolding is_plain
  plain_other e = rw (le-leb 0x20 b l, ne_eqb b quote e)

pub escape_other : (b : ℕ) → (b ≡ 0x08 → ⊥) → (b ≡ 0x0c → ⊥) → (b ≡ 0x0a → ⊥) → (b ≡ 0x0d → ⊥) → (b ≡ 0x09 → ⊥) → b ≡ escape_of b
unfolding escape_of
escape_other b h i j k l = rw (ne_eqb b 0x08 h, ne_eqb b 0x0c i, ne_eqb b 0x0a j, ne_eqb b 0x0d k, ne_eqb b 0x09 l)

module _ (b : ℕ) (r : Bool) (e : r ≡ is_plain b) where
  module _ (t : r ≡ true) where
    escaped-plain : b ∷ [] ≡ escaped_byte b
    unfolding escaped_byte
    escaped-plain = rw (sym e ∙ t)

    pub plain_room : {part : List ℕ} → Room (escaped_byte b) part → Room (b ∷ []) part
    plain_room = room_same (sym escaped-plain)

    pub puts_plain : {part exit : List ℕ} {n : ℕ} → Puts (b ∷ []) part exit n → Puts (escaped_byte b) part exit n
    puts_plain = puts_same escaped-plain

  module _ (t : r ≡ false) (x : ℕ) (h : x ≡ escape_of b) where
    escaped_not : backslash ∷ x ∷ [] ≡ escaped_byte b
    unfolding escaped_byte
    escaped_not = rw (sym e ∙ t, h)

    pub escape_room : {part : List ℕ} → Room (escaped_byte b) part → Room (backslash ∷ x ∷ []) part
    escape_room = room_same (sym escaped_not)

    pub puts_escape : {part exit : List ℕ} {n : ℕ} → Puts (backslash ∷ x ∷ []) part exit n → Puts (escaped_byte b) part exit n
    puts_escape = puts_same escaped_not

-- the first byte, and those after it
pub escaped_cons : (b : ℕ) (v : List ℕ) → escaped (b ∷ v) ≡ escaped_byte b ++ escaped v
unfolding escaped escaped_byte
escaped_cons b v = go (is_plain b)
  where
    go : (t : Bool) → cond t (b ∷ escaped v) (backslash ∷ escape_of b ∷ escaped v) ≡ cond t (b ∷ []) (backslash ∷ escape_of b ∷ []) ++ escaped v
    go true = refl
    go false = refl

-- ---- the bytes between the quotes, of which those of the first i bytes of the value are written

pub record Escaping (v entry out : List ℕ) (i n : ℕ) : Type 0 where
  pub few : i ≤ length v
  pub wrote : Wrote (escaped v) (escaped (drop i v)) entry out n

pub escaping_start : (v out : List ℕ) → Room (escaped v) out → Escaping v out out 0 0
escaping_start v out h = record { few = zero-le; wrote = wrote_start (escaped v) out h }

module _ {v entry out : List ℕ} {i n : ℕ} (w : Escaping v entry out i n) where
  module _ (h : i < length v) where
    escaping : escaped (drop i v) ≡ escaped_byte (get_or v i 0) ++ escaped (drop (i + 1) v)
    escaping = ap escaped (drop-next v i h) ∙ escaped_cons (get_or v i 0) (drop (i + 1) v)

    pub escaping_room : Room (escaped_byte (get_or v i 0)) (lent out n)
    escaping_room = wrote_room w.wrote (escaped_byte (get_or v i 0)) (escaped (drop (i + 1) v)) escaping

    module _ {exit : List ℕ} {k : ℕ} (q : Puts (escaped_byte (get_or v i 0)) (lent out n) exit k) where
      pub escaping_fits : n + k ≤ length out
      escaping_fits = wrote_fits w.wrote (escaped_byte (get_or v i 0)) (escaped (drop (i + 1) v)) escaping q

      pub escaping_next : Escaping v entry (back out n exit) (i + 1) (n + k)
      escaping_next = record { few = omega arith; wrote = wrote_next w.wrote (escaped_byte (get_or v i 0)) (escaped (drop (i + 1) v)) escaping q }

  pub escaping_end : length v ≤ i → Puts (escaped v) entry out n
  unfolding escaped
  escaping_end h = wrote_end w.wrote (ap escaped (drop_of_length-le v h))

-- ---- a value

pub word_empty : (v : List ℕ) → length v ≡ 0 → false ≡ is_word v
unfolding is_word
word_empty [] h = refl
word_empty (b ∷ v) h = absurd (omega arith)

pub word-quoted : (v : List ℕ) → (length v ≡ 0 → ⊥) → get_or v 0 0 ≡ quote → false ≡ is_word v
unfolding is_word
word-quoted [] n h = absurd (n refl)
word-quoted (b ∷ v) n h = rw (eq-eqb b quote h)

pub word_bare : (v : List ℕ) → (length v ≡ 0 → ⊥) → (get_or v 0 0 ≡ quote → ⊥) → (r : Bool) → r ≡ every is_bare v → r ≡ is_word v
unfolding is_word
word_bare [] n h r e = absurd (n refl)
word_bare (b ∷ v) n h r e = rw (ne_eqb b quote h) e

module _ (v : List ℕ) (r : Bool) (e : r ≡ is_word v) where
  module _ (t : r ≡ true) where
    value-word : v ≡ plain_value v
    unfolding plain_value
    value-word = rw (sym e ∙ t)

    pub word_room : {part : List ℕ} → Room (plain_value v) part → Room v part
    word_room = room_same (sym value-word)

    pub puts_word : {part exit : List ℕ} {n : ℕ} → Puts v part exit n → Puts (plain_value v) part exit n
    puts_word = puts_same value-word

  module _ (t : r ≡ false) where
    value-string : quoted v ≡ plain_value v
    unfolding plain_value quoted
    value-string = rw (sym e ∙ t)

    pub string_room : {part : List ℕ} → Room (plain_value v) part → Room (quoted v) part
    string_room = room_same (sym value-string)

    pub puts_string : {part exit : List ℕ} {n : ℕ} → Puts (quoted v) part exit n → Puts (plain_value v) part exit n
    puts_string = puts_same value-string

-- ---- a string: a quote, the bytes between, a quote

module _ (v out : List ℕ) (h : Room (quoted v) out) where
  parts : Room ((quote ∷ []) ++ (escaped v ++ (quote ∷ []))) out
  unfolding quoted
  parts = h

  pub quote_room : Room (quote ∷ []) out
  quote_room = first_room (quote ∷ []) (escaped v ++ (quote ∷ [])) out parts

  module _ {out₁ : List ℕ} {n : ℕ} (p : Puts (quote ∷ []) out out₁ n) where
    pub quote-within : n ≤ length out₁
    quote-within = first-within (quote ∷ []) (escaped v ++ (quote ∷ [])) out parts p

    pub between_room : Room (escaped v) (lent out₁ n)
    between_room = second_room (quote ∷ []) (escaped v) (quote ∷ []) out parts p

    module _ {exit : List ℕ} {k : ℕ} (q : Puts (escaped v) (lent out₁ n) exit k) where
      between_wrote : Wrote (quoted v) (quote ∷ []) out (back out₁ n exit) (n + k)
      unfolding quoted
      between_wrote = second_wrote (quote ∷ []) (escaped v) (quote ∷ []) out parts p q

      pub between-within : n + k ≤ length (back out₁ n exit)
      between-within = omega (arith, between_wrote.within)

      pub closing_room : Room (quote ∷ []) (lent (back out₁ n exit) (n + k))
      closing_room = third_room (quote ∷ []) (escaped v) (quote ∷ []) out parts p q

      module _ {exit₂ : List ℕ} {m : ℕ} (r : Puts (quote ∷ []) (lent (back out₁ n exit) (n + k)) exit₂ m) where
        string_wrote : Wrote (quoted v) [] out (back (back out₁ n exit) (n + k) exit₂) (n + k + m)
        unfolding quoted
        string_wrote = third_wrote (quote ∷ []) (escaped v) (quote ∷ []) out parts p q r

        pub string_long : length (back (back out₁ n exit) (n + k) exit₂) ≡ length out
        string_long = string_wrote.long

        pub string-within : n + k + m ≤ length out
        string-within = omega (arith, string_wrote.long, string_wrote.within)

        pub string_puts : Puts (quoted v) out (back (back out₁ n exit) (n + k) exit₂) (n + k + m)
        string_puts = wrote_end string_wrote refl

-- ---- a value of the text

module _ (raw buffer : List ℕ) (n : ℕ) (d : Decoded raw buffer n) where
  pub decoded_room : {out : List ℕ} → Room (plain_value (decode false raw)) out → Room (plain_value (take n buffer)) out
  decoded_room = room_same (ap plain_value (sym d.is))

  pub decoded_puts : {out exit : List ℕ} {k : ℕ} → Puts (plain_value (take n buffer)) out exit k → Puts (plain_value (decode false raw)) out exit k
  decoded_puts = puts_same (ap plain_value d.is)

module _ (value : List ℕ) (e : Bool) (raw : List ℕ) (is : value ≡ contents e raw) where
  module _ (h : e ≡ true) where
    value-decoded : value ≡ decode false raw
    value-decoded = is ∙ rw h

    pub value-decoded_room : {out : List ℕ} → Room (plain_value value) out → Room (plain_value (decode false raw)) out
    value-decoded_room = room_same (ap plain_value value-decoded)

    pub value-decoded_puts : {out exit : List ℕ} {k : ℕ} → Puts (plain_value (decode false raw)) out exit k → Puts (plain_value value) out exit k
    value-decoded_puts = puts_same (ap plain_value (sym value-decoded))

  module _ (h : e ≡ false) where
    value_raw : value ≡ raw
    value_raw = is ∙ rw h

    pub value_raw_room : {out : List ℕ} → Room (plain_value value) out → Room (plain_value raw) out
    value_raw_room = room_same (ap plain_value value_raw)

    pub value_raw_puts : {out exit : List ℕ} {k : ℕ} → Puts (plain_value raw) out exit k → Puts (plain_value value) out exit k
    value_raw_puts = puts_same (ap plain_value (sym value_raw))
