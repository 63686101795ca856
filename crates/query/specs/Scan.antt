-- What the reader's code answers: the byte at a position of a name or a value, what stands at a position of a decoded value, an alternative.
-- Assumes nothing.
use Rattle.std.specs.Prelude.{ℕ, ◌+◌, ◌≤◌, ◌<◌, ◌≡◌, false, cond, List, [], ◌∷◌, map, eqb, ltb, length, get_or, take, drop, Option, Some, None}
use Rattle.text.specs.Bar.{bar}
use Rattle.syntax.specs.Strings.{backslash}
use Rattle.query.specs.Spelling.{percent, plus, comma, Sign, byte, cut, split}
use Rattle.refusal.specs.Steps.{found, stop}
use Rattle.query.specs.Reader.{hex_value, hex_byte, decoded, signs_of, read_pair, is_special, cut_signs, text_of, split_of, alternative}
use Rattle.query.specs.declared.DecodedByte.{DecodedByte}
use Rattle.query.specs.declared.Mark.{Mark}
use Rattle.query.specs.declared.Piece.{Piece}
use Rattle.query.specs.declared.PairLengths.{PairLengths}

-- ---- decoding

abbrev pub unit_of : Option ℕ → ℕ → Option DecodedByte
unit_of (Some b) next = Some (record { byte = b; next = next })
unit_of None next = None

unfoldable pub unit_at : List ℕ → ℕ → Option DecodedByte
unit_at raw i =
    cond (eqb (get_or raw i 0) percent) (cond (ltb (i + 2) (length raw)) (unit_of (hex_byte (hex_value (get_or raw (i + 1) 0)) (hex_value (get_or raw (i + 2) 0))) (i + 3)) None)
    (unit_of (Some (cond (eqb (get_or raw i 0) plus) 0x20 (get_or raw i 0))) (i + 1))

-- what `decode` leaves: the first bytes of out are the decoded ones
pub data DecodesTo (raw out : List ℕ) : Option ℕ → Type 0 where
  decodes_bytes : {n : ℕ} → decoded raw ≡ Some (take n out) → n ≤ length raw → DecodesTo raw out (Some n)
  decodes_bad : decoded raw ≡ None → DecodesTo raw out None

-- ---- alternatives

unfoldable pub mark_at : List ℕ → ℕ → Mark
mark_at s i =
    cond (eqb (get_or s i 0) backslash)
    (cond (ltb (i + 1) (length s)) (cond (is_special (get_or s (i + 1) 0)) (Mark.Byte (get_or s (i + 1) 0) (i + 2)) (Mark.Byte backslash (i + 1))) (Mark.Byte backslash (i + 1)))
    (cond (eqb (get_or s i 0) comma) (Mark.Cut (i + 1)) (cond (eqb (get_or s i 0) bar) (Mark.Split (i + 1)) (Mark.Byte (get_or s i 0) (i + 1))))

-- the signs up to the first cut, and the alternatives after it
unfoldable pub first_of : List Sign → List Sign
first_of [] = []
first_of (cut ∷ v) = []
first_of (byte b ∷ v) = byte b ∷ first_of v
first_of (split ∷ v) = split ∷ first_of v

unfoldable pub rest_of : List Sign → List (List Sign)
rest_of [] = []
rest_of (cut ∷ v) = cut_signs v
rest_of (byte b ∷ v) = rest_of v
rest_of (split ∷ v) = rest_of v

-- the signs of the value from a position on
abbrev pub signs_from : List ℕ → ℕ → List Sign
signs_from s i = signs_of false (drop i s)

-- the alternatives of the value from a position on, if one begins there
abbrev pub cut_from : List ℕ → Option ℕ → List (List Sign)
cut_from s (Some i) = cut_signs (signs_from s i)
cut_from s None = []

-- what `next_alternative` leaves: the first bytes of out are the alternative's text
pub record PieceOf (s : List ℕ) (at : ℕ) (out : List ℕ) (r : Piece) : Type 0 where
  pub text : take r.len out ≡ text_of (first_of (signs_from s at))
  pub splits : r.split ≡ split_of (first_of (signs_from s at))
  pub rest : rest_of (signs_from s at) ≡ cut_from s r.next
  pub few : at + r.len ≤ length s
  pub fits : r.len ≤ length out
  -- the next one begins behind its text and a comma
  pub on : (i : ℕ) → r.next ≡ Some i → (at + r.len < i) × (i ≤ length s)

-- ---- a pair

-- what `read_pair` leaves, wherever the pair begins
pub data PairOf (pair name value : List ℕ) : Option PairLengths → Type 0 where
  pair-of : {n m : ℕ} → ((p : ℕ) → read_pair p pair ≡ found (map (alternative p (take n name)) (cut_signs (signs_of false (take m value))))) → n + m < length pair → PairOf pair name value (Some (record { name = n; value = m }))
  pair_of_none : ((p : ℕ) → read_pair p pair ≡ stop 50 p) → PairOf pair name value None
