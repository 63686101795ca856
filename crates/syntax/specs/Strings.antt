-- The bytes of values: bare words, and strings between double quotes with their escapes.
-- Assumes nothing.
use Rattle.std.specs.Prelude.{ℕ, ◌≡◌, Bool, true, cond, not, ◌&&◌, List, [], ◌∷◌, eqb, leb}
use Prim.Native.Char.{code}
use Rattle.base.specs.Ascii.{ascii}
use Rattle.base.specs.Lists.{member}

-- the double quote and the backslash
abbrev pub quote : ℕ
quote = 0x22

-- begins an escape
abbrev pub backslash : ℕ
backslash = 0x5c

-- "bytes 0x21 to 0x7E, without ")" and "]""
unfoldable pub is_bare : ℕ → Bool
is_bare b = (leb 0x21 b && leb b 0x7e) && (not (eqb b (code ")")) && not (eqb b (code "]")))

-- "bytes from 0x20 up save double quote and backslash"
unfoldable pub is_plain : ℕ → Bool
is_plain b = leb 0x20 b && (not (eqb b quote) && not (eqb b backslash))

-- the byte may follow a backslash: it is one of the escapes below
unfoldable pub is_escape : ℕ → Bool
is_escape b = member b (quote ∷ code "/" ∷ backslash ∷ ascii "bfnrt")

-- what a backslash and that byte stand for: backspace, form feed, line feed, carriage return, tab, or the byte itself
unfoldable pub unescaped : ℕ → ℕ
unescaped b =
    cond (eqb b (code "b")) 0x08 (cond (eqb b (code "f")) 0x0c (cond (eqb b (code "n")) 0x0a
    (cond (eqb b (code "r")) 0x0d (cond (eqb b (code "t")) 0x09 b))))

-- "the JSON escapes \" \\ \/ \b \f \n \r \t", each with the byte that it stands for
pub data Escape : ℕ → ℕ → Type 0 where
  quotation_mark : Escape 0x22 0x22
  reverse_solidus : Escape 0x5c 0x5c
  solidus : Escape (code "/") 0x2f
  backspace : Escape (code "b") 0x08
  form_feed : Escape (code "f") 0x0c
  line-feed : Escape (code "n") 0x0a
  carriage_return : Escape (code "r") 0x0d
  tabulation : Escape (code "t") 0x09

-- what stands between the quotes, and the value that it writes
pub data Quoted : List ℕ → List ℕ → Type 0 where
  nothing_more : Quoted [] []
  plain : {b : ℕ} {s v : List ℕ} → is_plain b ≡ true → Quoted s v → Quoted (b ∷ s) (b ∷ v)
  escaped : {b u : ℕ} {s v : List ℕ} → Escape b u → Quoted s v → Quoted (backslash ∷ b ∷ s) (u ∷ v)
