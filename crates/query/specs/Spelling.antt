-- Search strings: how they are spelled, in the words of 02's request for them.
-- Assumes nothing.
use Rattle.std.specs.Prelude.{ℕ, ◌+◌, ◌*◌, ◌≤◌, ◌<◌, ◌≡◌, length}
use Prim.Native.Char.{code}
use mathlib.Core.List.{List, [], ◌∷◌, ◌++◌, flatten}
use Rattle.base.specs.Lists.{All}
use Rattle.base.specs.Split.{Without}
use Rattle.text.specs.Bar.{bar}
use Rattle.syntax.specs.Strings.{backslash}

-- the bytes that cut and encode a search string
abbrev pub ampersand : ℕ
ampersand = code "&"

abbrev pub equals : ℕ
equals = code "="

abbrev pub percent : ℕ
percent = code "%"

abbrev pub plus : ℕ
plus = code "+"

abbrev pub comma : ℕ
comma = code ","

-- a hex digit and its value, in either case
pub data HexDigit : ℕ → ℕ → Type 0 where
  hex_digit : {n : ℕ} → n < 10 → HexDigit (code "0" + n) n
  hex_capital : {n : ℕ} → n < 6 → HexDigit (code "A" + n) (10 + n)
  hex_small : {n : ℕ} → n < 6 → HexDigit (code "a" + n) (10 + n)

-- what a name or a value stands for: "in names and values "+" is a space and % with two hex digits a byte"
pub data Encodes : List ℕ → List ℕ → Type 0 where
  encodes_end : Encodes [] []
  encodes_byte : {b : ℕ} {s v : List ℕ} → (b ≡ plus → ⊥) → (b ≡ percent → ⊥) → Encodes s v → Encodes (b ∷ s) (b ∷ v)
  encodes_space : {s v : List ℕ} → Encodes s v → Encodes (plus ∷ s) (0x20 ∷ v)
  encodes_percent : {h l x y : ℕ} {s v : List ℕ} → HexDigit h x → HexDigit l y → Encodes s v → Encodes (percent ∷ h ∷ l ∷ s) ((x * 16 + y) ∷ v)

-- what a decoded value is made of: bytes, and the commas and bars that no backslash makes plain
pub data Sign : Type 0 where
  byte : ℕ → Sign
  cut : Sign
  split : Sign

-- "a comma, "|", "$" or backslash"
pub data Special : ℕ → Type 0 where
  special_comma : Special (code ",")
  special_bar : Special (code "|")
  special_dollar : Special (code "$")
  special_backslash : Special (code "\\")

-- the bytes begin with one of them
pub data BeginsSpecial : List ℕ → Type 0 where
  begins-special : {b : ℕ} (s : List ℕ) → Special b → BeginsSpecial (b ∷ s)

-- a decoded value as signs
pub data Signs : List ℕ → List Sign → Type 0 where
  signs_end : Signs [] []
  -- "a comma, "|", "$" or backslash after a backslash is plain"
  signs_plain : {b : ℕ} {s : List ℕ} {v : List Sign} → Special b → Signs s v → Signs (backslash ∷ b ∷ s) (byte b ∷ v)
  -- "any other backslash is itself"
  signs_backslash : {s : List ℕ} {v : List Sign} → (BeginsSpecial s → ⊥) → Signs s v → Signs (backslash ∷ s) (byte backslash ∷ v)
  signs_cut : {s : List ℕ} {v : List Sign} → Signs s v → Signs (comma ∷ s) (cut ∷ v)
  signs_split : {s : List ℕ} {v : List Sign} → Signs s v → Signs (bar ∷ s) (split ∷ v)
  signs_byte : {b : ℕ} {s : List ℕ} {v : List Sign} → (b ≡ backslash → ⊥) → (b ≡ comma → ⊥) → (b ≡ bar → ⊥) → Signs s v → Signs (b ∷ s) (byte b ∷ v)

-- no comma cuts the signs
abbrev pub Uncut : List Sign → Type 0
Uncut w = All (λ (x : Sign). x ≡ cut → ⊥) w

-- "commas in the value give alternatives": what joins back to the signs, none with a cut in it
pub data Pieces : List Sign → List (List Sign) → Type 0 where
  last_piece : {w : List Sign} → Uncut w → Pieces w (w ∷ [])
  next_piece : {w v : List Sign} {ws : List (List Sign)} → Uncut w → Pieces v ws → Pieces (w ++ (cut ∷ v)) (w ∷ ws)

-- the bytes of an alternative: each sign's own, and a bar for one that splits
pub data TextIs : List Sign → List ℕ → Type 0 where
  text_end : TextIs [] []
  text_byte : {b : ℕ} {w : List Sign} {t : List ℕ} → TextIs w t → TextIs (byte b ∷ w) (b ∷ t)
  text_bar : {w : List Sign} {t : List ℕ} → TextIs w t → TextIs (split ∷ w) (bar ∷ t)

-- no bar splits the signs
abbrev pub Unsplit : List Sign → Type 0
Unsplit w = All (λ (x : Sign). x ≡ split → ⊥) w

-- where a token is split: at the first bar that is not plain, so that what is before it has none; or at the end
pub data SplitAt : List Sign → ℕ → Type 0 where
  split_none : {w : List Sign} → Unsplit w → SplitAt w (length w)
  split_first : {w : List Sign} (rest : List Sign) → Unsplit w → SplitAt (w ++ (split ∷ rest)) (length w)

-- no bar of the signs is made plain by a backslash
abbrev pub NoPlainBar : List Sign → Type 0
NoPlainBar w = All (λ (x : Sign). x ≡ byte bar → ⊥) w

-- an alternative: the first byte of its pair, the pair's name, its text, and where a token is split
pub record Alternative : Type 0 where
  pub at : ℕ
  pub name : List ℕ
  pub text : List ℕ
  pub split : ℕ

-- the alternatives of the pair at p, by their parameter's name and their signs
pub data AlternativesAre (p : ℕ) (n : List ℕ) : List (List Sign) → List Alternative → Type 0 where
  alternatives_end : AlternativesAre p n [] []
  alternatives_next : {w : List Sign} {ws : List (List Sign)} {t : List ℕ} {i : ℕ} {rest : List Alternative} → TextIs w t → SplitAt w i → AlternativesAre p n ws rest
      → AlternativesAre p n (w ∷ ws) (record { at = p; name = n; text = t; split = i } ∷ rest)

-- a pair is the list of its alternatives, which is not empty
abbrev pub Query : Type 0
Query = List (List Alternative)

-- all alternatives, in the order of the text
abbrev pub alternatives_of : Query → List Alternative
alternatives_of = flatten

-- "each cut at its first "=""; "decoded after those cuts and before the one at commas"
pub data PairAt : ℕ → List ℕ → List Alternative → Type 0 where
  a_pair : {p : ℕ} {m n w u : List ℕ} {v : List Sign} {ws : List (List Sign)} {a : List Alternative} → Without ampersand m → Without equals m → Without ampersand w
      → Encodes m n → Encodes w u → Signs u v → Pieces v ws → AlternativesAre p n ws a → PairAt p (m ++ (equals ∷ w)) a

-- "pairs joined by "&""
pub data PairsAt : ℕ → List ℕ → Query → Type 0 where
  last_pair : {p : ℕ} {s : List ℕ} {a : List Alternative} → PairAt p s a → PairsAt p s (a ∷ [])
  next_pair : {p : ℕ} {s xs : List ℕ} {a : List Alternative} {q : Query} → PairAt p s a → PairsAt (p + length s + 1) xs q → PairsAt p (s ++ (ampersand ∷ xs)) (a ∷ q)

-- the whole string; "at most 1,024 bytes and 32 alternatives in all"
pub record SpellsQuery (xs : List ℕ) (q : Query) : Type 0 where
  pub not-empty : xs ≡ [] → ⊥
  pub short : length xs ≤ 1024
  pub pairs : PairsAt 0 xs q
  pub few : length (alternatives_of q) ≤ 32
