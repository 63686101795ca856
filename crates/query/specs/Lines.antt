-- Lines 10, 50 and 51 of the table of refusals, in words.
-- Assumes nothing.
use Rattle.std.specs.Prelude.{ℕ, ◌+◌, ◌<◌, ◌≡◌, ◌⊎◌, List, ◌∷◌, ◌++◌, length}
use Rattle.base.specs.Split.{Without}
use Rattle.query.specs.Spelling.{ampersand, equals, percent, HexDigit, Query, alternatives_of, PairsAt}

-- a part between ampersands and its first byte, where the text's first byte is p
pub data PartAt : ℕ → List ℕ → ℕ → List ℕ → Type 0 where
  part_last : {p : ℕ} {s : List ℕ} → Without ampersand s → PartAt p s p s
  part_first : {p : ℕ} {s : List ℕ} (xs : List ℕ) → Without ampersand s → PartAt p (s ++ (ampersand ∷ xs)) p s
  part_later : {p at : ℕ} {h xs s : List ℕ} → Without ampersand h → PartAt (p + length h + 1) xs at s → PartAt p (h ++ (ampersand ∷ xs)) at s

-- two hex digits stand first
pub data TwoHexDigits : List ℕ → Type 0 where
  two_hex_digits : {h l x y : ℕ} (s : List ℕ) → HexDigit h x → HexDigit l y → TwoHexDigits (h ∷ l ∷ s)

-- "a bad %": one that no two hex digits follow
pub data BadPercent : List ℕ → Type 0 where
  bad_here : {s : List ℕ} → (TwoHexDigits s → ⊥) → BadPercent (percent ∷ s)
  bad_later : {b : ℕ} {s : List ℕ} → BadPercent s → BadPercent (b ∷ s)

-- "a bad % or no "=""
pub data BadPart (s : List ℕ) : Type 0 where
  bad_percent : BadPercent s → BadPart s
  no_equals : Without equals s → BadPart s

-- the lines about a search string, whatever the sheet
pub data QueryLine (text : List ℕ) : ℕ → ℕ → Type 0 where
  -- as of a filter: "empty or over 1,024 bytes"
  line_10 : (length text ≡ 0) ⊎ (1024 < length text) → QueryLine text 10 0
  -- "a bad % or no "=" in a pair"
  line_50 : {at : ℕ} {s : List ℕ} → PartAt 0 text at s → BadPart s → QueryLine text 50 at
  -- "too many alternatives, place 0"
  line_51 : {q : Query} → PairsAt 0 text q → 32 < length (alternatives_of q) → QueryLine text 51 0
