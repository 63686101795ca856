-- Beginnings of filters (02 [3]): what it is for bytes to begin some filter within limits, for a beginning of a text to be the
-- longest that does, and which of 11, 12 and 13 a text gets.
-- Assumes nothing.
use Rattle.std.specs.Prelude.{ℕ, ◌≤◌, ◌<◌, List, ◌++◌, length, take}
use Rattle.base.specs.Bytes.{Bytes}
use Rattle.syntax.specs.Tree.{Tree}
use Rattle.syntax.specs.Grammar.{Within}

-- the bytes begin some filter with brackets at most d deep and at most m tests, "of no matter what length"
pub record Begins (d m : ℕ) (xs : List ℕ) : Type 0 where
  pub rest : List ℕ
  pub bytes : Bytes rest
  pub tree : Tree
  pub is : Within d m (xs ++ rest) tree

-- the same with the one limit lifted
abbrev pub AnyDepth : ℕ → List ℕ → Type 0
AnyDepth m xs = (d : ℕ) × Begins d m xs

-- the same with as many tests as one likes
abbrev pub AnyTests : ℕ → List ℕ → Type 0
AnyTests d xs = (m : ℕ) × Begins d m xs

-- "the length of the longest beginning of the text that" has P
pub record Longest (P : List ℕ → Type 0) (xs : List ℕ) (p : ℕ) : Type 0 where
  pub within : p ≤ length xs
  pub begins : P (take p xs)
  pub none_longer : (q : ℕ) → p < q → q ≤ length xs → P (take q xs) → ⊥

-- a beginning longer than p has P
pub record Longer (P : List ℕ → Type 0) (xs : List ℕ) (p : ℕ) : Type 0 where
  pub size : ℕ
  pub more : p < size
  pub within : size ≤ length xs
  pub begins : P (take size xs)

-- the number of a text whose longest beginning has the length p
pub data Number (d m : ℕ) (xs : List ℕ) (p : ℕ) : ℕ → Type 0 where
  -- "12 when lifting the nesting limit alone would make it longer"
  number_12 : Longer (AnyDepth m) xs p → Number d m xs p 12
  -- "13 when lifting the limit on tests alone would"
  number_13 : Longer (AnyTests d) xs p → (Longer (AnyDepth m) xs p → ⊥) → Number d m xs p 13
  -- "else 11"
  number_11 : (Longer (AnyDepth m) xs p → ⊥) → (Longer (AnyTests d) xs p → ⊥) → Number d m xs p 11
