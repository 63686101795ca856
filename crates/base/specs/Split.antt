-- A text split at the first place of a byte.
-- Assumes nothing.
use Rattle.std.specs.Prelude.{ℕ, ◌+◌, cond, List, ◌≡◌, ltb, length, take, drop}
use Rattle.base.specs.Lists.{All}
use Rattle.base.specs.Runs.{run, differs}

-- the index of the first x, or the length where there is none
abbrev pub first_of : ℕ → List ℕ → ℕ
first_of x s = run (differs x) s

-- no byte is x
abbrev pub Without : ℕ → List ℕ → Type 0
Without x s = All (λ (y : ℕ). y ≡ x → ⊥) s

-- the whole text where it is without the byte, or the parts before and after its first place
pub data Split : Type 0 where
  whole : List ℕ → Split
  parts : List ℕ → List ℕ → Split

-- the split at the first x
unfoldable pub split : ℕ → List ℕ → Split
split x t = cond (ltb (first_of x t) (length t)) (parts (take (first_of x t) t) (drop (first_of x t + 1) t)) (whole t)
