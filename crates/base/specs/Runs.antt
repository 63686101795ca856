-- How far a test holds from a list's beginning on.
-- Assumes nothing.
use Rattle.std.specs.Prelude.{ℕ, suc, ◌+◌, ◌≤◌, ◌≡◌, Bool, cond, not, List, [], ◌∷◌, eqb, length, drop}

-- how many elements with p the list begins with
unfoldable pub run : (ℕ → Bool) → List ℕ → ℕ
run p [] = 0
run p (x ∷ xs) = cond (p x) (suc (run p xs)) 0

-- the first index from at on where an element without p stands, or the end
unfoldable pub run_end : (ℕ → Bool) → List ℕ → ℕ → ℕ
run_end p xs at = at + run p (drop at xs)

-- the element is another one than x; the run of those ends where x stands
abbrev pub differs : ℕ → ℕ → Bool
differs x y = not (eqb y x)

-- r is that index, and lies where a caller needs it
pub record RunEnd (p : ℕ → Bool) (xs : List ℕ) (at r : ℕ) : Type 0 where
  pub is : r ≡ run_end p xs at
  pub from : at ≤ r
  pub within : r ≤ length xs
