-- Whether a list begins with, ends with or holds another.
-- Assumes nothing.
use Rattle.std.specs.Prelude.{ℕ, ◌-◌, Bool, true, false, ◌&&◌, ◌||◌, List, [], ◌∷◌, eqb, length, drop}
use Rattle.base.specs.Lists.{equal}

-- xs begins with ys
unfoldable pub has_prefix : List ℕ → List ℕ → Bool
has_prefix xs [] = true
has_prefix [] (y ∷ ys) = false
has_prefix (x ∷ xs) (y ∷ ys) = eqb x y && has_prefix xs ys

-- xs ends with ys: its last part, as long as ys, is ys
unfoldable pub has_suffix : List ℕ → List ℕ → Bool
has_suffix xs ys = equal (drop (length xs - length ys) xs) ys

-- ys stands somewhere in xs
unfoldable pub has_infix : List ℕ → List ℕ → Bool
has_infix [] ys = has_prefix [] ys
has_infix (x ∷ xs) ys = has_prefix (x ∷ xs) ys || has_infix xs ys
