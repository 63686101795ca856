-- Names, of parameters on a sheet and in the tests of a filter: as a test, and in the rule's words.
-- Assumes nothing.
use Rattle.std.specs.Prelude.{ℕ, ◌≡◌, Bool, true, false, not, ◌&&◌, ◌||◌, List, [], ◌∷◌, eqb}
use Prim.Native.Char.{code}
use Rattle.base.specs.Between.{between}
use Rattle.base.specs.Ascii.{ascii}
use Rattle.base.specs.Digits.{is_digit}
use Rattle.base.specs.Lists.{All, every, equal}

-- an ASCII letter
unfoldable pub is_letter : ℕ → Bool
is_letter b = between (code "A") (code "Z") b || between (code "a") (code "z") b

-- "a name begins with "_" or an ASCII letter"
unfoldable pub is_name_start : ℕ → Bool
is_name_start b = eqb b (code "_") || is_letter b

-- "and goes on with those, "-" or digits"
unfoldable pub is_name_part : ℕ → Bool
is_name_part b = is_name_start b || (eqb b (code "-") || is_digit b)

-- and, or, not
unfoldable pub is_reserved : List ℕ → Bool
is_reserved n = equal n (ascii "and") || (equal n (ascii "or") || equal n (ascii "not"))

-- the bytes are a name; case counts
unfoldable pub is_name : List ℕ → Bool
is_name [] = false
is_name (x ∷ xs) = is_name_start x && (every is_name_part xs && not (is_reserved (x ∷ xs)))

-- the same, part by part
pub record Name (n : List ℕ) : Type 0 where
  pub first : ℕ
  pub rest : List ℕ
  pub spelt : n ≡ first ∷ rest
  pub starts : is_name_start first ≡ true
  pub goes_on : All (λ (b : ℕ). is_name_part b ≡ true) rest
  pub not_and : n ≡ ascii "and" → ⊥
  pub not_or : n ≡ ascii "or" → ⊥
  pub not_not : n ≡ ascii "not" → ⊥
