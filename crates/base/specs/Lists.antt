-- An element of a list by its index; properties of every element, as a predicate and as a test; equality of two lists of numbers as a test.
-- Assumes nothing.
use Rattle.std.specs.Prelude.{ℕ, ◌≡◌, Bool, true, false, ◌&&◌, ◌||◌, List, [], ◌∷◌, ◌++◌, eqb, length}

-- x stands in the list at the index i
pub record Listed {A : Type 0} (xs : List A) (i : ℕ) (x : A) : Type 0 where
  pub before : List A
  pub after : List A
  pub split : xs ≡ before ++ (x ∷ after)
  pub index : length before ≡ i

-- P holds of every element
pub data All {A : Type 0} (P : A → Type 0) : List A → Type 0 where
  all_empty : All P []
  all_cons : {x : A} {xs : List A} → P x → All P xs → All P (x ∷ xs)

-- the test p passes on every element
unfoldable pub every : (ℕ → Bool) → List ℕ → Bool
every p [] = true
every p (x ∷ xs) = p x && every p xs

-- the two lists are the same
unfoldable pub equal : List ℕ → List ℕ → Bool
equal [] [] = true
equal [] (y ∷ ys) = false
equal (x ∷ xs) [] = false
equal (x ∷ xs) (y ∷ ys) = eqb x y && equal xs ys

-- the number is one of those of the list
unfoldable pub member : ℕ → List ℕ → Bool
member x [] = false
member x (k ∷ ks) = eqb x k || member x ks
