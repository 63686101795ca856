-- The order of the table of refusals: which of the lines that hold decides.
-- Assumes nothing.
use Rattle.std.specs.Prelude.{ℕ, suc, ◌<◌, ◌≡◌, Bool, cond, List, [], ◌∷◌, ◌++◌, eqb}
use Rattle.base.specs.Lists.{member}

-- the lines of document 01's table with those of 02, "lowest line first"; numbers that share a line go together, in the order in which
-- they decide there. 02: "12 and 13 share 11's line"; 18 is "ranking between 14 and 15"; of a search string "10; 50 ..; 51 ..; then per
-- alternative .. 14 .., 16, 17"
abbrev pub lines : List (List ℕ)
lines =
    (1 ∷ [])
    ∷ (2 ∷ [])
    ∷ (3 ∷ [])
    ∷ (10 ∷ [])
    ∷ (11 ∷ 12 ∷ 13 ∷ [])
    ∷ (50 ∷ [])
    ∷ (51 ∷ [])
    ∷ (14 ∷ 18 ∷ 15 ∷ 16 ∷ 17 ∷ [])
    ∷ (40 ∷ [])
    ∷ (20 ∷ [])
    ∷ (21 ∷ 22 ∷ 23 ∷ [])
    ∷ (30 ∷ [])
    ∷ (31 ∷ [])
    ∷ (32 ∷ [])
    ∷ (33 ∷ [])
    ∷ (34 ∷ [])
    ∷ []

-- the numbers of the lines, one after the other
abbrev pub numbers : List (List ℕ) → List ℕ
numbers [] = []
numbers (l ∷ ls) = l ++ numbers ls

-- how many elements stand before the first that passes the test; where none does, all of them and `more`
abbrev pub index : {A : Type 0} → (A → Bool) → ℕ → List A → ℕ
index test more [] = more
index test more (x ∷ xs) = cond (test x) 0 (suc (index test more xs))

-- where a number's line stands among the lines, and where the number stands among all; what is in no line comes after, by its size
unfoldable pub group : ℕ → ℕ
group n = index (member n) n lines

unfoldable pub rank : ℕ → ℕ
rank n = index (eqb n) n (numbers lines)

-- line m at the place q comes before line n at the place p: "lowest line first"; "for 14 to 17 the first test in the text
-- decides, and within it the lower number", with 18 among them (02); "for 21 to 23 the first faulty card decides, and on it the
-- lower number"
pub data Before (m q n p : ℕ) : Type 0 where
  lower_group : group m < group n → Before m q n p
  earlier_place : group m ≡ group n → q < p → Before m q n p
  lower_rank : group m ≡ group n → q ≡ p → rank m < rank n → Before m q n p

-- of the lines that hold, line n at the place p comes first
pub record Decides (Line : ℕ → ℕ → Type 0) (n p : ℕ) : Type 0 where
  pub holds : Line n p
  pub first : (m q : ℕ) → Line m q → Before m q n p → ⊥
