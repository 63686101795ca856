-- The check sum of a block.
-- Assumes nothing.
use Rattle.std.specs.Prelude.{ℕ, suc, ◌+◌, ◌*◌, List, [], ◌∷◌, take}

-- the sum of the bytes, each times its place, where the first stands at the place i
unfoldable pub sum_from : ℕ → List ℕ → ℕ
sum_from i [] = 0
sum_from i (x ∷ xs) = x * i + sum_from (suc i) xs

-- "the sum of the first 508 bytes, each times its place counted from 1"
unfoldable pub check_sum : List ℕ → ℕ
check_sum b = sum_from 1 (take 508 b)
