-- What the loops over a block keep.
-- Assumes nothing.
use Prim.Native.Nat.{ℕ, zero, suc, ◌+◌, ◌*◌, ◌-◌, ◌≤◌}
use mathlib.Core.Path.{◌≡◌}
use mathlib.Core.List.{List}
use Rattle.base.specs.Parts.{part}
use Rattle.block.specs.Sum.{sum_from}
use Rattle.block.specs.Columns.{column_sum, column_rows}
use Rattle.block.specs.Items.{laid_out}

-- the rows of the column j from `row` on are summed: `sum` has their bytes, `rows` their bytes each times its row, counted from `row`
pub record RowsSummed (b : List ℕ) (j sum rows row : ℕ) : Type 0 where
  pub within : row ≤ 16
  pub plain : sum ≡ column_sum b (32 * row + j) (16 - row)
  pub weighted : rows ≡ column_rows b (32 * row + j) (16 - row)
  pub plain_most : sum + 255 * row ≤ 4080
  pub weighted_most : rows + 4080 * row ≤ 65280

-- the sum over the columns from j on, in the n rows from p on
unfoldable pub columns_from : List ℕ → (p j n : ℕ) → ℕ
columns_from b p j zero = 0
columns_from b p j (suc n) = sum_from (p + j + 1) (part b (p + j) (p + 32)) + columns_from b (p + 32) j n

-- the columns before j are summed, in the first m rows
pub record Summed (b : List ℕ) (m total j : ℕ) : Type 0 where
  pub within : j ≤ 32
  pub whole : total + columns_from b 0 j m ≡ sum_from 1 (part b 0 (32 * m))
  pub most : total ≤ 4194304 * j

-- `done` items are laid out up to p, and those that are left decide
pub record LaidTo (b : List ℕ) (from count p done : ℕ) : Type 0 where
  pub within : p ≤ 508
  pub rest : laid_out (count - done) b p ≡ laid_out count b from
