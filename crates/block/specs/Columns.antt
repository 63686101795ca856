-- The sums of a block's columns, where the block is 16 rows of 32 bytes: what the functions that sum by columns compute. The check sum
-- itself is defined in Sum.
-- Assumes nothing.
use Rattle.std.specs.Prelude.{ℕ, zero, suc, ◌+◌, ◌*◌, ◌≤◌, ◌<◌, ◌≡◌, List, length, get_or}
use Rattle.block.specs.declared.columns.Column.{Column}

-- the sum of the n bytes of a column from p on
unfoldable pub column_sum : List ℕ → ℕ → ℕ → ℕ
column_sum b p zero = 0
column_sum b p (suc n) = get_or b p 0 + column_sum b (p + 32) n

-- the same with each byte times its row, where the one at p stands in the row 0
unfoldable pub column_rows : List ℕ → ℕ → ℕ → ℕ
column_rows b p zero = 0
column_rows b p (suc n) = column_sum b (p + 32) n + column_rows b (p + 32) n

-- r has the sums of the column j in the first m rows
pub record ColumnAt (b : List ℕ) (m j : ℕ) (r : Column) : Type 0 where
  pub plain : r.sum ≡ column_sum b j m
  pub weighted : r.rows ≡ column_rows b j m

-- the first n of 32 cells hold what f says of each
pub record Cells (f : ℕ → ℕ) (cells : List ℕ) (n : ℕ) : Type 0 where
  pub size : length cells ≡ 32
  pub each : (k : ℕ) → k < n → get_or cells k 0 ≡ f k

-- `sums` and `rows` have the sums of the first n columns
pub record ColumnsTo (b sums rows : List ℕ) (n : ℕ) : Type 0 where
  pub within : n ≤ 32
  pub plain : Cells (λ (j : ℕ). column_sum b j 16) sums n
  pub weighted : Cells (λ (j : ℕ). column_rows b j 16) rows n

-- the sum of the bytes 508 to 511, each times its place counted from 1
abbrev pub last_four : List ℕ → ℕ
last_four b = 509 * get_or b 508 0 + 510 * get_or b 509 0 + 511 * get_or b 510 0 + 512 * get_or b 511 0
