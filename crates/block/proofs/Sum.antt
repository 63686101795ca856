-- Laws of the check sum: the largest, and what the loops that sum a column, all columns, and the block keep.
-- The code sums by 32 columns of 16 rows. The byte in row r of column j counts 32 r + j + 1 times, so the column adds 32 times its sum
-- weighted by rows, and j + 1 times its plain sum. `column_split`, by induction on the rows (`byte_above` is one row more), takes column j
-- out of the sum over the columns from j on. `columns_all`, by induction on the rows too, says that all columns make the sum in the order
-- of the bytes. The invariant `Summed`: the total and the columns to come make that sum. The last four bytes stand in the columns and not
-- in the check sum, so they are taken off at the end (`whole_end`). Where zeros follow the items from
-- byte 128 at the latest, four rows make it (`short_check_sum`).
-- Assumes nothing.
use Prim.Native.Nat.{ℕ, zero, suc, ◌+◌, ◌*◌, ◌-◌, ◌≤◌, ◌<◌}
use native.Mathlib.Nat.{zero-add, add-zero, add-mul, mul-add, mul_comm, mul-le-mul, mul-le-mul_right, eq-or-lt_of_le}
use native.Mathlib.Numerals.{add-one}
use native.Mathlib.Omega.{arith}
use mathlib.Core.Path.{◌≡◌, refl, ap, sym, ◌∙◌}
use mathlib.Core.Bool.{true}
use mathlib.Core.Logic.{⊎_elim}
use lib.Dec.{eqb}
use mathlib.Core.List.{List, [], ◌∷◌, ◌++◌}
use lib.ListN.{length, get_or, set, replicate, length-set}
use lib.Seq.{get_or-set_same, get_or-set_other}
use Rattle.base.specs.Bytes.{Bytes}
use borrow.Author.Tests.{eqb-true}
use Rattle.base.specs.Lists.{all_empty, all_cons, every}
use Rattle.base.specs.Parts.{part}
use Rattle.base.proofs.Parts.{part_length, part_cons, part-append}
use Rattle.base.proofs.Tests.{and_left, and_right}
use Rattle.block.specs.Sum.{sum_from, check_sum}
use Rattle.block.specs.Columns.{column_sum, column_rows, ColumnAt, Cells, ColumnsTo, last_four}
use Rattle.block.specs.Seal.{HasSize}
use Rattle.block.specs.Items.{zeros}
use Rattle.block.specs.declared.columns.Column.{Column}
use Rattle.block.proofs.Invariants.{RowsSummed, columns_from, Summed}

-- no bytes sum to more than as many bytes 255
sum_most : (i : ℕ) {s : List ℕ} → Bytes s → sum_from i s ≤ sum_from i (replicate (length s) 255)
unfolding sum_from
sum_most i all_empty = omega arith
sum_most i (all_cons {x} {xs} p h) =
    let first : x * i ≤ 255 * i = mul-le-mul_right i (omega arith) in
    omega (arith, sum_most (suc i) h)

-- "the largest sum is 32,967,930"
pub sum_largest : {s : List ℕ} → Bytes s → length s ≡ 508 → sum_from 1 s ≤ 32967930
unfolding sum_from
sum_largest {s} h e = rw e at (sum_most 1 h)

-- ---- the rows of a column

module _ (b : List ℕ) (j : ℕ) where
  pub rows_start : RowsSummed b j 0 0 16
  unfolding column_sum column_rows
  rows_start = record { within = omega arith; plain = refl; weighted = refl; plain_most = omega arith; weighted_most = omega arith }

  module _ (sum rows row : ℕ) (inv : RowsSummed b j sum rows row) where
    -- x is the byte of the row above
    pub rows_next : (x : ℕ) → 0 < row → x ≡ get_or b (32 * (row - 1) + j) 0 → x < 256 → RowsSummed b j (sum + x) (rows + sum) (row - 1)
    unfolding column_sum column_rows
    rows_next x l e small =
        let n : 16 - (row - 1) ≡ suc (16 - row) = omega (arith, inv.within) in
        let p : 32 * (row - 1) + j + 32 ≡ 32 * row + j = omega arith in
        record {
          within = omega (arith, inv.within);
          plain = rw (n, p) (omega (arith, inv.plain));
          weighted = rw (n, p) (omega (arith, inv.plain, inv.weighted));
          plain_most = omega (arith, inv.plain_most);
          weighted_most = omega (arith, inv.plain_most, inv.weighted_most);
        }

    pub rows_end : row ≤ 0 → ColumnAt b 16 j (record { sum = sum; rows = rows })
    rows_end l =
        let z : row ≡ 0 = omega arith in
        record { plain = rw (z, zero-add j) at inv.plain; weighted = rw (z, zero-add j) at inv.weighted }

-- ---- the cells that hold the sums of the columns

cells-next : (f : ℕ → ℕ) (l : List ℕ) (n x : ℕ) → Cells f l n → n < 32 → x ≡ f n → Cells f (set l n x) (n + 1)
cells-next f l n x inv h e =
    let last : get_or (set l n x) n 0 ≡ f n = get_or-set_same l n x 0 (omega (arith, inv.size)) ∙ e in
    record {
      size = length-set l n x ∙ inv.size;
      each =
          λ k z.
          ⊎_elim
          (λ (same : k ≡ n). rw same last)
          (λ (less : k < n). get_or-set_other l n k x 0 (λ (same : k ≡ n). omega arith) ∙ inv.each k less)
          (eq-or-lt_of_le {n = k} {m = n} (omega arith));
    }

module _ (b : List ℕ) where
  pub columns_start : ColumnsTo b (replicate 32 0) (replicate 32 0) 0
  columns_start =
      record {
        within = omega arith;
        plain = record { size = refl; each = λ k z. absurd (omega arith) };
        weighted = record { size = refl; each = λ k z. absurd (omega arith) };
      }

  module _ (sums rows : List ℕ) (j : ℕ) (inv : ColumnsTo b sums rows j) where
    pub columns_next : (c : Column) → j < 32 → ColumnAt b 16 j c → ColumnsTo b (set sums j c.sum) (set rows j c.rows) (j + 1)
    columns_next c l at =
        record {
          within = omega arith;
          plain = cells-next _ sums j c.sum inv.plain l at.plain;
          weighted = cells-next _ rows j c.rows inv.weighted l at.weighted;
        }

    pub columns_end : 32 ≤ j → ColumnsTo b sums rows 32
    columns_end l = let z : j ≡ 32 = omega (arith, inv.within) in rw z at inv

-- ---- the sum of a part

sum_append : (i : ℕ) (xs ys : List ℕ) → sum_from i (xs ++ ys) ≡ sum_from i xs + sum_from (i + length xs) ys
unfolding sum_from
sum_append i [] ys = rw (add-zero i) (sym (zero-add (sum_from i ys)))
sum_append i (x ∷ xs) ys = let n : suc i + length xs ≡ i + suc (length xs) = omega arith in omega (arith, sum_append (suc i) xs ys, ap (λ (k : ℕ). sum_from k ys) n)

module _ (b : List ℕ) where
  part_sum_cons : (i a e : ℕ) → a < e → e ≤ length b → sum_from i (part b a e) ≡ get_or b a 0 * i + sum_from (i + 1) (part b (a + 1) e)
  unfolding sum_from
  part_sum_cons i a e h k = rw (part_cons b a e h k, add-one i)

  part_sum_append : (i a m e : ℕ) → a ≤ m → m ≤ e → m ≤ length b → sum_from i (part b a e) ≡ sum_from i (part b a m) + sum_from (i + (m - a)) (part b m e)
  part_sum_append i a m e h k l =
      ap (sum_from i) (sym (part-append b a m e h k))
      ∙ sum_append i (part b a m) (part b m e)
      ∙ ap (λ (n : ℕ). sum_from i (part b a m) + sum_from (i + n) (part b m e)) (part_length b a m l)

  -- the bytes after the first 508
  last_four_lem : HasSize b → last_four b ≡ sum_from 509 (part b 508 512)
  unfolding sum_from
  last_four_lem h =
      let split : (i a : ℕ) → a < 512 → sum_from i (part b a 512) ≡ get_or b a 0 * i + sum_from (i + 1) (part b (a + 1) 512) = λ i a l. part_sum_cons i a 512 l (omega (arith, h)) in
      omega (arith, split 509 508 (omega arith), split 510 509 (omega arith), split 511 510 (omega arith), split 512 511 (omega arith))

-- ---- the sum over all columns

pub product_most : {x place : ℕ} → x < 65536 → place ≤ 32 → place * x ≤ 2097120
product_most {x} {place} h k = let a : x ≤ 65535 = omega arith in omega (arith, mul-le-mul k a)

-- a byte x above the rows of a column
byte_above : (place x sum rows : ℕ) → 32 * (sum + rows) + place * (x + sum) ≡ x * place + (32 * rows + (place + 32) * sum)
byte_above place x sum rows = omega (arith, mul-add place x sum, mul_comm place x, add-mul place 32 sum)

module _ (b : List ℕ) where
  -- the column j and those after it
  column_split : (j : ℕ) → j < 32 → (p n : ℕ) → p + 32 * n ≤ length b
      → columns_from b p j n ≡ 32 * column_rows b (p + j) n + (p + j + 1) * column_sum b (p + j) n + columns_from b p (j + 1) n
  unfolding columns_from column_rows column_sum
  column_split j l p zero h = omega arith
  column_split j l p (suc n) h =
      let q : p + 32 + j ≡ p + j + 32 = omega arith in
      let r : p + 32 + j + 1 ≡ p + j + 1 + 32 = omega arith in
      let s : p + j + 1 ≡ p + (j + 1) = omega arith in
      let first : sum_from (p + j + 1) (part b (p + j) (p + 32)) ≡ get_or b (p + j) 0 * (p + j + 1) + sum_from (p + (j + 1) + 1) (part b (p + (j + 1)) (p + 32)) = part_sum_cons b (p + j + 1) (p + j) (p + 32) (omega arith) (omega arith) ∙ rw s in
      let below = rw (r, q) at (column_split j l (p + 32) n (omega arith)) in
      omega (arith, below, byte_above (p + j + 1) (get_or b (p + j) 0) (column_sum b (p + j + 32) n) (column_rows b (p + j + 32) n))

  columns_none : (p n : ℕ) → columns_from b p 32 n ≡ 0
  unfolding columns_from sum_from
  columns_none p zero = refl
  columns_none p (suc n) = let k : p + 32 - (p + 32) ≡ 0 = omega arith in rw k (omega (arith, columns_none (p + 32) n))

module _ (b : List ℕ) (h : HasSize b) (m : ℕ) (few : m ≤ 16) where
  columns_all : (p n : ℕ) → p + 32 * n ≡ 32 * m → columns_from b p 0 n ≡ sum_from (p + 1) (part b p (32 * m))
  unfolding columns_from sum_from
  columns_all p zero e = let k : 32 * m - p ≡ 0 = omega arith in rw k
  columns_all p (suc n) e =
      let k : p + 1 + (p + 32 - p) ≡ p + 32 + 1 = omega arith in
      let rows = rw k at (part_sum_append b (p + 1) p (p + 32) (32 * m) (omega arith) (omega arith) (omega (arith, h, few))) in
      rw (add-zero p) (omega (arith, rows, columns_all (p + 32) n (omega arith)))

  pub summed_start : Summed b m 0 0
  summed_start = record { within = omega arith; whole = omega (arith, columns_all 0 m (omega arith)); most = omega arith }

  module _ (total j : ℕ) (inv : Summed b m total j) where
    -- the column j is summed
    pub summed_next : (x sum rows : ℕ) → x ≡ 32 * rows + (j + 1) * sum → sum ≡ column_sum b j m → rows ≡ column_rows b j m → j < 32 → x ≤ 4194304 → Summed b m (total + x) (j + 1)
    summed_next x sum rows e p w l small =
        let split = rw (zero-add j) at (column_split b j l 0 m (omega (arith, h, few))) in
        record { within = omega arith; whole = omega (arith, inv.whole, split, rw (p, w) at e); most = omega (arith, inv.most) }

    summed_rows : 32 ≤ j → total ≡ sum_from 1 (part b 0 (32 * m))
    summed_rows l =
        let z : j ≡ 32 = omega (arith, inv.within) in
        omega (arith, rw z at inv.whole, columns_none b 0 m)

-- ---- all 16 rows, less the last four bytes

module _ (b : List ℕ) (h : HasSize b) where
  pub whole-start : Summed b 16 0 0
  whole-start = summed_start b h 16 (omega arith)

  module _ (total j : ℕ) (inv : Summed b 16 total j) where
    pub whole-next : (x : ℕ) (sums rows : List ℕ) → ColumnsTo b sums rows 32 → j < 32 → x ≡ 32 * get_or rows j 0 + (j + 1) * get_or sums j 0 → x ≤ 4194304 → Summed b 16 (total + x) (j + 1)
    whole-next x sums rows of l e small = summed_next b h 16 (omega arith) total j inv x (get_or sums j 0) (get_or rows j 0) e (of.plain.each j l) (of.weighted.each j l) l small

    module _ (rest : ℕ) (l : 32 ≤ j) (e : rest ≡ last_four b) where
      whole_sum : total ≡ check_sum b + rest
      unfolding check_sum
      whole_sum = omega (arith, summed_rows b h 16 (omega arith) total j inv l, e, last_four_lem b h, part_sum_append b 1 0 508 512 (omega arith) (omega arith) (omega (arith, h)))

      pub whole_rest : rest ≤ total
      whole_rest = omega (arith, whole_sum)

      pub whole_end : total - rest ≡ check_sum b
      whole_end = omega (arith, whole_sum)

-- ---- the first four rows

pub short_column : (b : List ℕ) (j a c d e : ℕ) → a ≡ get_or b j 0 → c ≡ get_or b (j + 32) 0 → d ≡ get_or b (j + 64) 0 → e ≡ get_or b (j + 96) 0
    → ColumnAt b 4 j (record { sum = a + c + d + e; rows = c + 2 * d + 3 * e })
unfolding column_sum column_rows
short_column b j a c d e p q r s =
    let two : j + 32 + 32 ≡ j + 64 = omega arith in
    let three : j + 64 + 32 ≡ j + 96 = omega arith in
    record { plain = rw (two, three) (omega (arith, p, q, r, s)); weighted = rw (two, three) (omega (arith, p, q, r, s)) }

module _ (b : List ℕ) (h : HasSize b) where
  pub short_start : Summed b 4 0 0
  short_start = summed_start b h 4 (omega arith)

  module _ (total j : ℕ) (inv : Summed b 4 total j) where
    pub short_next : (x : ℕ) (c : Column) → ColumnAt b 4 j c → j < 32 → x ≡ 32 * c.rows + (j + 1) * c.sum → x ≤ 4194304 → Summed b 4 (total + x) (j + 1)
    short_next x c at l e small = summed_next b h 4 (omega arith) total j inv x c.sum c.rows e at.plain at.weighted l small

    pub short_end : 32 ≤ j → total ≡ sum_from 1 (part b 0 128)
    short_end l = summed_rows b h 4 (omega arith) total j inv l

-- zeros add nothing
zeros_sum : (i : ℕ) (xs : List ℕ) → zeros xs ≡ true → sum_from i xs ≡ 0
unfolding sum_from zeros every
zeros_sum i [] z = refl
zeros_sum i (x ∷ xs) z =
    let none : x ≡ 0 = eqb-true x 0 (and_left (eqb x 0) (zeros xs) z) in
    rw (none, zeros_sum (suc i) xs (and_right (eqb x 0) (zeros xs) z)) (omega arith)

-- so the rows to the end of the items make the check sum
pub short_check_sum : (b : List ℕ) → HasSize b → (end total : ℕ) → zeros (part b end 508) ≡ true → end ≤ 128 → total ≡ sum_from 1 (part b 0 128) → total ≡ check_sum b
unfolding check_sum
short_check_sum b h end total z l t =
    let all = part_sum_append b 1 0 end 508 (omega arith) (omega arith) (omega (arith, h)) in
    let rows = part_sum_append b 1 0 end 128 (omega arith) l (omega (arith, h)) in
    let past = part_sum_append b (1 + (end - 0)) end 128 508 l (omega arith) (omega (arith, h)) in
    let none = zeros_sum (1 + (end - 0)) (part b end 508) z in
    omega (arith, t, all, rows, past, none)
