-- `block::columns::column_at` meets its contract: the rows from the last up are summed, and both sums have 16 bits. Assumes nothing.
use Prim.Native.Nat.{◌+◌, ◌-◌, ◌*◌}
use native.Mathlib.Omega.{arith}
use borrow.Author.Rules.{rules}
use Rattle.block.proofs.Sum.{rows_start, rows_next, rows_end}
use Rattle.block.proofs.columns.column_at.Goals as goal

pub loop-row-init : goal.loop-row-init
loop-row-init c = search (rows_start, rules)

pub loop-row-preserved : goal.loop-row-preserved
loop-row-preserved c = rows_next _ _ _ _ _ c.loop-row.invariant _ (omega arith) c.from-sum.ensures (omega (arith, c.fits-block (32 * (c.loop-row.row - 1) + c.args.j)))

pub returns : goal.returns
returns c = search (rows_end, rules)
