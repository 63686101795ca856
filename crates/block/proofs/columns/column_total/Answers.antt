-- `block::columns::column_total` meets its contract: both products are small. Assumes nothing.
use Prim.Native.Nat.{◌+◌, ◌*◌, ◌≤◌}
use native.Mathlib.Omega.{arith}
use borrow.Author.Rules.{rules}
use Rattle.block.proofs.Sum.{product_most}
use Rattle.block.proofs.columns.column_total.Goals as goal

pub overflow_mul-result-2 : goal.overflow_mul-result-2
overflow_mul-result-2 c = let p : (c.args.j + 1) * c.from-2.result ≤ 2097120 = product_most (search rules) (search rules) in omega (arith, p)

pub overflow_add-result-2 : goal.overflow_add-result-2
overflow_add-result-2 c = let p : (c.args.j + 1) * c.from-2.result ≤ 2097120 = product_most (search rules) (search rules) in omega (arith, p)

pub returns : goal.returns
returns c = let p : (c.args.j + 1) * c.from-2.result ≤ 2097120 = product_most (search rules) (search rules) in search rules
