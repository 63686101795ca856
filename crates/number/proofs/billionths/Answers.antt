-- `number::billionths` meets its contract: a number in billionths is below ten to the seventeenth. Assumes nothing.
use native.Mathlib.Omega.{arith}
use borrow.Author.Rules.{rules}
use Rattle.number.proofs.Exact.{billionths-made, billionths_fit}
use Rattle.number.proofs.billionths.Goals as goal

pub overflow_mul-result : goal.overflow_mul-result
overflow_mul-result c = let a = c.args.d in
    record { fits = omega (arith, billionths_fit a c.unit.result (search rules) (search rules)) }

pub returns : goal.returns
returns c = (search (billionths-made, rules), search (billionths_fit, rules))
