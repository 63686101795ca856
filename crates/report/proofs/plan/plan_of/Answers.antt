-- `report::plan::plan_of` meets its contract: select answers for the run, and slices hold bytes. Assumes nothing.
use native.Mathlib.Omega.{arith}
use borrow.Author.Rules.{rules}
use mathlib.Core.Path.{◌∙◌}
use Rattle.report.proofs.Planning.{plan_sheet, plan_within, plan_fits, plan_refused, plan_short, plan_counts}
use Rattle.report.proofs.plan.plan_of.Goals as goal

pub invariant_of-parameter_count : goal.invariant_of-parameter_count
invariant_of-parameter_count c = search (plan_sheet, rules)

pub returns-then-n-room : goal.returns-then-n-room
returns-then-n-room c = let k = c.from-n.ensures ∙ c.parameter_count.ensures in search (k, plan_short _ _ _ _ _ _ c.select-selected.ensures (search rules) (λ i. omega (arith, c.shared_slice_known-1.given i)) (λ i. omega (arith, c.shared_slice_known-3-1.given i)), rules)

pub overflow_mul-result : goal.overflow_mul-result
overflow_mul-result c = let k = c.from-n.ensures ∙ c.parameter_count.ensures in search (k, plan_fits, rules)

pub overflow_sub-result : goal.overflow_sub-result
overflow_sub-result c = search (plan_within, rules)

pub returns-else-n-room : goal.returns-else-n-room
returns-else-n-room c = let k = c.from-n.ensures ∙ c.parameter_count.ensures in search (k, plan_counts _ _ _ _ _ _ c.select-selected.ensures (search rules) (λ i. omega (arith, c.shared_slice_known-1.given i)) (λ i. omega (arith, c.shared_slice_known-3-1.given i)), rules)

pub returns-in-Err : goal.returns-in-Err
returns-in-Err c = search (plan_refused _ _ _ _ _ _ c.select-selected.ensures (search rules) (λ i. omega (arith, c.shared_slice_known-1.given i)) (λ i. omega (arith, c.shared_slice_known-3-1.given i)), rules)
