-- `report::rows::raised` meets its contract: the first steps clear, the others raise by a card. Assumes nothing.
use borrow.Author.Rules.{rules}
use Rattle.report.proofs.Steps.{step_clears, step_raises, step-card, step_fits, step_well_formed, step_row}
use Rattle.report.proofs.tallies.raised.Goals as goal

pub returns-then-j-n : goal.returns-then-j-n
returns-then-j-n c = search (step_clears, rules)

pub overflow_mul-end : goal.overflow_mul-end
overflow_mul-end c = search (step_fits, rules)

pub overflow_sub-start : goal.overflow_sub-start
overflow_sub-start c = search (step-card, rules)

pub invariant_of-card : goal.invariant_of-card
invariant_of-card c = search (step_well_formed, rules)

pub raised_by-requires : goal.raised_by-requires
raised_by-requires c = search (step_row, rules)

pub returns : goal.returns
returns c = search (step_raises, rules)
