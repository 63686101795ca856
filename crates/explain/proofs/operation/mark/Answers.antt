-- `explain::operation::mark` meets its contract. Assumes nothing.
use Rattle.explain.proofs.Explaining.{mark_conforming, mark_tests, mark_few, mark_short, mark_marked, mark_says}
use borrow.Author.Rules.{rules}
use Rattle.explain.proofs.operation.mark.Goals as goal

pub invariant_of-fitting : goal.invariant_of-fitting
invariant_of-fitting c = record { conforms = search (mark_conforming, rules) }

pub gather_verdicts-tests-requires : goal.gather_verdicts-tests-requires
gather_verdicts-tests-requires c = search (mark_tests, rules)

pub returns-then-tests-cells : goal.returns-then-tests-cells
returns-then-tests-cells c = search (mark_short, rules)

pub spare-requires : goal.spare-requires
spare-requires c = search (mark_few, rules)

pub bounds-marks-i : goal.bounds-marks-i
bounds-marks-i c = search (mark_marked, rules)

pub returns : goal.returns
returns c = search (mark_says, rules)
