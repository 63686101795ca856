-- `deciding::sparing::spare` meets its contract. The loop's invariant: what is left to try decides with the tests that are kept. Assumes nothing.
use Rattle.deciding.proofs.Spared.{sparing_start, sparing_inside, sparing_again, sparing_next, sparing_end}
use borrow.Author.Rules.{rules}
use Rattle.deciding.proofs.sparing.spare.Goals as goal

pub loop-i-init : goal.loop-i-init
loop-i-init c = search (sparing_start, rules)

pub bounds-marks-i : goal.bounds-marks-i
bounds-marks-i c = search (sparing_inside, rules)

pub bounds-marks-i-in-loop-i : goal.bounds-marks-i-in-loop-i
bounds-marks-i-in-loop-i c = search (sparing_inside, rules)

pub bounds-marks-i-in-loop-i-2 : goal.bounds-marks-i-in-loop-i-2
bounds-marks-i-in-loop-i-2 c = search (sparing_again, rules)

pub loop-i-preserved : goal.loop-i-preserved
loop-i-preserved c = search (sparing_next, rules)

pub returns : goal.returns
returns c = search (sparing_end, rules)
