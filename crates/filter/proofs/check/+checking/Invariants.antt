-- `filter::check::check_filter` and what it calls in a cycle meet their contracts: the text left falls, and each answers what reading gathers
-- over the tree that the reader finds there. Assumes nothing.
use Prim.Native.Nat.{◌+◌, ◌*◌, ◌-◌}
use lib.ListN.{length}
use Rattle.sheet.specs.Sheet.{parameters_of}
use Rattle.filter.specs.Folds.{walked, reading}
use Rattle.filter.proofs.Walk.{Chain}
use Rattle.filter.proofs.Reading.{walked_cases}
use Rattle.filter.proofs.check.+checking.Given as goal

abbrev pub decreases-check_chosen : goal.decreases-check_chosen
decreases-check_chosen l = 4 * (length l.filter.now - l.spot.at)

abbrev pub decreases-check_filter : goal.decreases-check_filter
decreases-check_filter l = 4 * (length l.filter.now - l.spot.at) + 2

abbrev pub decreases-check_item : goal.decreases-check_item
decreases-check_item l = 4 * (length l.filter.now - l.spot.at) + 1

abbrev pub decreases-check_round : goal.decreases-check_round
decreases-check_round l = 4 * (length l.filter.now - l.spot.at) + 3

abbrev pub invariant-check_filter-loop-link : goal.invariant-check_filter-loop-link
invariant-check_filter-loop-link l = Chain walked walked_cases (reading (parameters_of l.sheet) l.spot.bundle) l.filter l.spot.close l.spot.levels l.spot.at l.read.end l.read.summary

abbrev pub decreases-check_filter-loop-link : goal.decreases-check_filter-loop-link
decreases-check_filter-loop-link l = length l.filter - l.read.end
