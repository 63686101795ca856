-- The cycle of `spell::walk::write_filter` and `write_item` meets its contracts: the text left falls, and each part's plain spelling is
-- written where the part that is lent begins. Assumes nothing.
use Prim.Native.Nat.{◌+◌, ◌*◌, ◌-◌}
use lib.ListN.{length}
use Rattle.spell.proofs.Chaining.{Chained}
use Rattle.spell.proofs.walk.+writing.Given as goal

abbrev pub decreases-write_chosen : goal.decreases-write_chosen
decreases-write_chosen l = 8 * (length l.filter.now - l.until) + 4

abbrev pub decreases-write_filter : goal.decreases-write_filter
decreases-write_filter l = 8 * (length l.filter.now - l.spot.at) + 3

abbrev pub decreases-write_item : goal.decreases-write_item
decreases-write_item l = 8 * (length l.filter.now - l.spot.at)

abbrev pub decreases-write_joined : goal.decreases-write_joined
decreases-write_joined l = 8 * (length l.filter.now - l.spot.at) + 2

abbrev pub decreases-write_not : goal.decreases-write_not
decreases-write_not l = 8 * (length l.filter.now - l.at) + 4

abbrev pub decreases-write_operand : goal.decreases-write_operand
decreases-write_operand l = 8 * (length l.filter.now - l.spot.at) + 1

abbrev pub decreases-write_round : goal.decreases-write_round
decreases-write_round l = 8 * (length l.filter.now - l.at) + 4

abbrev pub invariant-write_filter-loop-link : goal.invariant-write_filter-loop-link
invariant-write_filter-loop-link l = Chained l.levels l.filter l.close l.at l.initial.out l.out l.written

abbrev pub decreases-write_filter-loop-link : goal.decreases-write_filter-loop-link
decreases-write_filter-loop-link l = length l.filter - l.written.end
