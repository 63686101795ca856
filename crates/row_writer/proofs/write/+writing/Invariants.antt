-- `row_writer::write::write_filter` and what it calls in a cycle meet their contracts: the text is read as the definition reads it, and each
-- answer writes the cells of what was read behind those that stand. The measure is by the bytes that are left: a filter reads its first
-- item and the items behind it at its own place, an item the test of a member at its own place, and both read a filter behind an opening
-- bracket. The loop over a filter's items keeps `Chained`: what was read so far is a filter, its cells are written, and the chain from here
-- on decides. A row takes a byte of the text at least, so that there are never more rows than bytes read, and the list has room. Below the
-- measures, each member has its callees, its invariant and the answers to its needs in the order of its code, each with the need's name.
-- Assumes nothing.
use Prim.Native.Nat.{◌+◌, ◌*◌, ◌-◌}
use lib.ListN.{length}
use Rattle.row_writer.specs.Steps.{ChainedAt}
use Rattle.row_writer.proofs.write.+writing.Given as goal

abbrev pub decreases-write_chosen : goal.decreases-write_chosen
decreases-write_chosen l = 4 * (length l.filter.now - l.spot.at)

abbrev pub decreases-write_filter : goal.decreases-write_filter
decreases-write_filter l = 4 * (length l.filter.now - l.spot.at) + 2

abbrev pub decreases-write_item : goal.decreases-write_item
decreases-write_item l = 4 * (length l.filter.now - l.spot.at) + 1

abbrev pub decreases-write_rest : goal.decreases-write_rest
decreases-write_rest l = 4 * (length l.filter.now - l.spot.at) + 1

abbrev pub decreases-write_round : goal.decreases-write_round
decreases-write_round l = 4 * (length l.filter.now - l.spot.at) + 3

abbrev pub invariant-write_rest-loop-link : goal.invariant-write_rest-loop-link
invariant-write_rest-loop-link l = ChainedAt l.sheet l.filter l.spot l.row l.initial.rows l.read.end l.read.outcome l.rows

abbrev pub decreases-write_rest-loop-link : goal.decreases-write_rest-loop-link
decreases-write_rest-loop-link l = length l.filter - l.read.end
