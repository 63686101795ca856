-- `rows::shapes::shape_of` and what it calls in a cycle meet their contracts: the calls that are left fall. The loop keeps `InHand`.
-- Assumes nothing.
use Prim.Native.Nat.{◌+◌, ◌*◌, ◌-◌}
use lib.ListN.{length}
use Rattle.rows.specs.Shapes.{InHand}
use Rattle.rows.proofs.shapes.+shapes.Given as goal

abbrev pub decreases-shape_in_brackets : goal.decreases-shape_in_brackets
decreases-shape_in_brackets l = 4 * l.calls + 2

abbrev pub decreases-shape_of : goal.decreases-shape_of
decreases-shape_of l = 4 * l.calls

abbrev pub decreases-shape_of_first : goal.decreases-shape_of_first
decreases-shape_of_first l = 4 * l.calls + 3

abbrev pub decreases-shape_with : goal.decreases-shape_with
decreases-shape_with l = 4 * l.calls + 1

abbrev pub invariant-shape_with-loop-at : goal.invariant-shape_with-loop-at
invariant-shape_with-loop-at l = InHand l.tables.kinds l.tables.parents l.filter l.scope l.calls l.rows l.at l.shape

abbrev pub decreases-shape_with-loop-at : goal.decreases-shape_with-loop-at
decreases-shape_with-loop-at l = length l.rows - l.at
