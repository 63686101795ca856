-- `deciding::marks::mark_from` meets its contract. The loop keeps `Marking`: the expression in hand before the row has this mark, and the rows state
-- an expression. A second part is whole again and has fewer rows, which is the measure. Below the measure stand the callees, the invariant and
-- the answers to the needs in the order of the code, each with the need's name. Assumes nothing.
use Prim.Native.Nat.{◌-◌}
use lib.ListN.{length}
use Rattle.deciding.proofs.Marking.{Marking}
use Rattle.deciding.proofs.marks.+mark_from.Given as goal

abbrev pub decreases-mark_from : goal.decreases-mark_from
decreases-mark_from l = length l.rows.now

abbrev pub invariant-loop-at : goal.invariant-loop-at
invariant-loop-at l = Marking l.rows l.marks l.first l.at l.mark l.next

abbrev pub decreases-loop-at : goal.decreases-loop-at
decreases-loop-at l = length l.rows - l.at
