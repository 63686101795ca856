-- `explain::operation::mark` meets its contract. The loop keeps `Filling`: the cells before the one in hand are written. Assumes nothing.
use Rattle.explain.proofs.Filling.{Filling}
use Rattle.explain.proofs.operation.mark.Given as goal

abbrev pub invariant-loop-i : goal.invariant-loop-i
invariant-loop-i l = Filling l.marks l.initial.cells l.cells l.i
