-- `sheet::distinct` meets its contract: the parameters to come decide. Assumes nothing.
use mathlib.Core.Path.{◌≡◌}
use Rattle.block.specs.Walking.{coming}
use Rattle.sheet.specs.Sheet.{parameter, distinct}
use Rattle.sheet.proofs.distinct.Given as goal

abbrev pub invariant-loop-p : goal.invariant-loop-p
invariant-loop-p l = distinct (coming parameter l.parameters) ≡ distinct (coming parameter l.fn.parameters)

abbrev pub decreases-loop-p : goal.decreases-loop-p
decreases-loop-p l = l.parameters.left
