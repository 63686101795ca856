-- `sheet::Sheet::find` meets its contract: the parameters to come decide, the first of which has the index at hand. Assumes nothing.
use Prim.Native.Nat.{◌+◌, ◌≤◌}
use mathlib.Core.Path.{◌≡◌}
use lib.ListN.{length}
use Rattle.sheet.specs.Sheet.{parameters_of, parameter}
use Rattle.block.specs.Walking.{coming}
use Rattle.sheet.specs.Find.{find_from, find}
use Rattle.sheet.proofs.Sheet.find.Given as goal

abbrev pub invariant-loop-index : goal.invariant-loop-index
invariant-loop-index l =
    (l.index-iterator.count + length (coming parameter l.index-iterator.iter) ≤ 32)
    × (find_from l.index-iterator.count l.bundle l.name (coming parameter l.index-iterator.iter) ≡ find l.bundle l.name (parameters_of l.self))
