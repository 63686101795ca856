-- `sheet::Sheet::table` meets its contract. The loop's invariant: the cells filled and the parameters to come make the table. Assumes nothing.
use Prim.Native.Nat.{ℕ, ◌+◌, ◌≤◌}
use mathlib.Core.Path.{◌≡◌}
use lib.ListN.{length}
use Rattle.sheet.specs.Sheet.{Parameter, parameters_of, parameter}
use Rattle.block.specs.declared.walker.Item.{Item}
use Rattle.block.specs.Walking.{made, coming}
use Rattle.sheet.proofs.Filling.{Filling}
use Rattle.sheet.proofs.Sheet.table.Given as goal

abbrev pub invariant-loop-i : goal.invariant-loop-i
invariant-loop-i g l =
    (l.i-iterator.count + length (coming parameter l.i-iterator.iter) ≤ 32)
    × ((of : Parameter → ℕ) → ((p : Item) (n : ℕ) → goal.F-post g l.part p n → n ≡ of (made parameter p)) → Filling of (parameters_of l.self) l.table l.i-iterator.count (coming parameter l.i-iterator.iter))
