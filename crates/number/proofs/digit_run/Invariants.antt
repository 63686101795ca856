-- `number::digit_run` meets its contract. The loop's invariant: the run is what has been passed and the run of what is left. Assumes nothing.
use mathlib.Core.Path.{◌≡◌}
use Prim.Native.Nat.{◌+◌}
use lib.ListN.{drop}
use Rattle.base.specs.Digits.{is_digit}
use Rattle.base.specs.Runs.{run}
use Rattle.number.proofs.digit_run.Given as goal

abbrev pub invariant-loop-i : goal.invariant-loop-i
invariant-loop-i l = run is_digit l.s ≡ l.i + run is_digit (drop l.i l.s)
