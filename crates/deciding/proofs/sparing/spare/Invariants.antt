-- `deciding::sparing::spare` meets its contract. The loop's invariant: what is left to try decides with the tests that are kept. Assumes nothing.
use Rattle.deciding.proofs.Spared.{Sparing}
use Rattle.deciding.proofs.sparing.spare.Given as goal

abbrev pub invariant-loop-i : goal.invariant-loop-i
invariant-loop-i l = Sparing l.rows l.tests l.initial.marks l.marks l.i
