-- The loop's invariant: the rows are those after the first j steps. Assumes nothing.
use Rattle.std.proofs.Common.{◌≡◌}
use Rattle.report.specs.Steps.{stepped}
use Rattle.report.proofs.tallies.raise_all.Given as goal

abbrev pub invariant-loop-j : goal.invariant-loop-j
invariant-loop-j l = l.rows ≡ stepped l.cards l.n l.j l.initial.rows
