-- `syntax::value::read_string` meets its contract. The loop's invariant: what is left decides what is found. Assumes nothing.
use Rattle.syntax.proofs.Values.{Reading}
use Rattle.syntax.proofs.value.read_string.Given as goal

abbrev pub invariant-loop-end : goal.invariant-loop-end
invariant-loop-end l = Reading l.s l.at l.end l.pending l.escaped
