-- `number::value_from` meets its contract. The loop's invariant: the digits left, written after the value so far, make the whole. Assumes nothing.
use Rattle.number.proofs.Digits.{Accumulated}
use Rattle.number.proofs.value_from.Given as goal

abbrev pub invariant-loop-b : goal.invariant-loop-b
invariant-loop-b l = Accumulated l.before l.s l.value l.b-index
