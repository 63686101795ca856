-- `syntax::test::read_operator` meets its contract. The loop's invariant: the words left to try decide. Assumes nothing.
use Rattle.syntax.proofs.Operators.{Trying}
use Rattle.syntax.proofs.test.read_operator.Given as goal

abbrev pub invariant-loop-k : goal.invariant-loop-k
invariant-loop-k l = Trying l.words l.first l.second l.k
