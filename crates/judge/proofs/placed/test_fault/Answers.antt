-- `judge::placed::test_fault` meets its contract: the fault is told of its value. Assumes nothing.
use borrow.Author.Rules.{rules}
use Rattle.judge.specs.Faults.{fault_at}
use Rattle.judge.proofs.Meaning.{fault_placed}
use Rattle.judge.proofs.placed.test_fault.Goals as goal

pub returns : goal.returns
returns c = fault_placed _ _ c.args.test.now _ c.test_found-found.ensures _ _ _ (c.of_value.ensures (λ v. fault_at c.test_found-found.result c.operator-operator.result v c.args.place) (λ b x h. search rules)) c.operator-operator.ensures
