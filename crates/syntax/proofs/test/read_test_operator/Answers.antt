-- `syntax::test::read_test_operator` meets its contract: the tests are those of the definition. Assumes nothing.
use borrow.Author.Rules.{rules}
use Rattle.syntax.proofs.Tests.{operator_no_gap, test_no_operator, test_operator_lem, operator-within}
use Rattle.syntax.proofs.test.read_test_operator.Goals as goal

pub returns-then-word-until : goal.returns-then-word-until
returns-then-word-until c = search (operator_no_gap, rules)

pub read_test_value-requires : goal.read_test_value-requires
read_test_value-requires c = search (operator-within, rules)

pub returns : goal.returns
returns c = search (test_operator_lem, rules)

pub returns-in_err-operator : goal.returns-in_err-operator
returns-in_err-operator c = search (test_no_operator, rules)
