-- `syntax::test::read_test_value` meets its contract: the tests are those of the definition. Assumes nothing.
use borrow.Author.Rules.{rules}
use Rattle.syntax.proofs.Tests.{test_no_gap, test_no_value, test_value_lem, test_not_followed, value-within}
use Rattle.syntax.proofs.test.read_test_value.Goals as goal

pub returns-then-start-after : goal.returns-then-start-after
returns-then-start-after c = search (test_no_gap, rules)

pub may_follow-requires : goal.may_follow-requires
may_follow-requires c = search (value-within, rules)

pub returns-then-may_follow : goal.returns-then-may_follow
returns-then-may_follow c = search (test_value_lem, rules)

pub returns : goal.returns
returns c = search (test_not_followed, rules)

pub returns-in_err-value : goal.returns-in_err-value
returns-in_err-value c = search (test_no_value, rules)
