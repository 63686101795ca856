-- `syntax::test::read_test` meets its contract: the tests are those of the definition. Assumes nothing.
use borrow.Author.Rules.{rules}
use Rattle.syntax.proofs.Tests.{test_no_name, test_name}
use Rattle.syntax.proofs.test.read_test.Goals as goal

pub returns-then-is_name_run : goal.returns-then-is_name_run
returns-then-is_name_run c = search (test_name, rules)

pub returns : goal.returns
returns c = search (test_no_name, rules)
