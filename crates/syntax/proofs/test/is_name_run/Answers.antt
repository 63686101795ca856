-- `syntax::test::is_name_run` meets its contract. Assumes nothing.
use borrow.Author.Rules.{rules}
use borrow.Author.Tests.{not-true, not-false}
use Rattle.syntax.proofs.Tests.{run_empty, run_inside, run-start_not, run-name}
use Rattle.syntax.proofs.test.is_name_run.Goals as goal

pub returns-then-until-at : goal.returns-then-until-at
returns-then-until-at c = search (run_empty, rules)

pub returns-then-not-is_name_start : goal.returns-then-not-is_name_start
returns-then-not-is_name_start c = search (run-start_not, not-true, rules)

pub returns : goal.returns
returns c = search (run-name, not-false, rules)
