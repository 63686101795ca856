-- `filter::check::test_summary` meets its contract: one test, and what is decided of it. Assumes nothing.
use borrow.Author.Rules.{rules}
use Rattle.filter.proofs.Reading.{summary_test}
use Rattle.filter.proofs.check.test_summary.Goals as goal

pub returns : goal.returns
returns c = search (summary_test, rules)
