-- `filter::check::join_summaries` meets its contract: the tests add up, and the first refusal is kept. Assumes nothing.
use borrow.Author.Rules.{rules}
use Rattle.filter.proofs.Reading.{summary_joined}
use Rattle.filter.proofs.check.join_summaries.Goals as goal

pub returns : goal.returns
returns c = search (summary_joined, rules)
