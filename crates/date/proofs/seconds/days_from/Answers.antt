-- `date::seconds::days_from` meets its contract: a day has 86400 seconds, and the numbers are small. Assumes nothing.
use Rattle.date.specs.Spans.{days_from}
use borrow.Author.Rules.{rules}
use Rattle.date.proofs.seconds.days_from.Goals as goal

pub returns : goal.returns
unfolding days_from
returns c = search rules
