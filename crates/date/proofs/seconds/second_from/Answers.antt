-- `date::seconds::second_from` meets its contract: a day has 86400 seconds, and the numbers are small. Assumes nothing.
use Rattle.date.proofs.Spans.{second-from_is}
use borrow.Author.Rules.{rules}
use Rattle.date.proofs.seconds.second_from.Goals as goal

pub returns : goal.returns
returns c = search (second-from_is, rules)
