-- `date::seconds::date_of` meets its contract: both ends are instants, read back from their bits. Assumes nothing.
use Rattle.date.proofs.Spans.{date_of_is}
use borrow.Author.Rules.{rules}
use Rattle.date.proofs.seconds.date_of.Goals as goal

pub returns : goal.returns
returns c = search (date_of_is, rules)
