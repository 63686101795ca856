-- `card_reader::entries::take_period` meets its contract. Assumes nothing.
use borrow.Author.Rules.{rules}
use Rattle.card_reader.proofs.TextReadings.{period_taken, period_misfit}
use Rattle.card_reader.proofs.entries.take_period.Goals as goal

pub returns-in_default : goal.returns-in_default
returns-in_default c = search (period_misfit, rules)

pub returns : goal.returns
returns c = search (period_taken, rules)
