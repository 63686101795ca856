-- `card_reader::entries::take_date` meets its contract. Assumes nothing.
use borrow.Author.Rules.{rules}
use Rattle.card_reader.proofs.TextReadings.{date_taken, date_misfit}
use Rattle.card_reader.proofs.entries.take_date.Goals as goal

pub returns-in_default : goal.returns-in_default
returns-in_default c = search (date_misfit, rules)

pub returns : goal.returns
returns c = search (date_taken, rules)
