-- `card_reader::entries::take_number` meets its contract. Assumes nothing.
use borrow.Author.Rules.{rules}
use Rattle.card_reader.proofs.TextReadings.{number_taken, number_misfit}
use Rattle.card_reader.proofs.entries.take_number.Goals as goal

pub returns-in_default : goal.returns-in_default
returns-in_default c = search (number_misfit, rules)

pub returns : goal.returns
returns c = search (number_taken, rules)
