-- `card_reader::entries::take_bytes` meets its contract. Assumes nothing.
use borrow.Author.Rules.{rules}
use Rattle.card_reader.proofs.TextReadings.{bytes_taken, bytes_misfit}
use Rattle.card_reader.proofs.entries.take_bytes.Goals as goal

pub returns : goal.returns
returns c = search (bytes_taken, rules)
