-- `card_reader::entries::begin` meets its contract. Assumes nothing.
use borrow.Author.Rules.{rules}
use Rattle.card_reader.proofs.Storing.{begun_is}
use Rattle.card_reader.proofs.entries.begin.Goals as goal

pub returns : goal.returns
returns c = search (begun_is, rules)
