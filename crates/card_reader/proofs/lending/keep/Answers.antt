-- `card_reader::lending::keep` meets its contract. Assumes nothing.
use borrow.Author.Rules.{rules}
use Rattle.card_reader.proofs.Lends.{keep_keeps}
use Rattle.card_reader.proofs.lending.keep.Goals as goal

pub returns : goal.returns
returns c = search (keep_keeps, rules)
