-- `card_reader::related::number_relates` meets its contract. Assumes nothing.
use borrow.Author.Rules.{rules}
use Rattle.card_reader.proofs.Relating.{kept_bounded, number_none, number_relates}
use Rattle.card_reader.proofs.related.number_relates.Goals as goal

pub returns-in_default : goal.returns-in_default
returns-in_default c = search (number_none, rules)

pub numbers_relate-requires : goal.numbers_relate-requires
numbers_relate-requires c = search (kept_bounded, rules)

pub returns : goal.returns
returns c = search (number_relates, rules)
