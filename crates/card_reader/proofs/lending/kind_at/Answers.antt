-- `card_reader::lending::kind_at` meets its contract. Assumes nothing.
use borrow.Author.Rules.{rules}
use Rattle.card_reader.proofs.Chains.{kind_is}
use Rattle.card_reader.proofs.lending.kind_at.Goals as goal

pub returns : goal.returns
returns c = search (kind_is, rules)
