-- `card_reader::listed::chain_of` meets its contract. Assumes nothing.
use borrow.Author.Rules.{rules}
use Rattle.card_reader.proofs.Chains.{head_is}
use Rattle.card_reader.proofs.listed.chain_of.Goals as goal

pub returns : goal.returns
returns c = search (head_is, rules)
