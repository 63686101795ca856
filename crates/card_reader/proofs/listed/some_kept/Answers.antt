-- `card_reader::listed::some_kept` meets its contract. Assumes nothing.
use borrow.Author.Rules.{rules}
use Rattle.card_reader.proofs.Chains.{chain_begins, first_some}
use Rattle.card_reader.proofs.listed.some_kept.Goals as goal

pub next_counting-requires : goal.next_counting-requires
next_counting-requires c = search (chain_begins, rules)

pub returns : goal.returns
returns c = search (first_some, rules)
