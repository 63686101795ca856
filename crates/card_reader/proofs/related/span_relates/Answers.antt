-- `card_reader::related::span_relates` meets its contract. Assumes nothing.
use borrow.Author.Rules.{rules}
use Rattle.card_reader.proofs.Relating.{span_none, span_relates}
use Rattle.card_reader.proofs.related.span_relates.Goals as goal

pub returns-in_default : goal.returns-in_default
returns-in_default c = search (span_none, rules)

pub returns : goal.returns
returns c = search (span_relates, rules)
