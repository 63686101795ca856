-- `card_reader::related::reading_relates` meets its contract. Assumes nothing.
use borrow.Author.Rules.{rules}
use Rattle.card_reader.proofs.Relating.{serves_bounded, serves-number, serves-span}
use Rattle.card_reader.proofs.related.reading_relates.Goals as goal

pub number_relates-requires : goal.number_relates-requires
number_relates-requires c = search (serves_bounded, rules)

pub returns-in-Numbers-Number : goal.returns-in-Numbers-Number
returns-in-Numbers-Number c = search (serves-number, rules)

pub returns-in-Dates-Span : goal.returns-in-Dates-Span
returns-in-Dates-Span c = search (serves-span, rules)
