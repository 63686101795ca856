-- `date::reader::four_at` meets its contract: two numbers of two digits in radix 100. Assumes nothing.
use Rattle.date.proofs.Texts.{four_is}
use borrow.Author.Rules.{rules}
use Rattle.date.proofs.reader.four_at.Goals as goal

pub returns : goal.returns
returns c = search (four_is, rules)
