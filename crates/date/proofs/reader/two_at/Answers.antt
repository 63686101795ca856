-- `date::reader::two_at` meets its contract: two digits in radix 10. Assumes nothing.
use Rattle.date.proofs.Texts.{two_is}
use borrow.Author.Rules.{rules}
use Rattle.date.proofs.reader.two_at.Goals as goal

pub returns : goal.returns
returns c = search (two_is, rules)
