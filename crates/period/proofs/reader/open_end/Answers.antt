-- `period::reader::open_end` meets its contract: the first is read. Assumes nothing.
use borrow.Author.Rules.{rules}
use Rattle.period.proofs.Texts.{end_unreadable, end_open}
use Rattle.period.proofs.reader.open_end.Goals as goal

pub returns-in_err-a : goal.returns-in_err-a
returns-in_err-a c = search (end_unreadable, rules)

pub returns : goal.returns
returns c = search (end_open, rules)
