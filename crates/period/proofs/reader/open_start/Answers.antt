-- `period::reader::open_start` meets its contract: the second is read. Assumes nothing.
use borrow.Author.Rules.{rules}
use Rattle.period.proofs.Texts.{start_unreadable, start_open}
use Rattle.period.proofs.reader.open_start.Goals as goal

pub returns-in_err-b : goal.returns-in_err-b
returns-in_err-b c = search (start_unreadable, rules)

pub returns : goal.returns
returns c = search (start_open, rules)
