-- `period::reader::both_ends` meets its contract: both are read. Assumes nothing.
use borrow.Author.Rules.{rules}
use Rattle.period.proofs.Texts.{first_unreadable, second_unreadable, both-readable}
use Rattle.period.proofs.reader.both_ends.Goals as goal

pub returns-in_err-a : goal.returns-in_err-a
returns-in_err-a c = search (first_unreadable, rules)

pub returns-in_err-b : goal.returns-in_err-b
returns-in_err-b c = search (second_unreadable, rules)

pub returns : goal.returns
returns c = search (both-readable, rules)
