-- `sealing::record` meets its contract: each case by its test of the size. Assumes nothing.
use borrow.Author.Rules.{rules}
use Rattle.sealing.proofs.Sealing.{record_refused, record_read}
use Rattle.sealing.proofs.record.Goals as goal

pub returns-then-card-ne512 : goal.returns-then-card-ne512
returns-then-card-ne512 c = search (record_refused, rules)

pub returns : goal.returns
returns c = search (record_read, rules)
