-- `period::reader::from_to` meets its contract: it asks whether the first starts before the second ends. Assumes nothing.
use borrow.Author.Rules.{rules}
use Rattle.period.proofs.Texts.{from_to_on, from_to_off}
use Rattle.period.proofs.reader.from_to.Goals as goal

pub returns-then-in_order : goal.returns-then-in_order
returns-then-in_order c = search (from_to_on, rules)

pub returns : goal.returns
returns c = search (from_to_off, rules)
