-- `date::days::valid_time` meets its contract: the tests are those of the definition. Assumes nothing.
use borrow.Author.Tests.{le-leb, lt-leb}
use Rattle.date.specs.Fields.{valid_time}
use Rattle.date.proofs.days.valid_time.Goals as goal

pub returns-then-m-le59 : goal.returns-then-m-le59
unfolding valid_time
returns-then-m-le59 c = rw (le-leb _ _ c.if-h-le23.true, le-leb _ _ c.if-m-le59.true)

pub returns-else-m-le59 : goal.returns-else-m-le59
unfolding valid_time
returns-else-m-le59 c = rw (le-leb _ _ c.if-h-le23.true, lt-leb _ _ c.if-m-le59.false)

pub returns-else-h-le23 : goal.returns-else-h-le23
unfolding valid_time
returns-else-h-le23 c = rw (lt-leb _ _ c.if-h-le23.false)
