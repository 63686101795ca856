-- `plain::value::is_plain` meets its contract: the tests are those of the definition. Assumes nothing.
use borrow.Author.Rules.{rules}
use Rattle.plain.proofs.Bytes.{plain-quote, plain_other}
use Rattle.plain.proofs.value.is_plain.Goals as goal

pub returns-then-b-ne34 : goal.returns-then-b-ne34
returns-then-b-ne34 c = search (plain_other, rules)

pub returns-else-b-ne34 : goal.returns-else-b-ne34
returns-else-b-ne34 c = search (plain-quote, rules)
