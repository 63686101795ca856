-- `row_writer::write::test_number` meets its contract. Assumes nothing.
use borrow.Author.Rules.{rules}
use Rattle.row_writer.proofs.Numbers.{number_is}
use Rattle.row_writer.proofs.write.test_number.Goals as goal

pub returns : goal.returns
returns c = (search (number_is, rules), search rules)
