-- `row_writer::write::write_test` meets its contract: the cell is the test's number, and it is counted with its fault. Assumes nothing.
use borrow.Author.Rules.{rules}
use Rattle.row_writer.proofs.Writing.{test_written}
use Rattle.row_writer.proofs.write.write_test.Goals as goal

pub returns : goal.returns
returns c = search (test_written, rules)
