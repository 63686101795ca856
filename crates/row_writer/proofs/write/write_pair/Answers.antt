-- `row_writer::write::write_pair` meets its contract: the cell of the brackets, and behind it the test's. Assumes nothing.
use borrow.Author.Rules.{rules}
use Rattle.row_writer.proofs.Writing.{pair-written, second_room, one_test_more}
use Rattle.row_writer.proofs.write.write_pair.Goals as goal

pub returns : goal.returns
returns c = search (pair-written, rules)
