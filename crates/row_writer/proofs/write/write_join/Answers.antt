-- `row_writer::write::write_join` meets its contract: the cell has the size of the second part, and both parts are counted. Assumes nothing.
use borrow.Author.Rules.{rules}
use Rattle.row_writer.proofs.Writing.{join_written}
use Rattle.row_writer.proofs.write.write_join.Goals as goal

pub returns : goal.returns
returns c = search (join_written, rules)
