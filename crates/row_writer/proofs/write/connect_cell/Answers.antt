-- `row_writer::write::connect_cell` meets its contract. Assumes nothing.
use borrow.Author.Rules.{rules}
use Rattle.row_writer.proofs.Writing.{connect_and, connect_or}
use Rattle.row_writer.proofs.write.connect_cell.Goals as goal

pub returns-in-And : goal.returns-in-And
returns-in-And c = search (connect_and, rules)

pub returns-in-Or : goal.returns-in-Or
returns-in-Or c = search (connect_or, rules)
