-- `row_writer::write::bracket_cell` meets its contract. Assumes nothing.
use borrow.Author.Rules.{rules}
use Rattle.rows.specs.Cells.{cell_of}
use Rattle.row_writer.proofs.write.bracket_cell.Goals as goal

pub returns : goal.returns
unfolding cell_of
returns c = search rules
