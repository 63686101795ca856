-- `row_writer::write::write_not` meets its contract: its cell stands behind those of the filter. Assumes nothing.
use borrow.Author.Rules.{rules}
use Rattle.rows.specs.Cells.{cell_of}
use Rattle.row_writer.proofs.write.write_not.Goals as goal

pub returns : goal.returns
unfolding cell_of
returns c = search rules
