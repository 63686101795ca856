-- `rows::cell::probe_of` meets its contract: each part of the number is what the division leaves. Assumes nothing.
use borrow.Author.Rules.{rules}
use Rattle.rows.specs.Cells.{probe_of}
use Rattle.rows.proofs.cell.probe_of.Goals as goal

pub returns : goal.returns
unfolding probe_of
returns c = search rules
