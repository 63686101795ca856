-- `rows::cell::row_of` meets its contract: a law for each test of the cell. Assumes nothing.
use borrow.Author.Rules.{rules}
use Rattle.rows.proofs.Cells.{cell_test, cell_bracket, cell_not, cell_and, cell_or, cell_unknown}
use Rattle.rows.proofs.cell.row_of.Goals as goal

pub returns-then-cell-eq0 : goal.returns-then-cell-eq0
returns-then-cell-eq0 c = search (cell_test, rules)

pub returns-then-cell-eq1 : goal.returns-then-cell-eq1
returns-then-cell-eq1 c = search (cell_bracket, rules)

pub returns-then-cell-eq3 : goal.returns-then-cell-eq3
returns-then-cell-eq3 c = search (cell_and, rules)

pub returns-then-cell-eq4 : goal.returns-then-cell-eq4
returns-then-cell-eq4 c = search (cell_or, rules)

pub returns-then-cell-eq2 : goal.returns-then-cell-eq2
returns-then-cell-eq2 c = search (cell_not, rules)

pub returns : goal.returns
returns c = search (cell_unknown, rules)
