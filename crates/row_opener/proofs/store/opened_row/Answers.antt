-- `row_opener::store::opened_row` meets its contract: each row is a case of the definition. Assumes nothing.
use borrow.Author.Rules.{rules}
use Rattle.rows.proofs.Cells.{test_index}
use Rattle.row_opener.proofs.Opening.{row_test, row_bracket, row_not, row_connect, row_unknown}
use Rattle.row_opener.proofs.store.opened_row.Goals as goal

pub opened_probe-requires : goal.opened_probe-requires
opened_probe-requires c = search (test_index, rules)

pub returns-in-Test : goal.returns-in-Test
returns-in-Test c = search (row_test, rules)

pub returns-in-Bracket : goal.returns-in-Bracket
returns-in-Bracket c = search (row_bracket, rules)

pub returns-in-Not : goal.returns-in-Not
returns-in-Not c = search (row_not, rules)

pub returns-in-Connect : goal.returns-in-Connect
returns-in-Connect c = search (row_connect, rules)

pub returns-in-Unknown : goal.returns-in-Unknown
returns-in-Unknown c = search (row_unknown, rules)
