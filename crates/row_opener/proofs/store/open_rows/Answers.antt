-- `row_opener::store::open_rows` meets its contract: each turn puts the value of a row in its place. Assumes nothing.
use borrow.Author.Rules.{rules}
use Rattle.row_opener.proofs.Opening.{opening_end}
use Rattle.row_opener.proofs.store.open_rows.Goals as goal

pub returns : goal.returns
returns c = search (opening_end, rules)
