-- `row_opener::store::opened_value` meets its contract. Assumes nothing.
use borrow.Author.Rules.{rules}
use Rattle.row_opener.proofs.Opening.{value_is}
use Rattle.row_opener.proofs.store.opened_value.Goals as goal

pub returns : goal.returns
returns c = search (value_is, rules)
