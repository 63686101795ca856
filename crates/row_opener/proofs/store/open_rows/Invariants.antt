-- `row_opener::store::open_rows` meets its contract: each turn puts the value of a row in its place. Assumes nothing.
use Rattle.row_opener.proofs.Opening.{Opening}
use Rattle.row_opener.proofs.store.open_rows.Given as goal

abbrev pub invariant-loop-i : goal.invariant-loop-i
invariant-loop-i l = Opening l.kinds l.filter l.rows l.values l.i
