-- `searching::check_search` meets its contract: the rows are counted. Assumes nothing.
use borrow.Author.Rules.{rules}
use Rattle.std.proofs.lemmas.Result.{err_from_is_err_and}
use Rattle.searching.proofs.SearchPassing.{rows_counted, rows_refused}
use Rattle.searching.proofs.check_search.Goals as goal

pub returns-in_err-read : goal.returns-in_err-read
returns-in_err-read c = let p = err_from_is_err_and c.from_residual.result c.from_residual.ensures.1 in rw (p.1, p.2) (search (rows_refused, c.in_err-read.was, rules))

pub returns : goal.returns
returns c = search (rows_counted, c.in_ok-read.was, rules)
