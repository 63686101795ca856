-- `query::query::accept_query` meets its contract: the tests are those of the definition. Assumes nothing.
use borrow.Author.Rules.{rules}
use Rattle.std.proofs.lemmas.Result.{err_from_is_err_and}
use Rattle.query.proofs.Accepting.{query_empty, query_long, query_refused, query_many, query_accepted}
use Rattle.query.proofs.query.accept_query.Goals as goal

pub returns-then-text-eq0 : goal.returns-then-text-eq0
returns-then-text-eq0 c = search (query_empty, rules)

pub returns-then-text-gt1024 : goal.returns-then-text-gt1024
returns-then-text-gt1024 c = search (query_long, rules)

pub returns-in_err-rows : goal.returns-in_err-rows
returns-in_err-rows c = let p = err_from_is_err_and c.from_residual.result c.from_residual.ensures.1 in rw (p.1, p.2) (search (query_refused, c.in_err-rows.was, rules))

pub returns-then-many : goal.returns-then-many
returns-then-many c = search (query_many, c.in_ok-rows.was, rules)

pub returns : goal.returns
returns c = search (query_accepted, c.in_ok-rows.was, rules)
