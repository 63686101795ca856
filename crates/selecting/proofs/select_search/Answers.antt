-- `selecting::select_search` meets its contract: the string first, then the cards. Assumes nothing.
use borrow.Author.Rules.{rules}
use Rattle.std.proofs.lemmas.Result.{err_from_is_err_and}
use Rattle.searching.proofs.SearchPassing.{passed_sheet, passed_within}
use Rattle.selecting.proofs.SearchAsked.{search_selects, select_search_refused}
use Rattle.selecting.proofs.select_search.Goals as goal

pub new-asking-requires : goal.new-asking-requires
new-asking-requires c = search (passed_sheet, passed_within, c.in_ok-rows.was, rules)

pub returns-in_err-rows : goal.returns-in_err-rows
returns-in_err-rows c = let p = err_from_is_err_and c.from_residual.result c.from_residual.ensures.1 in rw (p.1, p.2) (search (select_search_refused, c.in_err-rows.was, rules))

pub returns : goal.returns
returns c = search (search_selects, c.in_ok-rows.was, rules)
