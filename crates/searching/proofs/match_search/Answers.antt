-- `searching::match_search` meets its contract: the string first, then the card. Assumes nothing.
use borrow.Author.Rules.{rules}
use Rattle.std.proofs.lemmas.Result.{err_from_is_err_and}
use Rattle.searching.proofs.SearchPassing.{passed_sheet, passed_within, search_refused, search_answered}
use Rattle.searching.proofs.match_search.Goals as goal

pub invariant_of-sheet : goal.invariant_of-sheet
invariant_of-sheet c = search (passed_sheet, c.in_ok-rows.was, rules)

pub invariant_of-asked : goal.invariant_of-asked
invariant_of-asked c = record { within = search (passed_within, c.in_ok-rows.was, rules) }

pub returns-in_err-rows : goal.returns-in_err-rows
returns-in_err-rows c = let p = err_from_is_err_and c.from_residual.result c.from_residual.ensures.1 in rw (p.1, p.2) (search (search_refused, c.in_err-rows.was, rules))

pub returns : goal.returns
returns c = search (search_answered, c.in_ok-rows.was, rules)
