-- `selecting::select_by_rows` meets its contract: the rows first, then the cards. Assumes nothing.
use borrow.Author.Rules.{rules}
use Rattle.std.proofs.lemmas.Result.{err_from_is_err_and}
use Rattle.selecting.proofs.RowsAsked.{filled_sheet, filled_short, filled_few, filled_whole, filled_room, filled_selects, filled_refused}
use Rattle.selecting.proofs.select_by_rows.Goals as goal

pub slice_bounds-rows-end : goal.slice_bounds-rows-end
slice_bounds-rows-end c = search (filled_room, c.in_ok-filled.was, rules)

pub invariant_of-sheet : goal.invariant_of-sheet
invariant_of-sheet c = search (filled_sheet, c.in_ok-filled.was, rules)

pub invariant_of-filter : goal.invariant_of-filter
invariant_of-filter c = search (filled_short, c.in_ok-filled.was, rules)

pub invariant_of-rows : goal.invariant_of-rows
invariant_of-rows c = (search (filled_whole, c.in_ok-filled.was, rules), search (filled_few, c.in_ok-filled.was, rules))

pub returns-in_err-filled : goal.returns-in_err-filled
returns-in_err-filled c = let p = err_from_is_err_and c.from_residual.result c.from_residual.ensures.1 in rw (p.1, p.2) (search (filled_refused, c.in_err-filled.was, rules))

pub returns : goal.returns
returns c = search (filled_selects, c.in_ok-filled.was, rules)
