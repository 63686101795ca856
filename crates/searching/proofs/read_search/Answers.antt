-- `searching::read_search` meets its contract: the sheet first, then the string. Assumes nothing.
use borrow.Author.Rules.{rules}
use Rattle.std.proofs.lemmas.Result.{err_from_is_err_and}
use Rattle.searching.proofs.SearchPassing.{accepted_within, rows_read, sheet_refuses, text_refuses}
use Rattle.searching.proofs.read_search.Goals as goal

pub returns-in_err-sheet : goal.returns-in_err-sheet
returns-in_err-sheet c = let p = err_from_is_err_and c.from_residual.result c.from_residual.ensures.1 in rw (p.1, p.2) (search (sheet_refuses, c.in_err-sheet.ensures.refused, rules))

pub invariant_of-check_rows : goal.invariant_of-check_rows
invariant_of-check_rows c = record { within = search (accepted_within, c.in_ok-rows.was, rules) }

pub returns-in_err-rows : goal.returns-in_err-rows
returns-in_err-rows c =
    let p = err_from_is_err_and c.from_residual-in_err-rows.result c.from_residual-in_err-rows.ensures.1 in
    rw (p.1, p.2) (search (text_refuses, c.in_ok-sheet.ensures.accepted.1, c.in_err-rows.was, rules))

pub returns : goal.returns
returns c = let a = c.in_ok-sheet.ensures.accepted in search (rows_read, a.0, a.1, c.in_ok-rows.was, rules)
