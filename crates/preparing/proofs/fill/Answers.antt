-- `preparing::fill` meets its contract: the sheet first, then the filter. Assumes nothing.
use borrow.Author.Rules.{rules}
use Rattle.std.proofs.lemmas.Result.{err_from_is_err_and}
use Rattle.preparing.proofs.Filled.{fill_refused, fill_right}
use Rattle.preparing.proofs.fill.Goals as goal

pub returns-in_err-sheet : goal.returns-in_err-sheet
returns-in_err-sheet c = let p = err_from_is_err_and c.from_residual.result c.from_residual.ensures.1 in rw (p.1, p.2) (search (fill_refused, c.in_err-sheet.ensures.refused, rules))

pub returns : goal.returns
returns c = search (fill_right, c.in_ok-sheet.ensures.accepted, rules)
