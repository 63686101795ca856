-- `selecting::select_by_text` meets its contract: check first, then the cards. Assumes nothing.
use borrow.Author.Rules.{rules}
use Rattle.std.proofs.lemmas.Result.{err_from_is_err_and}
use Rattle.answer.proofs.Passing.{passing, passing_sheet}
use Rattle.selecting.proofs.Selecting.{select_refused, text_selects}
use Rattle.selecting.proofs.select_by_text.Goals as goal

pub invariant_of-sheet : goal.invariant_of-sheet
invariant_of-sheet c = search (passing_sheet, c.in_ok-check.was, rules)

pub invariant_of-filter : goal.invariant_of-filter
invariant_of-filter c = (passing _ _ _ _ c.check.ensures c.in_ok-check.was).short

pub new-asking-requires : goal.new-asking-requires
new-asking-requires c = search (passing, c.in_ok-check.was, rules)

pub returns-in_err-check : goal.returns-in_err-check
returns-in_err-check c = let p = err_from_is_err_and c.from_residual.result c.from_residual.ensures.1 in rw (p.1, p.2) (search (select_refused, c.in_err-check.was, rules))

pub returns : goal.returns
returns c = search (text_selects, passing, c.in_ok-check.was, rules)
