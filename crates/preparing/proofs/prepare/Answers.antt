-- `preparing::prepare` meets its contract: the room decides after all else. Assumes nothing.
use borrow.Author.Rules.{rules}
use Rattle.std.proofs.lemmas.Result.{err_from_is_err_and}
use Rattle.preparing.proofs.Filled.{prepare_refused, prepare_short, prepare_done}
use Rattle.preparing.proofs.prepare.Goals as goal

pub returns-in_err-cells : goal.returns-in_err-cells
returns-in_err-cells c = let p = err_from_is_err_and c.from_residual.result c.from_residual.ensures.1 in rw (p.1, p.2) (prepare_refused _ _ _ _ _ c.fill.ensures _ c.in_err-cells.was)

pub returns-then-cells-list : goal.returns-then-cells-list
returns-then-cells-list c = search (prepare_short, c.in_ok-cells.was, rules)

pub returns : goal.returns
returns c = search (prepare_done, c.in_ok-cells.was, rules)
