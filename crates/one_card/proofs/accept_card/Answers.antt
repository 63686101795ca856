-- `one_card::accept_card` meets its contract: what reading says of the card decides. Assumes nothing.
use Rattle.std.proofs.lemmas.Result.{err_from_is_err_and}
use Rattle.one_card.proofs.Judging.{read-refused, read-misfit, read-conforms}
use Rattle.one_card.proofs.accept_card.Goals as goal

pub returns-in_err-card : goal.returns-in_err-card
returns-in_err-card c = let p = err_from_is_err_and c.from_residual.result c.from_residual.ensures.1 in rw (p.1, p.2) (read-refused _ _ _ c.read_card.ensures _ c.in_err-card.was)

pub returns-then-not-fits : goal.returns-then-not-fits
returns-then-not-fits c = read-misfit _ _ _ c.read_card.ensures _ c.in_ok-card.was _ c.conforms-fits.ensures c.if-not-fits.true

pub returns : goal.returns
returns c = read-conforms _ _ _ c.read_card.ensures _ c.in_ok-card.was _ c.conforms-fits.ensures c.if-not-fits.false
