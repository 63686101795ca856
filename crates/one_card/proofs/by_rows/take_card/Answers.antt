-- `one_card::by_rows::take_card` meets its contract: what reading says of the card decides. Assumes nothing.
use Rattle.std.proofs.lemmas.Result.{err_from_is_err_and}
use Rattle.one_card.proofs.Judging.{takes_refused, takes_misfit, takes_conforming}
use Rattle.one_card.proofs.by_rows.take_card.Goals as goal

pub returns-in_err-card : goal.returns-in_err-card
returns-in_err-card c = let p = err_from_is_err_and c.from_residual.result c.from_residual.ensures.1 in rw (p.1, p.2) (takes_refused _ _ _ c.read_card.ensures _ _ c.in_err-card.was)

pub returns-then-not-read_entries : goal.returns-then-not-read_entries
returns-then-not-read_entries c = takes_misfit _ _ _ c.read_card.ensures _ _ c.in_ok-card.was _ _ c.read_entries.ensures c.if-not-read_entries.true

pub returns : goal.returns
returns c = takes_conforming _ _ _ c.read_card.ensures _ _ c.in_ok-card.was _ _ c.read_entries.ensures c.if-not-read_entries.false
