-- `report::tallies::raise_all` meets its contract: each turn is the next step. Assumes nothing.
use Rattle.std.proofs.Common.{sym}
use Rattle.report.proofs.Steps.{stepped_none, stepped_next}
use Rattle.report.proofs.tallies.raise_all.Goals as goal

pub loop-j-init : goal.loop-j-init
loop-j-init c = sym (stepped_none c.args.cards.now c.args.n c.args.rows.now)

pub loop-j-preserved : goal.loop-j-preserved
loop-j-preserved c = stepped_next _ _ _ _ c.loop-j.rows _ _ c.loop-j.invariant c.index_of-i.ensures c.raised.ensures
