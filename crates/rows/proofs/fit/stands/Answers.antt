-- `rows::fit::stands` meets its contract. Assumes nothing.
use borrow.Author.Rules.{rules}
use Rattle.rows.proofs.Fitting.{stands_fits, stands_not}
use Rattle.rows.proofs.fit.stands.Goals as goal

pub returns-then-probe_fits : goal.returns-then-probe_fits
returns-then-probe_fits c = search (stands_fits, rules)

pub returns : goal.returns
returns c = search (stands_not, rules)
