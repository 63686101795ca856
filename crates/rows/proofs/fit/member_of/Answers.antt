-- `rows::fit::member_of` meets its contract. Assumes nothing.
use borrow.Author.Rules.{rules}
use Rattle.rows.proofs.Cells.{test_index}
use Rattle.rows.proofs.Fitting.{member-fits, member_not}
use Rattle.rows.proofs.fit.member_of.Goals as goal

pub probe_fits-requires : goal.probe_fits-requires
probe_fits-requires c = search (test_index, rules)

pub bounds-tables-index : goal.bounds-tables-index
bounds-tables-index c = search (test_index, rules)

pub returns-then-probe_fits : goal.returns-then-probe_fits
returns-then-probe_fits c = search (member-fits, rules)

pub returns-else-probe_fits : goal.returns-else-probe_fits
returns-else-probe_fits c = search (member_not, rules)
