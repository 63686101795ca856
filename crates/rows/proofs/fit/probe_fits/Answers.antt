-- `rows::fit::probe_fits` meets its contract. Assumes nothing.
use borrow.Author.Rules.{rules}
use borrow.Author.Tests.{not-true, not-false}
use Rattle.rows.proofs.Fitting.{probe_no_kind, probe_no_value, probe_value}
use Rattle.syntax.proofs.Places.{value-at-placed}
use Rattle.rows.proofs.fit.probe_fits.Goals as goal

pub returns-then-not-kind_fits : goal.returns-then-not-kind_fits
returns-then-not-kind_fits c = search (probe_no_kind, not-true, rules)

pub value_fits-requires : goal.value_fits-requires
value_fits-requires c = search (value-at-placed, rules)

pub returns : goal.returns
returns c = probe_value _ _ _ _ _ c.kind_fits.ensures (search rules) (search (not-false, rules)) _ c.read_value.ensures _ _ c.in-Some.is c.value_fits.ensures

pub returns-in_default : goal.returns-in_default
returns-in_default c = search (probe_no_value, not-false, rules)
