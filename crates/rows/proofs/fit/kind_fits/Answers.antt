-- `rows::fit::kind_fits` meets its contract. Assumes nothing.
use borrow.Author.Rules.{rules}
use Rattle.rows.proofs.Fitting.{kind_none, kind_bundle, kind_no_operator, kind_operator}
use Rattle.rows.proofs.fit.kind_fits.Goals as goal

pub returns-then-kind-eq0 : goal.returns-then-kind-eq0
returns-then-kind-eq0 c = search (kind_none, rules)

pub returns-then-kind : goal.returns-then-kind
returns-then-kind c = search (kind_bundle, rules)

pub returns-then-operator-ge-COUNT : goal.returns-then-operator-ge-COUNT
returns-then-operator-ge-COUNT c = search (kind_no_operator, rules)

pub returns : goal.returns
returns c = search (kind_operator, rules)
