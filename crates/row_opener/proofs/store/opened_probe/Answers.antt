-- `row_opener::store::opened_probe` meets its contract. Assumes nothing.
use borrow.Author.Rules.{rules}
use mathlib.Core.Path.{◌∙◌}
use Rattle.syntax.proofs.Places.{value-at-placed}
use Rattle.row_opener.proofs.Opening.{for_nothing, for_value}
use Rattle.row_opener.proofs.store.opened_probe.Goals as goal

pub opened_text-requires : goal.opened_text-requires
opened_text-requires c = search (value-at-placed, c.in_ok-value.was, rules)

pub returns : goal.returns
returns c = search (for_value, c.in_ok-value.was, rules)

pub returns-in_err-value : goal.returns-in_err-value
returns-in_err-value c = c.from_residual.ensures ∙ for_nothing _ _ _ _ c.read_value.ensures c.in_err-value.was
