-- `number::inside` meets its contract: twice the billionths keep half a unit whole. Assumes nothing.
use borrow.Author.Rules.{rules}
use Rattle.number.proofs.Range.{inside_found, inside_below}
use Rattle.number.proofs.inside.Goals as goal

pub returns-then-filter-narrow : goal.returns-then-filter-narrow
returns-then-filter-narrow c = search (inside_found, rules)

pub returns-else-filter-narrow : goal.returns-else-filter-narrow
returns-else-filter-narrow c = search (inside_below, rules)
