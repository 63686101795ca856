-- `number::covers` meets its contract: twice the billionths keep half a unit whole. Assumes nothing.
use borrow.Author.Rules.{rules}
use Rattle.number.proofs.Exact.{covers-found, covers_below}
use Rattle.number.proofs.covers.Goals as goal

pub returns-then-middle-asked : goal.returns-then-middle-asked
returns-then-middle-asked c = search (covers-found, rules)

pub returns-else-middle-asked : goal.returns-else-middle-asked
returns-else-middle-asked c = search (covers_below, rules)
