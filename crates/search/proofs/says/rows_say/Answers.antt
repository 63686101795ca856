-- `search::says::rows_say` meets its contract. The loop's invariant: the rows to come decide, with what the pair at hand has said. Assumes nothing.
use borrow.Author.Rules.{rules}
use Rattle.search.proofs.Judging.{saying-starts, saying-row, saying_fails, saying-next, saying-ends}
use Rattle.search.proofs.says.rows_say.Goals as goal

pub loop-row-init : goal.loop-row-init
loop-row-init c = search (saying-starts, rules)

pub row_says-said-requires : goal.row_says-said-requires
row_says-said-requires c = search (saying-row, rules)

pub returns-then-is_unmet : goal.returns-then-is_unmet
returns-then-is_unmet c = search (saying_fails, rules)

pub loop-row-preserved : goal.loop-row-preserved
loop-row-preserved c = search (saying-next, rules)

pub returns : goal.returns
returns c = search (saying-ends, rules)
