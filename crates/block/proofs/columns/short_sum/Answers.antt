-- `block::columns::short_sum` meets its contract: the total so far and the columns that are left are the sum over the rows. Assumes nothing.
use borrow.Author.Rules.{rules}
use Rattle.block.proofs.Sum.{short_start, short_next, short_end}
use Rattle.block.proofs.columns.short_sum.Goals as goal

pub loop-j-init : goal.loop-j-init
loop-j-init c = search (short_start, rules)

pub loop-j-preserved : goal.loop-j-preserved
loop-j-preserved c = search (short_next, rules)

pub returns : goal.returns
returns c = search (short_end, rules)
