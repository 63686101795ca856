-- `block::columns::columns_of` meets its contract: the cells before `j` hold the sums of the columns before it. Assumes nothing.
use borrow.Author.Rules.{rules}
use Rattle.block.proofs.Sum.{columns_start, columns_next, columns_end}
use Rattle.block.proofs.columns.columns_of.Goals as goal

pub loop-j-init : goal.loop-j-init
loop-j-init c = search (columns_start, rules)

pub loop-j-preserved : goal.loop-j-preserved
loop-j-preserved c = search (columns_next, rules)

pub returns : goal.returns
returns c = search (columns_end, rules)
