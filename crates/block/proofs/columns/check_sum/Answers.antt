-- `block::columns::check_sum` meets its contract: the total so far and the columns that are left are the sum over all 512 bytes.
use borrow.Author.Rules.{rules}
use Rattle.block.proofs.Sum.{whole-start, whole-next, whole_rest, whole_end}
use Rattle.block.proofs.columns.check_sum.Goals as goal

pub loop-j-init : goal.loop-j-init
loop-j-init c = search (whole-start, rules)

pub loop-j-preserved : goal.loop-j-preserved
loop-j-preserved c = search (whole-next, rules)

pub overflow_sub-result : goal.overflow_sub-result
overflow_sub-result c = search (whole_rest, rules)

pub returns : goal.returns
returns c = search (whole_end, rules)
