-- `block::read_block` meets its contract: size and check sum are told before the layout. Assumes nothing.
use mathlib.Core.Path.{sym}
use borrow.Author.Rules.{rules}
use Rattle.block.proofs.Items.{laid_zero}
use Rattle.block.proofs.Readings.{block_size, block_sum, block_right, block_wrong}
use Rattle.block.proofs.read_block.Goals as goal

pub returns-in_default : goal.returns-in_default
returns-in_default c = block_size _ _ c.in_default.ensures.1

pub check_sum_to-requires : goal.check_sum_to-requires
check_sum_to-requires c = search (laid_zero, rules)

pub returns-then-check_sum_to-word : goal.returns-then-check_sum_to-word
returns-then-check_sum_to-word c = let same = sym c.in-Ok.ensures.1.same in rw same (search (block_sum, rules))

pub returns-then-check_sum-word : goal.returns-then-check_sum-word
returns-then-check_sum-word c = let same = sym c.in-Ok.ensures.1.same in rw same (search (block_sum, rules))

pub returns-else-check_sum_to-word : goal.returns-else-check_sum_to-word
returns-else-check_sum_to-word c = let same = sym c.in-Ok.ensures.1.same in rw same (search (block_right, rules))

pub returns-else-check_sum-word : goal.returns-else-check_sum-word
returns-else-check_sum-word c = let same = sym c.in-Ok.ensures.1.same in rw same (search (block_wrong, rules))
