-- `block::laid_out` meets its contract: an item that ends past byte 507 is laid out wrong. Assumes nothing.
use borrow.Author.Rules.{rules}
use Rattle.block.proofs.Items.{laid_to_past}
use Rattle.block.proofs.laid_out.Goals as goal

pub returns-then-past : goal.returns-then-past
returns-then-past c = search (laid_to_past, rules)
