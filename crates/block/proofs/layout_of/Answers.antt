-- `block::layout_of` meets its contract. Assumes nothing.
use borrow.Author.Rules.{rules}
use Rattle.block.proofs.Items.{either_laid}
use Rattle.block.proofs.layout_of.Goals as goal

pub returns : goal.returns
returns c = either_laid _ _ _ _ _ _ _ c.layout_from.ensures (search rules)
