-- `block::layout_from` meets its contract: the tests are those of the definition, in its order. Assumes nothing.
use borrow.Author.Rules.{rules}
use Rattle.block.proofs.Items.{layout_first_not, layout_many, layout_laid}
use Rattle.block.proofs.layout_from.Goals as goal

pub returns-then-block-first : goal.returns-then-block-first
returns-then-block-first c = search (layout_first_not, rules)

pub returns-then-count-form : goal.returns-then-count-form
returns-then-count-form c = search (layout_many, rules)

pub returns : goal.returns
returns c = search (layout_laid, rules)
