-- `block::place_at` meets its contract. Assumes nothing.
use borrow.Author.Rules.{rules}
use Rattle.block.proofs.Items.{item-marked, item-plain}
use Rattle.block.proofs.place_at.Goals as goal

pub returns-then-has_marks : goal.returns-then-has_marks
returns-then-has_marks c = search (item-marked, rules)

pub returns : goal.returns
returns c = search (item-plain, rules)
