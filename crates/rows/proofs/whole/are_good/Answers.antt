-- `rows::whole::are_good` meets its contract. Assumes nothing.
use borrow.Author.Rules.{rules}
use Rattle.rows.proofs.Good.{too_many, none_good, many_good, few_good}
use Rattle.rows.proofs.whole.are_good.Goals as goal

pub returns-then-rows-gt-MOST_ROWS : goal.returns-then-rows-gt-MOST_ROWS
returns-then-rows-gt-MOST_ROWS c = search (too_many, rules)

pub returns-in_default : goal.returns-in_default
returns-in_default c = search (none_good, rules)

pub returns-then-shape-le32 : goal.returns-then-shape-le32
returns-then-shape-le32 c = search (few_good, rules)

pub returns-else-shape-le32 : goal.returns-else-shape-le32
returns-else-shape-le32 c = search (many_good, rules)
