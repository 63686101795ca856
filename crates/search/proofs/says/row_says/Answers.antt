-- `search::says::row_says` meets its contract: a row keeps the name and the text of its alternative. Assumes nothing.
use borrow.Author.Rules.{rules}
use Rattle.search.proofs.Judging.{row_met, row_said}
use Rattle.search.proofs.says.row_says.Goals as goal

pub returns-then-met : goal.returns-then-met
returns-then-met c = search (row_met, rules)

pub returns : goal.returns
returns c = search (row_said, rules)
