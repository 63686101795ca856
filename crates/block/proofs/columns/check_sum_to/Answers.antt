-- `block::columns::check_sum_to` meets its contract: the rows that are left out are zero. Assumes nothing.
use borrow.Author.Rules.{rules}
use Rattle.block.proofs.Sum.{short_check_sum}
use Rattle.block.proofs.columns.check_sum_to.Goals as goal

pub returns-then-short : goal.returns-then-short
returns-then-short c = search (short_check_sum, rules)
