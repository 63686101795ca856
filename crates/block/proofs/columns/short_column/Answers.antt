-- `block::columns::short_column` meets its contract. Assumes nothing.
use borrow.Author.Rules.{rules}
use Rattle.block.proofs.Sum.{short_column}
use Rattle.block.proofs.columns.short_column.Goals as goal

pub returns : goal.returns
returns c = search (short_column, rules)
