-- `row_writer::write::close_round` meets its contract: the bracket closes with not before it or without, or does not close. Assumes nothing.
use borrow.Author.Rules.{rules}
use Rattle.row_writer.proofs.Writing.{close_none, close_found, close_not}
use Rattle.row_writer.proofs.write.close_round.Goals as goal

pub returns-in_err-end : goal.returns-in_err-end
returns-in_err-end c = search (close_none, rules)

pub returns-then-negate : goal.returns-then-negate
returns-then-negate c = search (close_not, rules)

pub returns : goal.returns
returns c = search (close_found, rules)
