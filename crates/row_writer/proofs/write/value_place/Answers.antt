-- `row_writer::write::value_place` meets its contract: a string begins one byte before its text. Assumes nothing.
use borrow.Author.Rules.{rules}
use Rattle.row_writer.proofs.Numbers.{read-ends, read_quotes, read_place}
use Rattle.row_writer.proofs.write.value_place.Goals as goal

pub overflow_sub-quotes : goal.overflow_sub-quotes
overflow_sub-quotes c = search (read-ends, rules)

pub overflow_sub-result : goal.overflow_sub-result
overflow_sub-result c = search (read_quotes, rules)

pub returns : goal.returns
returns c = (search (read_place, rules), search rules)
