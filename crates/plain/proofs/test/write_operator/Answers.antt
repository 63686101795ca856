-- `plain::test::write_operator` meets its contract: the letters are those of the word with its number. Assumes nothing.
use mathlib.Core.Path.{refl}
use mathlib.Core.List.{flatten}
use Rattle.base.specs.Operators.{operator_words}
use Rattle.syntax.proofs.Operators.{operator_letters}
use Rattle.plain.proofs.Tests.{operator_room, operator_puts}
use borrow.Author.Rules.{rules}
use Rattle.plain.proofs.test.write_operator.Goals as goal

pub write_word-requires : goal.write_word-requires
unfolding operator_letters flatten operator_words
write_word-requires c = operator_room _ c.from-i.result refl (rw c.from-i.ensures (search rules)) (rw c.from-i.ensures (search rules))

pub returns : goal.returns
unfolding operator_letters flatten operator_words
returns c = rw (← c.from-i.ensures) (operator_puts _ c.from-i.result refl (rw c.from-i.ensures (search rules)) c.write_word.ensures)
