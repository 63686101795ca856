-- `number::read_fraction` meets its contract: each test is one of the definition's. Assumes nothing.
use borrow.Author.Rules.{rules}
use Rattle.number.proofs.Texts.{fraction_empty, fraction_long, fraction_no_digits, fraction_read, fraction_digits}
use Rattle.number.proofs.read_fraction.Goals as goal

pub returns-then-f-lt1 : goal.returns-then-f-lt1
returns-then-f-lt1 c = search (fraction_empty, rules)

pub returns-then-f-gt9 : goal.returns-then-f-gt9
returns-then-f-gt9 c = search (fraction_long, rules)

pub returns-then-digit_run-f : goal.returns-then-digit_run-f
returns-then-digit_run-f c = search (fraction_no_digits, rules)

pub value_from-requires : goal.value_from-requires
value_from-requires c = search (fraction_digits, rules)

pub returns : goal.returns
returns c = search (fraction_read, rules)
