-- `number::value_from` meets its contract. The loop's invariant: the digits left, written after the value so far, make the whole. Assumes nothing.
use borrow.Author.Rules.{rules}
use Rattle.number.proofs.Digits.{value-starts, value_times_ten, value-digit_low, value_room, value-next, value-ends}
use Rattle.number.proofs.value_from.Goals as goal

pub loop-b-init : goal.loop-b-init
loop-b-init c = search (value-starts, rules)

pub overflow_mul-value : goal.overflow_mul-value
overflow_mul-value c = search (value_times_ten, rules)

pub overflow_sub-b : goal.overflow_sub-b
overflow_sub-b c = search (value-digit_low, rules)

pub overflow_add-value : goal.overflow_add-value
overflow_add-value c = search (value_room, rules)

pub loop-b-preserved : goal.loop-b-preserved
loop-b-preserved c = search (value-next, rules)

pub returns : goal.returns
returns c = search (value-ends, rules)
