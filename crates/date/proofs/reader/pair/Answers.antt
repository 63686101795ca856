-- `date::reader::pair` meets its contract: the tests are those of the definition, and the products are at most 10000. Assumes nothing.
use native.Mathlib.Nat.{le_refl, le_of_lt}
use Rattle.date.specs.Texts.{pair}
use Rattle.date.proofs.Texts.{product_fits, value-fits, pair-value}
use borrow.Author.Rules.{rules}
use Rattle.date.proofs.reader.pair.Goals as goal

pub overflow_mul-result : goal.overflow_mul-result
overflow_mul-result c = search (product_fits, le_of_lt, rules)

pub overflow_add-result : goal.overflow_add-result
overflow_add-result c = search (value-fits, rules)

pub returns-then-b-radix : goal.returns-then-b-radix
returns-then-b-radix c = search (pair-value, rules)

pub overflow_mul-result-2 : goal.overflow_mul-result-2
overflow_mul-result-2 c = search (product_fits, le_refl, rules)

pub returns : goal.returns
unfolding pair
returns c = search rules
