-- `syntax::value::read_value` meets its contract: the tests are those of the definition. Assumes nothing.
use native.Mathlib.Omega.{arith}
use borrow.Author.Rules.{rules}
use Rattle.syntax.proofs.Values.{value_end, value-string, value_open, value_bare, value_none, string-within}
use Rattle.syntax.proofs.value.read_value.Goals as goal

pub returns-then-at-s : goal.returns-then-at-s
returns-then-at-s c = search (value_end, rules)

pub overflow_add-result : goal.overflow_add-result
overflow_add-result c = omega (arith, string-within _ _ _ _ c.read_string.ensures c.in_ok-string.was (search rules))

pub returns-then-b-eq34 : goal.returns-then-b-eq34
returns-then-b-eq34 c = search (value-string, rules)

pub returns-in_err-string : goal.returns-in_err-string
returns-in_err-string c = search (value_open, rules)

pub returns-then-is_bare : goal.returns-then-is_bare
returns-then-is_bare c = search (value_bare, rules)

pub returns : goal.returns
returns c = search (value_none, rules)
