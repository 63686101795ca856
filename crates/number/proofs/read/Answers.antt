-- `number::read` meets its contract: each test is one of the definition's. Assumes nothing.
use borrow.Author.Rules.{rules}
use native.Mathlib.Omega.{arith}
use lib.ListN.{length-take}
use Rattle.number.proofs.Texts.{read_no_digit, read_long, read_whole, read_no_point, read-point, whole-digits, whole_small}
use Rattle.number.proofs.read.Goals as goal

pub returns-then-run-lt1 : goal.returns-then-run-lt1
returns-then-run-lt1 c = search (read_no_digit, rules)

pub returns-then-run-gt8 : goal.returns-then-run-gt8
returns-then-run-gt8 c = search (read_long, rules)

pub slice_bounds-value_from-end : goal.slice_bounds-value_from-end
slice_bounds-value_from-end c = simp length-take (omega arith)

pub value_from-whole-requires : goal.value_from-whole-requires
value_from-whole-requires c = search (whole-digits, rules)

pub returns-then-run-s : goal.returns-then-run-s
returns-then-run-s c = search (read_whole, rules)

pub returns-then-s-run-ne46 : goal.returns-then-s-run-ne46
returns-then-s-run-ne46 c = search (read_no_point, rules)

pub read_fraction-requires : goal.read_fraction-requires
read_fraction-requires c = search (whole_small, rules)

pub returns : goal.returns
returns c = search (read-point, rules)
