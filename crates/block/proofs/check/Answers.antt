-- `block::check` meets its contract: the tests are those of the definition, in its order. Assumes nothing.
use mathlib.Core.Path.{sym}
use borrow.Author.Rules.{rules}
use Rattle.block.proofs.Seal.{check-size_wrong, check_sum_wrong, check_right}
use Rattle.block.proofs.check.Goals as goal

pub returns-in_default-clause-flaw : goal.returns-in_default-clause-flaw
returns-in_default-clause-flaw c = sym (check-size_wrong _ c.in_default.ensures.1)

pub returns-then-check_sum-word-clause-flaw : goal.returns-then-check_sum-word-clause-flaw
returns-then-check_sum-word-clause-flaw c = let same = sym c.in-Ok.ensures.1.same in rw same (sym (search (check_sum_wrong, rules)))

pub returns-clause-block : goal.returns-clause-block
returns-clause-block c = let same = sym c.in-Ok.ensures.1.same in (sym same, rw same (sym (search (check_right, rules))))
