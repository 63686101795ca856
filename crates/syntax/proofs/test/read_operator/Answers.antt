-- `syntax::test::read_operator` meets its contract. The loop's invariant: the words left to try decide. Assumes nothing.
use borrow.Author.Rules.{rules}
use mathlib.Core.Path.{refl}
use mathlib.Core.List.{flatten}
use Rattle.base.specs.Operators.{operator_words}
use Rattle.syntax.proofs.Operators.{operator_letters, trying_starts, operator_short, trying_found, trying_next, trying_ends}
use Rattle.syntax.proofs.test.read_operator.Goals as goal

pub returns-then-s-at-lt2 : goal.returns-then-s-at-lt2
returns-then-s-at-lt2 c = search (operator_short, rules)

pub loop-k-init : goal.loop-k-init
unfolding operator_letters flatten operator_words
loop-k-init c = trying_starts _ _ _ refl

pub returns-then-letters-word : goal.returns-then-letters-word
returns-then-letters-word c =
    trying_found c.args.s.now c.args.at (search rules) _ c.loop-k.k c.loop-k.invariant (search rules) _ _ (search rules)
    c.from_be_bytes-letters.ensures (rw c.from-i.ensures at c.from_be_bytes-word.ensures) c.if-letters-word.true

pub loop-k-preserved : goal.loop-k-preserved
loop-k-preserved c =
    trying_next c.args.s.now c.args.at (search rules) _ c.loop-k.k c.loop-k.invariant (search rules) _ _ (search rules)
    c.from_be_bytes-letters.ensures (rw c.from-i.ensures at c.from_be_bytes-word.ensures) c.if-letters-word.false

pub returns : goal.returns
returns c = search (trying_ends, rules)
