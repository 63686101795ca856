-- `syntax::read_open` meets its contract: the tests are those of the definition. Assumes nothing.
use borrow.Author.Rules.{rules}
use mathlib.Core.Path.{refl}
use Rattle.syntax.proofs.Structure.{open_bracket, open_nothing, open_not, open_not_nothing, word-within}
use Rattle.syntax.proofs.read_open.Goals as goal

pub skip-requires : goal.skip-requires
skip-requires c = search (word-within, rules)

pub returns-then-has : goal.returns-then-has
returns-then-has c = search (open_bracket, rules)

pub skip-bracket-requires : goal.skip-bracket-requires
skip-bracket-requires c = search (word-within, rules)

pub skip-requires-then-has-3 : goal.skip-requires-then-has-3
skip-requires-then-has-3 c = word-within _ _ _ _ _ c.has-then-has-2.ensures c.if-has-3.true c.skip-bracket.ensures.within refl

pub returns-then-has-3 : goal.returns-then-has-3
returns-then-has-3 c = search (open_not, rules)

pub returns-then-has-2 : goal.returns-then-has-2
returns-then-has-2 c = search (open_not_nothing, rules)

pub returns : goal.returns
returns c = search (open_nothing, rules)
