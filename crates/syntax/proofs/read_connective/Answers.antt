-- `syntax::read_connective` meets its contract: the tests are those of the definition. Assumes nothing.
use borrow.Author.Rules.{rules}
use Rattle.syntax.proofs.Structure.{connective_no_gap, connective_and, connective_or, connective_none, word-within}
use Rattle.syntax.proofs.read_connective.Goals as goal

pub returns-then-word-at : goal.returns-then-word-at
returns-then-word-at c = search (connective_no_gap, rules)

pub skip-requires : goal.skip-requires
skip-requires c = search (word-within, rules)

pub returns-then-has : goal.returns-then-has
returns-then-has c = search (connective_and, rules)

pub skip-requires-then-has-2 : goal.skip-requires-then-has-2
skip-requires-then-has-2 c = search (word-within, rules)

pub returns-then-has-2 : goal.returns-then-has-2
returns-then-has-2 c = search (connective_or, rules)

pub returns : goal.returns
returns c = search (connective_none, rules)
