-- `syntax::read_dotted` meets its contract: the tests are those of the definition. Assumes nothing.
use borrow.Author.Rules.{rules}
use Rattle.syntax.proofs.Structure.{member_test, member_nothing, word-within}
use Rattle.syntax.proofs.read_dotted.Goals as goal

pub read_head-requires : goal.read_head-requires
read_head-requires c = search (word-within, rules)

pub returns-then-has : goal.returns-then-has
returns-then-has c = search (member_test, rules)

pub returns : goal.returns
returns c = search (member_nothing, rules)
