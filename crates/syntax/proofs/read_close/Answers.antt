-- `syntax::read_close` meets its contract: the test is that of the definition. Assumes nothing.
use borrow.Author.Rules.{rules}
use Rattle.syntax.proofs.Structure.{close_here, close_nothing}
use Rattle.syntax.proofs.read_close.Goals as goal

pub returns-then-has : goal.returns-then-has
returns-then-has c = search (close_here, rules)

pub returns : goal.returns
returns c = search (close_nothing, rules)
