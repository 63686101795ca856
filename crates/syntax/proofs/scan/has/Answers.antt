-- `syntax::scan::has` meets its contract: a text begins with a word where its first bytes are the word's. Assumes nothing.
use borrow.Author.Rules.{rules}
use Rattle.syntax.proofs.Words.{has_short, has_equal}
use Rattle.syntax.proofs.scan.has.Goals as goal

pub returns-then-s-at : goal.returns-then-s-at
returns-then-s-at c = search (has_short, rules)

pub returns : goal.returns
returns c = search (has_equal, rules)
