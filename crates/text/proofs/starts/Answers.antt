-- `text::starts` meets its contract: a shorter text cannot start so, and the first part of a longer one is compared. Assumes nothing.
use borrow.Author.Rules.{rules}
use Rattle.text.specs.Compare.{starts}
use Rattle.text.proofs.Compare.{starts_short}
use Rattle.text.proofs.starts.Goals as goal

pub returns-then-a-b : goal.returns-then-a-b
returns-then-a-b c = search (starts_short, rules)

pub returns : goal.returns
unfolding starts
returns c = search rules
