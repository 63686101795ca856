-- `query::query::push` meets its contract: the test is that of the definition. Assumes nothing.
use borrow.Author.Rules.{rules}
use Rattle.query.proofs.Keeping.{push_kept, push_counted}
use Rattle.query.proofs.query.push.Goals as goal

pub returns-then-k-lt32 : goal.returns-then-k-lt32
returns-then-k-lt32 c = search (push_kept, rules)

pub returns : goal.returns
returns c = search (push_counted, rules)
