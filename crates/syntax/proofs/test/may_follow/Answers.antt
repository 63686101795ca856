-- `syntax::test::may_follow` meets its contract: the tests are those of the definition. Assumes nothing.
use borrow.Author.Rules.{rules}
use Rattle.syntax.proofs.Tests.{follows_end, follows_space, follows_close}
use Rattle.syntax.proofs.test.may_follow.Goals as goal

pub returns-then-at-s : goal.returns-then-at-s
returns-then-at-s c = search (follows_end, rules)

pub returns-then-b-eq32 : goal.returns-then-b-eq32
returns-then-b-eq32 c = search (follows_space, rules)

pub returns : goal.returns
returns c = search (follows_close, rules)
