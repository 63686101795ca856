-- `token::matches_at` meets its contract: it is that of `split_matches` without the short names. Assumes nothing.
use borrow.Author.Rules.{rules}
use Rattle.token.proofs.Match.{matches-at_by}
use Rattle.token.proofs.matches_at.Goals as goal

pub returns : goal.returns
returns c = search (matches-at_by, rules)
