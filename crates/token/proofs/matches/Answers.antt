-- `token::matches` meets its contract: a filter's text is split at its first bar. Assumes nothing.
use borrow.Author.Rules.{rules}
use Rattle.token.proofs.Match.{matches_by}
use Rattle.token.proofs.matches.Goals as goal

pub returns : goal.returns
returns c = search (matches_by, rules)
