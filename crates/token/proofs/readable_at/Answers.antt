-- `token::readable_at` meets its contract: an empty text and a lone bar alone are no form. Assumes nothing.
use borrow.Author.Rules.{rules}
use Rattle.token.proofs.Readable.{readable-at-bar, readable-at_none}
use Rattle.token.proofs.readable_at.Goals as goal

pub returns-then-bar-s : goal.returns-then-bar-s
returns-then-bar-s c = search (readable-at-bar, rules)

pub returns : goal.returns
returns c = search (readable-at_none, rules)
