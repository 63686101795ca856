-- `token::filter_readable` meets its contract: an empty text and a lone bar alone are unreadable. Assumes nothing.
use borrow.Author.Rules.{rules}
use Rattle.token.proofs.Readable.{filter_readable_empty, filter_readable_long, filter_readable_single}
use Rattle.token.proofs.filter_readable.Goals as goal

pub returns-then-s-eq0 : goal.returns-then-s-eq0
returns-then-s-eq0 c = search (filter_readable_empty, rules)

pub returns-then-s-gt1 : goal.returns-then-s-gt1
returns-then-s-gt1 c = search (filter_readable_long, rules)

pub returns : goal.returns
returns c = search (filter_readable_single, rules)
