-- `token::card_readable` meets its contract: what stands behind the first bar, or the whole text where there is none, is the code. Assumes nothing.
use borrow.Author.Rules.{rules}
use Rattle.token.proofs.Readable.{code_readable, card-readable-at-bar, card-readable_no_bar}
use Rattle.token.proofs.card_readable.Goals as goal

pub returns-then-ends_in_code : goal.returns-then-ends_in_code
returns-then-ends_in_code c = search (code_readable, rules)

pub returns-then-bar-s : goal.returns-then-bar-s
returns-then-bar-s c = search (card-readable-at-bar, rules)

pub returns : goal.returns
returns c = search (card-readable_no_bar, rules)
