-- `token::ends_in_code` meets its contract: the first bar is not the last byte, so that a code stands behind it. Assumes nothing.
use borrow.Author.Rules.{rules}
use Rattle.token.proofs.Readable.{ends_empty, ends_code}
use Rattle.token.proofs.ends_in_code.Goals as goal

pub returns-then-s-eq0 : goal.returns-then-s-eq0
returns-then-s-eq0 c = λ h. ends_empty _ h

pub returns : goal.returns
returns c = λ h. ends_code _ (search rules) _ (search rules) h
