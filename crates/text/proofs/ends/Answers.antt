-- `text::ends` meets its contract: a shorter text cannot end so, and a longer one's last part is compared. Assumes nothing.
use borrow.Author.Rules.{rules}
use Rattle.text.proofs.Compare.{ends_short, ends_prefix}
use Rattle.text.proofs.ends.Goals as goal

pub returns-then-a-b : goal.returns-then-a-b
returns-then-a-b c = search (ends_short, rules)

pub returns : goal.returns
returns c = search (ends_prefix, rules)
