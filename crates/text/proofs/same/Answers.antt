-- `text::same` meets its contract: texts of one length are the same where one starts with the other. Assumes nothing.
use borrow.Author.Rules.{rules}
use Rattle.text.proofs.Compare.{same_lengths, same_prefix}
use Rattle.text.proofs.same.Goals as goal

pub returns-then-a-b : goal.returns-then-a-b
returns-then-a-b c = search (same_lengths, rules)

pub returns : goal.returns
returns c = search (same_prefix, rules)
