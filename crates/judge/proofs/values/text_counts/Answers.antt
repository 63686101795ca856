-- `judge::values::text_counts` meets its contract: the value is read, and then counts as before. Assumes nothing.
use borrow.Author.Rules.{rules}
use Rattle.judge.proofs.Once.{once_kept, once_counts}
use Rattle.judge.proofs.values.text_counts.Goals as goal

pub counts_read-requires : goal.counts_read-requires
counts_read-requires c = search (once_kept, rules)

pub returns : goal.returns
returns c = search (once_counts, rules)
