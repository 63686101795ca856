-- `card_reader::listed::entry_counts` meets its contract. Assumes nothing.
use borrow.Author.Rules.{rules}
use borrow.Author.Tests.{not-true}
use Rattle.judge.proofs.Once.{once_kept}
use Rattle.card_reader.proofs.Chains.{holds_serves, entry_not, entry_text}
use Rattle.card_reader.proofs.listed.entry_counts.Goals as goal

pub reading_counts-requires : goal.reading_counts-requires
reading_counts-requires c = search (holds_serves, once_kept, rules)

pub returns-then-not-is_chosen : goal.returns-then-not-is_chosen
returns-then-not-is_chosen c = search (entry_not, not-true, rules)

pub returns : goal.returns
returns c = search (entry_text, rules)
