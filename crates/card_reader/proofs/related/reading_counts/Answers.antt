-- `card_reader::related::reading_counts` meets its contract. Assumes nothing.
use borrow.Author.Rules.{rules}
use Rattle.judge.proofs.Once.{read_present, read_relates, read-differs, read_nothing}
use Rattle.card_reader.proofs.related.reading_counts.Goals as goal

pub returns-in-Present : goal.returns-in-Present
returns-in-Present c = search (read_present, rules)

pub returns-in-Relates : goal.returns-in-Relates
returns-in-Relates c = search (read_relates, rules)

pub returns-in-Differs : goal.returns-in-Differs
returns-in-Differs c = search (read-differs, rules)

pub returns-in-Nothing : goal.returns-in-Nothing
returns-in-Nothing c = search (read_nothing, rules)
