-- `date::reader::read_month` meets its contract: a valid month, from its first day on. Assumes nothing.
use Rattle.base.proofs.Tests.{answered}
use Rattle.date.proofs.Fields.{month_says}
use Rattle.date.proofs.Calendar.{month_starts, month_small}
use Rattle.date.proofs.Texts.{month_on, month_off}
use borrow.Author.Rules.{rules}
use Rattle.date.proofs.reader.read_month.Goals as goal

pub day_number-requires : goal.day_number-requires
day_number-requires c = search (month_starts, month_says, answered, rules)

pub month_length-requires : goal.month_length-requires
month_length-requires c = search (month_says, answered, rules)

pub days_from-requires : goal.days_from-requires
days_from-requires c = search (month_small, month_says, answered, rules)

pub returns-then-valid_month : goal.returns-then-valid_month
returns-then-valid_month c = search (month_on, rules)

pub returns : goal.returns
returns c = search (month_off, rules)
