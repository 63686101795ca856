-- `date::reader::read_day` meets its contract: a valid day. Assumes nothing.
use Rattle.base.proofs.Tests.{answered}
use Rattle.date.proofs.Fields.{day_says}
use Rattle.date.proofs.Calendar.{day_small}
use Rattle.date.proofs.Texts.{day_on, day_off}
use borrow.Author.Rules.{rules}
use Rattle.date.proofs.reader.read_day.Goals as goal

pub day_number-requires : goal.day_number-requires
day_number-requires c = search (day_says, answered, rules)

pub days_from-requires : goal.days_from-requires
days_from-requires c = search (day_small, day_says, answered, rules)

pub returns-then-valid_day : goal.returns-then-valid_day
returns-then-valid_day c = search (day_on, rules)

pub returns : goal.returns
returns c = search (day_off, rules)
