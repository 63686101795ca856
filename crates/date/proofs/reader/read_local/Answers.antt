-- `date::reader::read_local` meets its contract: a valid day and a valid time of it. Assumes nothing.
use Rattle.base.proofs.Tests.{answered}
use Rattle.date.proofs.Fields.{day_says, time_says, time_bound}
use Rattle.date.proofs.Calendar.{day_bound}
use Rattle.date.proofs.Texts.{local_on, local_day, local_time}
use borrow.Author.Rules.{rules}
use Rattle.date.proofs.reader.read_local.Goals as goal

pub day_number-requires : goal.day_number-requires
day_number-requires c = search (day_says, answered, rules)

pub second_of_day-requires : goal.second_of_day-requires
second_of_day-requires c = search (time_says, answered, rules)

pub second_from-requires : goal.second_from-requires
second_from-requires c = search (day_bound, time_bound, day_says, time_says, answered, rules)

pub returns-then-valid_time : goal.returns-then-valid_time
returns-then-valid_time c = search (local_on, rules)

pub returns-else-valid_time : goal.returns-else-valid_time
returns-else-valid_time c = search (local_time, rules)

pub returns-else-valid_day : goal.returns-else-valid_day
returns-else-valid_day c = search (local_day, rules)
