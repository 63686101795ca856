-- `date::days::valid_day` meets its contract: the tests are those of the definition. Assumes nothing.
use Rattle.base.proofs.Tests.{answered, and_off}
use Rattle.base.specs.Between.{between}
use Rattle.date.specs.Fields.{valid_day, valid_month}
use Rattle.date.proofs.Fields.{month_says, day_test}
use borrow.Author.Rules.{rules}
use Rattle.date.proofs.days.valid_day.Goals as goal

pub month_length-requires : goal.month_length-requires
month_length-requires c = search (month_says, answered, rules)

pub returns-then-valid_month : goal.returns-then-valid_month
unfolding valid_day valid_month between
returns-then-valid_month c = search (day_test, rules)

pub returns-else-valid_month : goal.returns-else-valid_month
unfolding valid_day
returns-else-valid_month c = search (and_off, rules)
