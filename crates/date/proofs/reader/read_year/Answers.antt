-- `date::reader::read_year` meets its contract: a valid year, from its first day on. Assumes nothing.
use Rattle.base.proofs.Tests.{answered}
use Rattle.date.proofs.Fields.{year_says}
use Rattle.date.proofs.Calendar.{year_starts, year_small}
use Rattle.date.proofs.Texts.{year_on, year_off}
use borrow.Author.Rules.{rules}
use Rattle.date.proofs.reader.read_year.Goals as goal

pub day_number-requires : goal.day_number-requires
day_number-requires c = search (year_starts, year_says, answered, rules)

pub days_from-requires : goal.days_from-requires
days_from-requires c = search (year_small, year_says, answered, rules)

pub returns-then-valid_year : goal.returns-then-valid_year
returns-then-valid_year c = search (year_on, rules)

pub returns : goal.returns
returns c = search (year_off, rules)
