-- `date::days::year_length` meets its contract: the two lengths of a year. Assumes nothing.
use Rattle.date.proofs.Calendar.{year_leap, year_common}
use borrow.Author.Rules.{rules}
use Rattle.date.proofs.days.year_length.Goals as goal

pub returns-then-leap_year : goal.returns-then-leap_year
returns-then-leap_year c = search (year_leap, rules)

pub returns : goal.returns
returns c = search (year_common, rules)
