-- `date::days::days_before_month` meets its contract: the arithmetic gives the sum of the lengths of the earlier months. Assumes nothing.
use Rattle.date.proofs.Calendar.{before_early, before_leap, before_common}
use borrow.Author.Rules.{rules}
use Rattle.date.proofs.days.days_before_month.Goals as goal

pub returns-then-m-le2 : goal.returns-then-m-le2
returns-then-m-le2 c = search (before_early, rules)

pub returns-then-leap_year : goal.returns-then-leap_year
returns-then-leap_year c = search (before_leap, rules)

pub returns : goal.returns
returns c = search (before_common, rules)
