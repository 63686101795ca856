-- `date::days::month_length` meets its contract: the arithmetic gives the length of each month but February. Assumes nothing.
use Rattle.date.proofs.Calendar.{february_leap, february_common, length_other}
use borrow.Author.Rules.{rules}
use Rattle.date.proofs.days.month_length.Goals as goal

pub returns-then-leap_year : goal.returns-then-leap_year
returns-then-leap_year c = search (february_leap, rules)

pub returns-then-m-eq2 : goal.returns-then-m-eq2
returns-then-m-eq2 c = search (february_common, rules)

pub returns : goal.returns
returns c = search (length_other, rules)
