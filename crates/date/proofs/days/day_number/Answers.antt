-- `date::days::day_number` meets its contract: years, months and days are counted as the sums of the definition. Assumes nothing.
use native.Mathlib.Omega.{arith}
use Rattle.date.proofs.Calendar.{day_of_year, day_number_is}
use borrow.Author.Rules.{rules}
use Rattle.date.proofs.days.day_number.Goals as goal

pub overflow_add-result-3 : goal.overflow_add-result-3
overflow_add-result-3 c = omega (arith, day_of_year c.requires)

pub overflow_add-result-4 : goal.overflow_add-result-4
overflow_add-result-4 c = omega (arith, day_of_year c.requires)

pub returns : goal.returns
returns c = search (day_number_is, rules)
