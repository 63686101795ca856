-- `date::read` meets its contract: the length tells the spelling. Assumes nothing.
use Rattle.date.proofs.Texts.{read_year_lem, read_month_lem, read_day_lem, read_short, read-second, read_no_zone}
use borrow.Author.Rules.{rules}
use Rattle.date.proofs.reader.read.Goals as goal

pub returns-then-s-eq4 : goal.returns-then-s-eq4
returns-then-s-eq4 c = search (read_year_lem, rules)

pub returns-then-s-eq7 : goal.returns-then-s-eq7
returns-then-s-eq7 c = search (read_month_lem, rules)

pub returns-then-s-eq10 : goal.returns-then-s-eq10
returns-then-s-eq10 c = search (read_day_lem, rules)

pub returns-then-s-lt20 : goal.returns-then-s-lt20
returns-then-s-lt20 c = search (read_short, rules)

pub returns-in_err-offset : goal.returns-in_err-offset
returns-in_err-offset c = search (read_no_zone, rules)

pub returns : goal.returns
returns c = search (read-second, rules)
