-- `kind::readable::reads_on_card` meets its contract: a number, a date and a period are readable where they read to one. Assumes nothing.
use borrow.Author.Rules.{rules}
use Rattle.number.specs.Reading as numbers
use Rattle.date.specs.Texts as dates
use Rattle.period.specs.Texts as periods
use Rattle.kind.specs.Table.{kinds, of_kind}
use Rattle.kind.specs.Readable.{card_readable}
use Rattle.kind.proofs.readable.reads_on_card.Goals as goal

pub returns-in-Number : goal.returns-in-Number
unfolding card_readable of_kind kinds numbers.readable
returns-in-Number c = search rules

pub returns-in-Date : goal.returns-in-Date
unfolding card_readable of_kind kinds dates.readable
returns-in-Date c = search rules

pub returns-in-Period : goal.returns-in-Period
unfolding card_readable of_kind kinds periods.readable
returns-in-Period c = search rules
