-- `date::reader::signed` meets its contract: the tests are those of the definition, and the minutes fit either way. Assumes nothing.
use Rattle.date.proofs.Texts.{signed_minute, signed_most, signed_east, signed_west, signed_neither}
use borrow.Author.Rules.{rules}
use Rattle.date.proofs.reader.signed.Goals as goal

pub returns-then-m-gt59 : goal.returns-then-m-gt59
returns-then-m-gt59 c = search (signed_minute, rules)

pub returns-then-minutes-gt840 : goal.returns-then-minutes-gt840
returns-then-minutes-gt840 c = search (signed_most, rules)

pub returns-in-43 : goal.returns-in-43
returns-in-43 c = search (signed_east, rules)

pub returns-in-45 : goal.returns-in-45
returns-in-45 c = search (signed_west, rules)

pub returns-in_default : goal.returns-in_default
returns-in_default c = search (signed_neither, rules)
