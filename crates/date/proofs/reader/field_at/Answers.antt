-- `date::reader::field_at` meets its contract: the digits behind the mark, where it stands. Assumes nothing.
use Rattle.date.proofs.Texts.{field_digits, field_mark}
use borrow.Author.Rules.{rules}
use Rattle.date.proofs.reader.field_at.Goals as goal

pub returns-then-s-at : goal.returns-then-s-at
returns-then-s-at c = search (field_digits, rules)

pub returns : goal.returns
returns c = search (field_mark, rules)
