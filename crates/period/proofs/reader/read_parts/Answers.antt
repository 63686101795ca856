-- `period::reader::read_parts` meets its contract: what is missing is an empty text. Assumes nothing.
use borrow.Author.Rules.{rules}
use Rattle.period.proofs.Texts.{parts_second, parts_first, parts_both}
use Rattle.period.proofs.reader.read_parts.Goals as goal

pub returns-then-first-eq0 : goal.returns-then-first-eq0
returns-then-first-eq0 c = search (parts_second, rules)

pub returns-then-second-eq0 : goal.returns-then-second-eq0
returns-then-second-eq0 c = search (parts_first, rules)

pub returns : goal.returns
returns c = search (parts_both, rules)
