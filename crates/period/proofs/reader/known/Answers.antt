-- `period::reader::known` meets its contract: both ends are read back from their bits. Assumes nothing.
use borrow.Author.Rules.{rules}
use Rattle.period.proofs.Texts.{known_is}
use Rattle.period.proofs.reader.known.Goals as goal

pub returns : goal.returns
returns c = search (known_is, rules)
