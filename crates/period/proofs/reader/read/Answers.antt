-- `period::reader::read` meets its contract: the first slash says where the text is split. Assumes nothing.
use borrow.Author.Rules.{rules}
use native.Mathlib.Omega.{arith}
use lib.ListN.{length-take}
use Rattle.period.proofs.Texts.{read_parts_lem, read_whole}
use Rattle.period.proofs.reader.read.Goals as goal

pub slice_bounds-read_parts-end : goal.slice_bounds-read_parts-end
slice_bounds-read_parts-end c = simp length-take (omega arith)

pub returns-then-slash-s : goal.returns-then-slash-s
returns-then-slash-s c = search (read_parts_lem, rules)

pub returns : goal.returns
returns c = search (read_whole, rules)
