-- `syntax::value::piece` meets its contract: the tests are those of the definition. Assumes nothing.
use borrow.Author.Rules.{rules}
use Rattle.syntax.proofs.Decoding.{piece_escaped, piece_backslash, piece_plain}
use Rattle.syntax.proofs.value.piece.Goals as goal

pub returns-then-pending : goal.returns-then-pending
returns-then-pending c = search (piece_escaped, rules)

pub returns-then-b-eq92 : goal.returns-then-b-eq92
returns-then-b-eq92 c = search (piece_backslash, rules)

pub returns : goal.returns
returns c = search (piece_plain, rules)
