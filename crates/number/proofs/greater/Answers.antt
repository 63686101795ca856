-- `number::greater` meets its contract: it is `less` the other way round. Assumes nothing.
use borrow.Author.Rules.{rules}
use Rattle.number.specs.Value.{greater, less}
use Rattle.number.proofs.greater.Goals as goal

pub returns : goal.returns
unfolding greater less
returns c = search rules
