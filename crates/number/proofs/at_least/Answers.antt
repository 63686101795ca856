-- `number::at_least` meets its contract: it is `at_most` the other way round. Assumes nothing.
use borrow.Author.Rules.{rules}
use Rattle.number.specs.Value.{at_least, at_most}
use Rattle.number.proofs.at_least.Goals as goal

pub returns : goal.returns
unfolding at_least at_most
returns c = search rules
