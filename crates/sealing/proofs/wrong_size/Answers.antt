-- `sealing::wrong_size_lem` meets its contract: the reason has the number 20. Assumes nothing.
use borrow.Author.Rules.{rules}
use Rattle.sealing.proofs.Sealing.{size_refused}
use Rattle.sealing.proofs.wrong_size.Goals as goal

pub returns : goal.returns
returns c = search (size_refused, rules)
