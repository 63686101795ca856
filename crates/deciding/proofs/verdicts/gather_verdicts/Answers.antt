-- `deciding::verdicts::gather_verdicts` meets its contract. Assumes nothing.
use borrow.Author.Rules.{rules}
use Rattle.deciding.proofs.Telling.{gathered_all}
use Rattle.deciding.proofs.verdicts.gather_verdicts.Goals as goal

pub returns : goal.returns
returns c = search (gathered_all, rules)
