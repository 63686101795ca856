-- `kind::decision::meaning_of` meets its contract: the row of the kind has it. Assumes nothing.
use Rattle.kind.proofs.Table.{of_row}
use Rattle.kind.proofs.decision.meaning_of.Goals as goal

pub returns : goal.returns
returns c = of_row _ _ c.if-operator.false _ _ _ c.kind_meaning.ensures c.in-Some.ensures c.in-Some-of.ensures
