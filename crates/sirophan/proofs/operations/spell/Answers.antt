-- `sirophan::operations::spell` meets its contract: the table is that of the definition. Assumes nothing.
use Rattle.sirophan.proofs.Spells.{spells_into}
use borrow.Author.Rules.{rules}
use Rattle.sirophan.proofs.operations.spell.Goals as goal

pub returns : goal.returns
returns c = search (spells_into, rules)
