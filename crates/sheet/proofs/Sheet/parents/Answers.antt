-- `sheet::Sheet::parents` meets its contract. Assumes nothing.
use borrow.Author.Rules.{rules}
use Rattle.sheet.proofs.Sheet.parents.Goals as goal

pub returns : goal.returns
returns c = c.table.ensures (λ p. p.bundle) (λ p n k. search rules)
