-- `sheet::Sheet::enter` meets its contract. Assumes nothing.
use borrow.Author.Rules.{rules}
use Rattle.sheet.proofs.Listed.{enter-bundle, enter_other, enter_missing}
use Rattle.sheet.proofs.Sheet.enter.Goals as goal

pub returns-in-Some : goal.returns-in-Some
returns-in-Some c = search (enter-bundle, rules)

pub returns-in_default : goal.returns-in_default
returns-in_default c = search (enter_other, rules)

pub returns-in_default-2 : goal.returns-in_default-2
returns-in_default-2 c = search (enter_missing, rules)
