-- `rows::shapes::larger` meets its contract. Assumes nothing.
use borrow.Author.Rules.{rules}
use Rattle.rows.proofs.Reading.{larger-first, larger-second}
use Rattle.rows.proofs.shapes.larger.Goals as goal

pub returns-then-a-b : goal.returns-then-a-b
returns-then-a-b c = search (larger-second, rules)

pub returns : goal.returns
returns c = search (larger-first, rules)
