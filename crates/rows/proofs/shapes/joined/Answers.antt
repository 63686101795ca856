-- `rows::shapes::joined` meets its contract. Assumes nothing.
use native.Mathlib.Omega.{arith}
use borrow.Author.Rules.{rules}
use Rattle.rows.proofs.Reading.{larger_most, joined_is}
use Rattle.rows.proofs.shapes.joined.Goals as goal

pub overflow_add-result-2 : goal.overflow_add-result-2
overflow_add-result-2 c = omega (arith, larger_most _ _ 320 _ c.requires.chain_bound c.requires.item_bound c.larger-chain.ensures)

pub returns : goal.returns
returns c = search (joined_is, rules)
