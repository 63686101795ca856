-- `row_judge::asks::lend_for` meets its contract. Assumes nothing.
use borrow.Author.Rules.{rules}
use Rattle.row_judge.proofs.Asking.{lent_for}
use Rattle.row_judge.proofs.asks.lend_for.Goals as goal

pub returns : goal.returns
returns c = search (lent_for, rules)
