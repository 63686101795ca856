-- `judge::placed::test_found` meets its contract. Assumes nothing.
use borrow.Author.Rules.{rules}
use Rattle.judge.proofs.Meaning.{found_name}
use Rattle.judge.proofs.placed.test_found.Goals as goal

pub returns : goal.returns
returns c = search (found_name, rules)
