-- `judge::verdicts::says_of` meets its contract: whether some text counts tells what the test says. Assumes nothing.
use borrow.Author.Rules.{rules}
use Rattle.judge.proofs.Meaning.{says_by_some}
use Rattle.judge.proofs.verdicts.says_of.Goals as goal

pub returns : goal.returns
returns c = search (says_by_some, rules)
