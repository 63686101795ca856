-- `row_judge::says::plain_says` meets its contract. Assumes nothing.
use borrow.Author.Rules.{rules}
use Rattle.row_judge.proofs.Saying.{probe_known, plain_closed, test_chain, test_opened}
use Rattle.row_judge.proofs.says.plain_says.Goals as goal

pub next_text-first-requires : goal.next_text-first-requires
next_text-first-requires c = search (test_chain, rules)

pub invariant_of-asked-clause-known : goal.invariant_of-asked-clause-known
invariant_of-asked-clause-known c = search (probe_known, rules)

pub returns-in_default : goal.returns-in_default
returns-in_default c = search (plain_closed, rules)

pub returns : goal.returns
returns c = search (test_opened, rules)
