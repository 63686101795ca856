-- `token::parts_match` meets its contract: the tests say which form the parts spell. Assumes nothing.
use borrow.Author.Rules.{rules}
use Rattle.token.proofs.Match.{parts_lone, parts_some_system, parts_no_system, parts_any_code, parts_other_code, parts_system_code}
use Rattle.token.proofs.parts_match.Goals as goal

pub returns-then-after-eq0 : goal.returns-then-after-eq0
returns-then-after-eq0 c = search (parts_lone, rules)

pub returns-then-system-ne0 : goal.returns-then-system-ne0
returns-then-system-ne0 c = search (parts_some_system, rules)

pub returns-then-before-eq0 : goal.returns-then-before-eq0
returns-then-before-eq0 c = search (parts_no_system, rules)

pub returns-then-after-eq0-2 : goal.returns-then-after-eq0-2
returns-then-after-eq0-2 c = search (parts_any_code, rules)

pub returns-then-same : goal.returns-then-same
returns-then-same c = search (parts_system_code, rules)

pub returns-else-same : goal.returns-else-same
returns-else-same c = search (parts_other_code, rules)
