-- `syntax::value::is_bare` meets its contract: the tests are those of the definition. Assumes nothing.
use borrow.Author.Rules.{rules}
use Rattle.syntax.proofs.Bytes.{bare_low, bare_high, bare_round, bare_other}
use Rattle.syntax.proofs.value.is_bare.Goals as goal

pub returns-then-b-lt33 : goal.returns-then-b-lt33
returns-then-b-lt33 c = search (bare_low, rules)

pub returns-then-b-gt126 : goal.returns-then-b-gt126
returns-then-b-gt126 c = search (bare_high, rules)

pub returns-then-b-ne41 : goal.returns-then-b-ne41
returns-then-b-ne41 c = search (bare_other, rules)

pub returns-else-b-ne41 : goal.returns-else-b-ne41
returns-else-b-ne41 c = search (bare_round, rules)
