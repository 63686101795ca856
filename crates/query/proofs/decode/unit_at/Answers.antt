-- `query::decode::unit_at` meets its contract: the tests are those of the definition. Assumes nothing.
use borrow.Author.Rules.{rules}
use Rattle.query.proofs.Units.{unit_short, unit_bad_hex, unit_percent, unit_space, unit-plain}
use Rattle.query.proofs.decode.unit_at.Goals as goal

pub returns-then-raw-at-le2 : goal.returns-then-raw-at-le2
returns-then-raw-at-le2 c = search (unit_short, rules)

pub returns-in_err-byte : goal.returns-in_err-byte
returns-in_err-byte c = search (unit_bad_hex, rules)

pub returns-then-b-eq37 : goal.returns-then-b-eq37
returns-then-b-eq37 c = search (unit_percent, rules)

pub returns-then-b-eq43 : goal.returns-then-b-eq43
returns-then-b-eq43 c = search (unit_space, rules)

pub returns : goal.returns
returns c = search (unit-plain, rules)
