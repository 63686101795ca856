-- `syntax::value::string_step` meets its contract: the tests are those of the definition. Assumes nothing.
use borrow.Author.Rules.{rules}
use Rattle.syntax.proofs.Bytes.{step_escape, step_no_escape, step-quote, step-backslash, step_low, step-plain}
use Rattle.syntax.proofs.value.string_step.Goals as goal

pub returns-then-is_escape : goal.returns-then-is_escape
returns-then-is_escape c = search (step_escape, rules)

pub returns-then-pending : goal.returns-then-pending
returns-then-pending c = search (step_no_escape, rules)

pub returns-then-b-eq34 : goal.returns-then-b-eq34
returns-then-b-eq34 c = search (step-quote, rules)

pub returns-then-b-eq92 : goal.returns-then-b-eq92
returns-then-b-eq92 c = search (step-backslash, rules)

pub returns-then-b-lt32 : goal.returns-then-b-lt32
returns-then-b-lt32 c = search (step_low, rules)

pub returns : goal.returns
returns c = search (step-plain, rules)
