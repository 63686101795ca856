-- `number::digit_run` meets its contract. The loop's invariant: the run is what has been passed and the run of what is left. Assumes nothing.
use borrow.Author.Rules.{rules}
use borrow.Author.Tests.{not-true, not-false}
use Rattle.base.specs.Digits.{is_digit}
use Rattle.base.proofs.Runs.{run_on, run_stops, run_ends}
use Rattle.number.proofs.digit_run.Goals as goal

pub returns-then-not-is_ascii_digit : goal.returns-then-not-is_ascii_digit
unfolding is_digit
returns-then-not-is_ascii_digit c = (search (run_stops, not-true, rules), search rules)

pub loop-i-preserved : goal.loop-i-preserved
unfolding is_digit
loop-i-preserved c = search (run_on, not-false, rules)

pub returns : goal.returns
returns c = (search (run_ends, rules), search rules)
