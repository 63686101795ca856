-- `date::seconds::instant` meets its contract: each signed operation fits, and their bits read back to the instant. Assumes nothing.
use Rattle.date.proofs.Spans.{since_fits, seconds_fits, instant-fits, instant_is}
use borrow.Author.Rules.{rules}
use Rattle.date.proofs.seconds.instant.Goals as goal

pub overflow_sub-result : goal.overflow_sub-result
overflow_sub-result c = search (since_fits, rules)

pub overflow_mul-result : goal.overflow_mul-result
overflow_mul-result c = search (seconds_fits, rules)

pub overflow_sub-result-2 : goal.overflow_sub-result-2
overflow_sub-result-2 c = search (instant-fits, rules)

pub returns : goal.returns
returns c = search (instant_is, rules)
