-- `matching::match_by_text` meets its contract: check first, then the card. Assumes nothing.
use borrow.Author.Rules.{rules}
use Rattle.std.proofs.lemmas.Result.{err_from_is_err_and}
use Rattle.answer.proofs.Passing.{passing, passing_sheet, passing_short, match_refused}
use Rattle.one_card.proofs.Judging.{filter_answered}
use Rattle.matching.proofs.match_by_text.Goals as goal

pub returns-in_err-check : goal.returns-in_err-check
returns-in_err-check c = let p = err_from_is_err_and c.from_residual.result c.from_residual.ensures.1 in rw (p.1, p.2) (search (match_refused, c.in_err-check.was, rules))

pub invariant_of-sheet : goal.invariant_of-sheet
invariant_of-sheet c = search (passing_sheet, c.in_ok-check.was, rules)

pub invariant_of-text : goal.invariant_of-text
invariant_of-text c = search (passing_short, c.in_ok-check.was, rules)

pub judge_by_text-requires : goal.judge_by_text-requires
judge_by_text-requires c = search (passing, c.in_ok-check.was, rules)

pub returns : goal.returns
returns c = search (filter_answered, passing, c.in_ok-check.was, rules)
