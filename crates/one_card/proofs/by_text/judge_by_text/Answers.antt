-- `one_card::by_text::judge_by_text` meets its contract: the card is accepted, and then the text decides. Assumes nothing.
use borrow.Author.Rules.{rules}
use Rattle.std.proofs.lemmas.Result.{err_from_is_err_and}
use Rattle.one_card.proofs.Judging.{judged_says_lem, judged_refused}
use Rattle.one_card.proofs.by_text.judge_by_text.Goals as goal

pub returns-in_err-card : goal.returns-in_err-card
returns-in_err-card c = let p = err_from_is_err_and c.from_residual.result c.from_residual.ensures.1 in rw (p.1, p.2) (search (judged_refused, c.in_err-card.was, rules))

pub returns : goal.returns
returns c = search (judged_says_lem, c.in_ok-card.was, rules)
