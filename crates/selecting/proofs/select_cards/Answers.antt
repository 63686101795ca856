-- `selecting::select_cards` meets its contract, by the laws of any question. Assumes nothing.
use borrow.Author.Rules.{rules}
use Rattle.std.proofs.lemmas.Result.{err_from_is_err_and}
use Rattle.selecting.proofs.Selecting.{found_parted, found-over, select-card_refused, select_short, select_writes}
use Rattle.selecting.proofs.select_cards.Goals as goal

pub returns-then-cards-ne0 : goal.returns-then-cards-ne0
returns-then-cards-ne0 g c = search (found_parted, rules)

pub returns-then-cards-gt65536 : goal.returns-then-cards-gt65536
returns-then-cards-gt65536 g c = search (found-over, rules)

pub returns-then-matches-list : goal.returns-then-matches-list
returns-then-matches-list g c = search (select_short, c.in_ok-matches.was, rules)

pub returns-in_err-matches : goal.returns-in_err-matches
returns-in_err-matches g c = let p = err_from_is_err_and c.from_residual.result c.from_residual.ensures.1 in rw (p.1, p.2) (search (select-card_refused, c.in_err-matches.was, rules))

pub returns : goal.returns
returns g c = search (select_writes, c.in_ok-matches.was, rules)
