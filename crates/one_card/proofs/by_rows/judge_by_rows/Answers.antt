-- `one_card::by_rows::judge_by_rows` meets its contract. Assumes nothing.
use borrow.Author.Rules.{rules}
use Rattle.std.proofs.lemmas.Result.{err_from_is_err_and}
use Rattle.one_card.proofs.Judging.{taken-lent, taken-keeps, taken-says, taken_refused}
use Rattle.one_card.proofs.by_rows.judge_by_rows.Goals as goal

pub invariant_of-read : goal.invariant_of-read
invariant_of-read c = record { keeps = taken-keeps _ _ _ _ _ c.take_card.ensures _ c.in_ok-card.was }

pub rows_say-requires : goal.rows_say-requires
rows_say-requires c = search (taken-lent, rules)

pub returns-in_err-card-clause-i_value : goal.returns-in_err-card-clause-i_value
returns-in_err-card-clause-i_value c = let p = err_from_is_err_and c.from_residual.result c.from_residual.ensures.1 in rw (p.1, p.2) (search (taken_refused, c.in_err-card.was, rules))

pub returns-in_err-card-clause-lent_for_2 : goal.returns-in_err-card-clause-lent_for_2
returns-in_err-card-clause-lent_for_2 c = search (taken-lent, rules)

pub returns-clause-i_value : goal.returns-clause-i_value
returns-clause-i_value c = search (taken-says, c.in_ok-card.was, rules)

pub returns-clause-lent_for_2 : goal.returns-clause-lent_for_2
returns-clause-lent_for_2 c = search (taken-lent, rules)
