-- `one_card::answered` meets its contract. Assumes nothing.
use borrow.Author.Rules.{rules}
use Rattle.one_card.proofs.Judging.{answers_verdict}
use Rattle.one_card.proofs.answered.Goals as goal

pub returns : goal.returns
returns c = answers_verdict _ _ _ c.map_err.ensures.cases (λ e r h. search rules)
