-- `one_card::read_card` meets its contract. Assumes nothing.
use borrow.Author.Rules.{rules}
use Rattle.one_card.proofs.Judging.{reads_bytes}
use Rattle.one_card.proofs.read_card.Goals as goal

pub returns : goal.returns
returns c = reads_bytes _ _ _ _ c.read.ensures.read c.read.ensures.flaw c.map_err.ensures.cases (λ e x h. search rules)
