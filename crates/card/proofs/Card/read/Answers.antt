-- `card::Card::read` meets its contract: a card is a block of its layout. Assumes nothing.
use Rattle.std.proofs.lemmas.Result.{err_from_is_err_and}
use mathlib.Core.Path.{refl, sym, ◌∙◌}
use Rattle.card.specs.Card.{read_card}
use Rattle.card.proofs.Card.read.Goals as goal

pub returns-in_err-read_block-clause-flaw : goal.returns-in_err-read_block-clause-flaw
unfolding read_card
returns-in_err-read_block-clause-flaw c =
    let p = err_from_is_err_and c.from_residual.result c.from_residual.ensures.1 in
    rw (p.1, p.2) (sym c.read_block.ensures ∙ c.in_err-read_block.was)

pub invariant_of-result : goal.invariant_of-result
unfolding read_card
invariant_of-result c = sym c.read_block.ensures ∙ c.in_ok-read_block.was

pub returns-clause-read : goal.returns-clause-read
unfolding read_card
returns-clause-read c = (refl, sym c.read_block.ensures ∙ c.in_ok-read_block.was)
