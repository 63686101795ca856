-- `card::Card::entries` meets its contract: the walk over a card's entries starts at byte 6. Assumes nothing.
use mathlib.Core.Path.{refl, sym}
use Rattle.card.specs.Card.{entry_count, entries_of}
use Rattle.card.proofs.Entries.{card_walk}
use Rattle.card.proofs.Card.entries.Goals as goal

pub invariant_of-result : goal.invariant_of-result
invariant_of-result c = record { walk = card_walk _ c.self.invariant }

pub returns-clause-entries : goal.returns-clause-entries
unfolding entries_of entry_count
returns-clause-entries c = rw (sym c.self.view_is) refl

pub returns-clause-well_formed : goal.returns-clause-well_formed
returns-clause-well_formed c = rw (sym c.self.view_is) c.self.invariant
