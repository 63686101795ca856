-- `pick::runs::print_matches` is safe and ends: each turn adds 128 cards, and no more cards match than there are.
-- Assumes nothing.
use Rattle.std.proofs.Common.{◌+◌, ◌-◌, ◌≤◌, ◌<◌}
use Rattle.listing.specs.Totals.{most_cards}
use Rattle.pick.proofs.runs.print_matches.Given as goal

abbrev pub invariant-loop-totals : goal.invariant-loop-totals
invariant-loop-totals g l = (l.totals.matches ≤ l.totals.cards) × (l.totals.cards < most_cards + 128)

abbrev pub decreases-loop-totals : goal.decreases-loop-totals
decreases-loop-totals g l = most_cards + 128 - l.totals.cards
