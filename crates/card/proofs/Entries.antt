-- Where a walk over a card's entries starts. Assumes nothing.
use Rattle.std.specs.Prelude.{Ok}
use Prim.Native.Nat.{ℕ}
use native.Mathlib.Omega.{arith}
use mathlib.Core.Path.{◌≡◌}
use mathlib.Core.List.{List}
use lib.ListN.{get_or}
use Rattle.block.specs.Items.{Walk}
use Rattle.block.proofs.Items.{walk_start}
use Rattle.card.specs.Card.{read_card}
use Rattle.card.proofs.Read.{card_length, card_layout}

pub card_walk : (b : List ℕ) → read_card b ≡ (Ok tt) → Walk b 6 (get_or b 5 0)
card_walk b h = walk_start b (get_or b 0 0) 5 64 (card_layout b h) (card_length b h) (omega arith)
