-- What holds of bytes that read as a well-formed card.
-- Assumes nothing.
use Rattle.std.specs.Prelude.{Ok}
use Prim.Native.Nat.{ℕ}
use mathlib.Core.Path.{◌≡◌, refl}
use mathlib.Core.Bool.{Bool, true}
use mathlib.Core.List.{List}
use lib.ListN.{length, get_or}
use Rattle.base.specs.Bytes.{Bytes}
use Rattle.block.specs.Items.{has_layout, has_either}
use Rattle.block.proofs.Contents.{Held}
use Rattle.block.proofs.Items.{either_own, either_form}
use Rattle.block.proofs.Readings.{reading_iff}
use Rattle.card.specs.Encode.{card_first}
use Rattle.card.specs.Card.{entry, entry_count, entries_of, read_card}

module _ (b : List ℕ) (h : read_card b ≡ (Ok tt)) where
  pub card_length : length b ≡ 512
  unfolding read_card
  card_length = ((reading_iff b (has_either 0x43 0x44 5 64 b)).0 h).0.size

  card-either : has_either 0x43 0x44 5 64 b ≡ true
  unfolding read_card
  card-either = ((reading_iff b (has_either 0x43 0x44 5 64 b)).0 h).1

  pub card_layout : has_layout (get_or b 0 0) 5 64 b ≡ true
  card_layout = either_own b 0x43 0x44 5 64 card-either

  -- the form that the first byte tells
  pub card_form : (marked : Bool) × (get_or b 0 0 ≡ card_first marked)
  card_form = either_form b 0x43 0x44 5 64 card-either

  pub card_held : Bytes b → Held entry (get_or b 0 0) 5 64 b (entries_of b)
  unfolding read_card entries_of entry_count
  card_held bytes = record { bytes = bytes; sealed = ((reading_iff b (has_either 0x43 0x44 5 64 b)).0 h).0; layout = card_layout; same = refl }
