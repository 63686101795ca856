-- The totals over the runs of a file.
-- Assumes nothing.
use Rattle.std.specs.Prelude.{ℕ, ◌+◌, ◌/◌, ◌^◌, ◌≤◌, ◌<◌, ◌≡◌}
use Rattle.listing.specs.declared.Totals.{Totals}

-- no file has so many cards: it would have 2 ^ 63 bytes
abbrev pub most_cards : ℕ
most_cards = 2 ^ 54

-- totals that a run can be added to
pub record Countable (t : Totals) : Type 0 where
  pub matching : t.matches ≤ t.cards
  pub few : t.cards < most_cards

-- the totals u are t with a run of `size` bytes, of which `count` cards match
pub record Added (t : Totals) (count size : ℕ) (u : Totals) : Type 0 where
  pub matches : u.matches ≡ t.matches + count
  pub cards : u.cards ≡ t.cards + size / 512
