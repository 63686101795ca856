-- What is kept, as it is lent for a run.
-- Assumes nothing.
use Rattle.std.specs.Prelude.{ℕ, ◌≡◌, List}
use Rattle.card_reader.specs.Lists.{Lent, IsKept}
use Rattle.card_reader.specs.declared.Kept.{Kept}

-- it is lent, with these kinds
pub record Lends (kinds : List ℕ) (kept : Kept) : Type 0 where
  pub lent : Lent kept
  pub kinds_are : kept.kinds ≡ kinds

-- the entries of the parameter i, too, are kept from the next card on
pub record Keeps (i : ℕ) (before after : Kept) : Type 0 where
  pub lent : Lent after
  pub kinds_are : after.kinds ≡ before.kinds
  pub own : IsKept after i
  pub others : (j : ℕ) → IsKept before j → IsKept after j
