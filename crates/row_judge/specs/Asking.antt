-- The parameters that rows ask about.
-- Assumes nothing.
use Rattle.std.specs.Prelude.{ℕ, ◌≡◌, List}
use Rattle.card_reader.specs.declared.Kept.{Kept}
use Rattle.row_judge.specs.Saying.{AllKept}

-- the entries of every parameter that the rows ask about are kept
pub record KeepsTests (rows : List ℕ) (before after : Kept) : Type 0 where
  pub kinds_are : after.kinds ≡ before.kinds
  pub all_kept : AllKept rows after

-- it is lent for a run by these rows, with these kinds
pub record LentFor (kinds rows : List ℕ) (kept : Kept) : Type 0 where
  pub kinds_are : kept.kinds ≡ kinds
  pub all_kept : AllKept rows kept
