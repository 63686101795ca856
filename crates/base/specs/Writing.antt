-- What writing into a buffer does: a text over the first bytes of the part that is lent, and all others as they were.
-- Assumes nothing.
use Rattle.std.specs.Prelude.{ℕ, ◌≤◌, ◌≡◌, List, ◌++◌, length, drop}

-- the part has room for the text
pub record Room (text part : List ℕ) : Type 0 where
  pub fits : length text ≤ length part

-- the text stands over the first bytes of the part; count is its length
pub record Puts (text part exit : List ℕ) (count : ℕ) : Type 0 where
  pub long : count ≡ length text
  pub bytes : exit ≡ text ++ drop count part
