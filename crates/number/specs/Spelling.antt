-- The texts that are numbers, and of which number each is a spelling: document 01's rule as it stands.
-- Assumes nothing.
use Rattle.std.specs.Prelude.{ℕ, ◌≤◌, ◌≡◌, List, ◌∷◌, ◌++◌, length}
use Rattle.base.specs.Digits.{Digit}
use Rattle.base.specs.Lists.{All}
use Rattle.number.specs.Reading.{point, value_from}
use Rattle.number.specs.declared.Decimal.{Decimal}

-- between low and high digits, and nothing else
pub record Digits (low high : ℕ) (s : List ℕ) : Type 0 where
  pub all : All Digit s
  pub enough : low ≤ length s
  pub few : length s ≤ high

-- 1 to 8 digits w; or w, "." and 1 to 9 digits f, which are the decimals
pub data Spells (s : List ℕ) (d : Decimal) : Type 0 where
  whole : Digits 1 8 s → d ≡ record { digits = value_from 0 s; decimals = 0 } → Spells s d
  fraction : (w f : List ℕ) → s ≡ w ++ point ∷ f → Digits 1 8 w → Digits 1 9 f → d ≡ record { digits = value_from 0 (w ++ f); decimals = length f } → Spells s d
