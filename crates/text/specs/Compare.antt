-- The comparisons of a card's text a with a filter's text b, ignoring case.
-- Each folds both texts whole and compares the results. Assumes nothing.
use Rattle.std.specs.Prelude.{ℕ, Bool, List}
use Rattle.base.specs.Lists.{equal}
use Rattle.text.specs.Fold.{fold_text}
use Rattle.base.specs.Affixes.{has_prefix, has_suffix, has_infix}

-- the two are the same
unfoldable pub same : List ℕ → List ℕ → Bool
same a b = equal (fold_text a) (fold_text b)

-- a starts with b
unfoldable pub starts : List ℕ → List ℕ → Bool
starts a b = has_prefix (fold_text a) (fold_text b)

-- a ends with b
unfoldable pub ends : List ℕ → List ℕ → Bool
ends a b = has_suffix (fold_text a) (fold_text b)

-- a holds b somewhere
unfoldable pub contains : List ℕ → List ℕ → Bool
contains a b = has_infix (fold_text a) (fold_text b)
