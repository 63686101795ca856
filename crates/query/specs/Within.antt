-- That rows stand within their bytes is a fact: it holds in one way at most.
-- Assumes nothing.
use native.Mathlib.Bridge.{le_prop}
use native.Mathlib.Nat.{ℕ_set}
use mathlib.Core.Path.{ap₂}
use Rattle.std.specs.Prelude.{ℕ, ◌≡◌, refl, List, [], ◌∷◌}
use Rattle.base.specs.Lists.{All, all_empty, all_cons}
use Rattle.query.specs.Rows.{RowWithin, RowsWithin}
use Rattle.query.specs.declared.Row.{Row}
use Rattle.query.specs.declared.Rows.{Rows}

all_prop : {A : Type 0} (P : A → Type 0) → ((x : A) → IsProp (P x)) → (xs : List A) → IsProp (All P xs)
all_prop P h [] all_empty all_empty = refl
all_prop P h (x ∷ xs) (all_cons p ps) (all_cons q qs) = ap₂ all_cons (h x p q) (all_prop P h xs ps qs)

row_prop : (n : ℕ) (row : Row) → IsProp (RowWithin n row)
row_prop n row a b = λ i. record { name = le_prop a.name b.name i; until = le_prop a.until b.until i; text = le_prop a.text b.text i; end = le_prop a.end b.end i }

pub within_prop : (n : ℕ) (rows : Rows) → IsProp (RowsWithin n rows)
within_prop n rows a b =
    λ i. record {
      few = le_prop a.few b.few i;
      cells = ℕ_set _ _ a.cells b.cells i;
      within = all_prop (RowWithin n) (row_prop n) _ a.within b.within i;
    }
