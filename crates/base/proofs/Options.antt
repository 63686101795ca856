-- Laws of values that may be missing.
-- Assumes nothing.
use mathlib.Core.Path.{◌≡◌, refl, ap}
use mathlib.Core.Bool.{true, false≢true}
use mathlib.Core.Logic.{◌↔◌}
use mathlib.Core.Option.{Option, none, some}
use Rattle.base.specs.Options.{is_some}

-- there is a value exactly when something has the property that says which value it is
pub is_some_iff : {A : Type 0} (P : A → Type 0) (o : Option A) → ((x : A) → (o ≡ some x) ↔ P x) → (is_some o ≡ true) ↔ ((x : A) × P x)
is_some_iff P none f = (λ h. absurd (false≢true h), λ w. ap is_some ((f w.0).1 w.1))
is_some_iff P (some x) f = (λ h. (x, (f x).0 refl), λ w. refl)
