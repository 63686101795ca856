-- Laws of decisions: the first of several that refuses decides.
-- Assumes nothing.
use Rattle.std.specs.Prelude.{Err, Ok, Result, ⊤}
use mathlib.Core.Path.{◌≡◌, refl}
use Rattle.refusal.specs.Decisions.{or_else}
use Rattle.refusal.specs.declared.Refusal.{Refusal}

pub or_else_passed : (a : Result ⊤ Refusal) → or_else a (Ok tt) ≡ a
or_else_passed (Ok tt) = refl
or_else_passed (Err r) = refl

pub or_else_assoc : (a b c : Result ⊤ Refusal) → or_else (or_else a b) c ≡ or_else a (or_else b c)
or_else_assoc (Ok tt) b c = refl
or_else_assoc (Err r) b c = refl
