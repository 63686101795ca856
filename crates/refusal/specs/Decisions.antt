-- What is decided of a test, a filter or a search string: it passes, or it is refused with a reason and a place.
-- Assumes nothing.
use Rattle.std.specs.Prelude.{ℕ, Err, Ok, Result, ⊤}
use Rattle.refusal.specs.declared.Reason.{Reason}
use Rattle.refusal.specs.declared.Refusal.{Refusal}

abbrev pub refuse : Reason → ℕ → Result ⊤ Refusal
refuse r p = Err (record { reason = r; place = p })

-- the first of two, where it refuses, and else the second
abbrev pub or_else : Result ⊤ Refusal → Result ⊤ Refusal → Result ⊤ Refusal
or_else (Ok tt) b = b
or_else (Err r) b = Err r
