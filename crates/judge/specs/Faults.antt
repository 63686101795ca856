-- What is wrong with a test on a sheet, whatever the card: lines 14 to 17 of document 01's table.
-- Assumes nothing.
use Rattle.std.specs.Prelude.{ℕ, Bool, cond, List, [], ◌∷◌, eqb, Ok, Result, ⊤, Option, None, Some}
use Rattle.base.specs.Lists.{member}
use Rattle.base.specs.Operators.{ap, ss, sb, «in», ni}
use Rattle.base.specs.Kinds.{bundle_kind}
use Rattle.sheet.specs.Sheet.{Parameter}
use Rattle.sheet.specs.declared.Found.{Found}
use Rattle.syntax.specs.Tree.{Test}
use Rattle.kind.specs.Table.{has_meaning}
use Rattle.kind.specs.Readable.{value_readable}
use Rattle.refusal.specs.declared.Reason.{Reason}
use Rattle.refusal.specs.Decisions.{refuse, or_else}
use Rattle.judge.specs.Sets.{lookup}
use Rattle.refusal.specs.declared.Refusal.{Refusal}

-- "word is ap, ss, sb, in or ni"
unfoldable pub unsupported : ℕ → Bool
unsupported k = member k (ap ∷ ss ∷ sb ∷ «in» ∷ ni ∷ [])

-- what is decided of an operator and a value for a kind, with the place of their test: the line with the lowest number
unfoldable pub kind_fault : (operator kind : ℕ) → List ℕ → (place : ℕ) → Result ⊤ Refusal
kind_fault k kind v p =
    cond (unsupported k) (refuse Reason.Unsupported p)
    (cond (has_meaning k kind)
    (cond (value_readable k kind v) (Ok tt) (refuse Reason.Unreadable p))
    (refuse Reason.NoMeaning p))

-- the same at what the path names
-- 02: 18 "for a bundle's name with no bracket"
abbrev pub fault_at : Option Found → (operator : ℕ) → List ℕ → (place : ℕ) → Result ⊤ Refusal
fault_at None k v p = refuse Reason.UnknownName p
fault_at (Some found) k v p = cond (eqb found.kind bundle_kind) (refuse Reason.BareBundle p) (kind_fault k found.kind v p)

-- of a test whose path is looked up in c: its place is its first byte
unfoldable pub test_fault : List Parameter → ℕ → Test → Result ⊤ Refusal
test_fault ps c t = fault_at (lookup ps c t.path) t.operator t.value t.at

-- "the first test in the text decides"
unfoldable pub first_fault : List Parameter → ℕ → List Test → Result ⊤ Refusal
first_fault ps c [] = Ok tt
first_fault ps c (t ∷ ts) = or_else (test_fault ps c t) (first_fault ps c ts)
