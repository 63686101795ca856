-- Relations of readable numbers and dates, as the code finds them.
-- Assumes nothing.
use Rattle.std.specs.Prelude.{Option, Some, None}
use Rattle.std.specs.Option.{option_zip}
use Rattle.number.specs.Value.{Bounded}
use Prim.Native.Nat.{ℕ}
use native.Mathlib.Omega.{arith}
use mathlib.Core.Path.{◌≡◌, refl, subst}
use mathlib.Core.List.{List}
use Rattle.number.specs.Reading as numbers
use Rattle.number.specs.declared.Decimal.{Decimal}
use Rattle.number.proofs.Spelling.{number_bounded}
use Rattle.kind.specs.declared.Relation.{Relation}
use Rattle.kind.specs.Relations.{Kept, relates_to, unread, readings_of, relates_read}

-- ---- a card's number and a filter's, where both were read

pub both_bounded : (i : List ℕ) (r v : Option Decimal) (x : Decimal × Decimal) → r ≡ numbers.read i → Kept v → option_zip r v ≡ Some x → Bounded x.0 × Bounded x.1
both_bounded i None v x e k h = let z : ◌≡◌ {A = ℕ} 0 1 = cc in absurd (omega arith)
both_bounded i (Some a) None x e k h = let z : ◌≡◌ {A = ℕ} 0 1 = cc in absurd (omega arith)
both_bounded i (Some a) (Some b) x e k h =
    let z : (a, b) ≡ x = cc in
    subst (λ (y : Decimal × Decimal). Bounded y.0 × Bounded y.1) z (number_bounded i (Some a) a e refl, k.bounded b refl)

-- ---- a value that was read already

pub relates_is : (relation : Relation) (i f : List ℕ) → relates_read relation i f (readings_of relation f) ≡ relates_to relation i f
unfolding relates_to relates_read readings_of
relates_is (Relation.Strings r) i f = refl
relates_is (Relation.Numbers r) i f = refl
relates_is (Relation.Dates r) i f = refl
relates_is Relation.Tokens i f = refl
relates_is Relation.References i f = refl

number_kept : (f : List ℕ) (v : Option Decimal) → v ≡ numbers.read f → Kept v
number_kept f v e = record { bounded = λ d h. number_bounded f v d e h }

pub unread_kept : Kept unread.number
unread_kept = record { bounded = λ d h. absurd (two d h) }
  where
    two : (d : Decimal) → None ≡ Some d → ⊥
    two d h = let z : ◌≡◌ {A = ℕ} 0 1 = cc in omega arith

pub readings_kept : (relation : Relation) (f : List ℕ) → Kept (readings_of relation f).number
unfolding readings_of
readings_kept (Relation.Strings r) f = unread_kept
readings_kept (Relation.Numbers r) f = number_kept f (numbers.read f) refl
readings_kept (Relation.Dates r) f = unread_kept
readings_kept Relation.Tokens f = unread_kept
readings_kept Relation.References f = unread_kept
