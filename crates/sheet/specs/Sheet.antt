-- Sheets, as they are read: 01's rules, in its order.
-- Assumes nothing.
use Rattle.std.specs.Prelude.{ℕ, zero, suc, ◌-◌, Bool, true, not, ◌&&◌, ◌||◌, List, [], ◌∷◌, leb, eqb, length, get_or, Result, ⊤}
use Rattle.base.specs.Lists.{equal}
use Rattle.base.specs.Kinds.{string, period, bundle_kind}
use Rattle.base.specs.Between.{between}
use Rattle.base.specs.Names.{is_name}
use Rattle.block.specs.Seal.{check}
use Rattle.block.specs.Items.{has_marks, has_either, items}
use Rattle.block.specs.Readings.{reading}
use Rattle.block.specs.declared.Flaw.{Flaw}

-- a parameter: its kind (1 string, 2 number, 3 date, 4 token, 5 reference, 6 period, 7 bundle), its bundle and its name; 02: the bundle is
-- "0 or the place plus 1 of the parameter's bundle"
pub record Parameter : Type 0 where
  pub kind : ℕ
  pub bundle : ℕ
  pub name : List ℕ

-- a parameter by its kind, bundle and name
abbrev pub parameter : ℕ → ℕ → List ℕ → Parameter
parameter k b n = record { kind = k; bundle = b; name = n }

-- "byte 1 the number of parameters"
unfoldable pub parameter_count : List ℕ → ℕ
parameter_count b = get_or b 1 0

-- "from byte 2, for each: kind, name length, the name"; 02: "sheets with 0x51 as byte 0 have, after the kind, a byte" with the bundle
unfoldable pub parameters_of : List ℕ → List Parameter
parameters_of b = items parameter (parameter_count b) b 2

-- the kind is 1 to 6 or, on a sheet with bundles, 7
unfoldable pub is_kind : Bool → ℕ → Bool
is_kind marked k = between string period k || (marked && eqb k bundle_kind)

-- the kind is right, and the name has at most 30 bytes and is a name, so that it is not empty
unfoldable pub is_parameter : Bool → Parameter → Bool
is_parameter marked p = is_kind marked p.kind && (leb (length p.name) 30 && is_name p.name)

-- each is a parameter
unfoldable pub are_parameters : Bool → List Parameter → Bool
are_parameters marked [] = true
are_parameters marked (p ∷ ps) = is_parameter marked p && are_parameters marked ps

-- 02: "members of different bundles may share a name; no other two may": the same name in the bundles a and c is one too many
unfoldable pub clashes : ℕ → ℕ → Bool → Bool
clashes a c same = same && (eqb c 0 || (eqb a 0 || eqb a c))

-- no parameter's name clashes with the name n in the bundle c
unfoldable pub absent : ℕ → List ℕ → List Parameter → Bool
absent c n [] = true
absent c n (p ∷ ps) = not (clashes p.bundle c (equal p.name n)) && absent c n ps

-- "no name is twice on a sheet; case counts"
unfoldable pub distinct : List Parameter → Bool
distinct [] = true
distinct (p ∷ ps) = absent p.bundle p.name ps && distinct ps

-- the kind of the parameter with the index i, 0 past the last
unfoldable pub kind_at : ℕ → List Parameter → ℕ
kind_at i [] = 0
kind_at zero (p ∷ ps) = p.kind
kind_at (suc i) (p ∷ ps) = kind_at i ps

-- 02: "a parent that is not a bundle or a bundle in a bundle is 3"
unfoldable pub has_parent : List Parameter → ℕ → ℕ → Bool
has_parent ps k c = eqb c 0 || (not (eqb k bundle_kind) && eqb (kind_at (c - 1) ps) bundle_kind)

-- so it is with each of qs on the sheet with the parameters ps
unfoldable pub have_parents : List Parameter → List Parameter → Bool
have_parents ps [] = true
have_parents ps (q ∷ qs) = has_parent ps q.kind q.bundle && have_parents ps qs

-- kinds, names and bundles are right
unfoldable pub are_right : Bool → List Parameter → Bool
are_right marked ps = are_parameters marked ps && (distinct ps && have_parents ps ps)

-- "byte 0 is 0x50" or 0x51, byte 1 says that 0 to 32 parameters follow it, and kinds, names and bundles are right
unfoldable pub sheet_layout : List ℕ → Bool
sheet_layout b = has_either 0x50 0x51 1 32 b && are_right (has_marks (get_or b 0 0)) (parameters_of b)

-- what the bytes are, as a sheet
unfoldable pub read_sheet : List ℕ → Result ⊤ Flaw
read_sheet b = reading (check b) (sheet_layout b)
