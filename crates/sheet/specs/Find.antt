-- How a parameter is found by its name, and the kinds by index.
-- Assumes nothing.
use Rattle.std.specs.Prelude.{ℕ, suc, ◌+◌, cond, ◌&&◌, eqb, List, [], ◌∷◌, map, Option, None, Some}
use Rattle.base.specs.Lists.{equal}
use Rattle.base.specs.Kinds.{bundle_kind}
use Rattle.base.specs.Parts.{padded}
use Rattle.sheet.specs.Sheet.{Parameter}
use Rattle.sheet.specs.declared.Found.{Found}

-- a parameter that is found, by its index and kind
abbrev pub found_at : (index kind : ℕ) → Option Found
found_at i k = Some (record { index = i; kind = k })

-- index and kind of the first parameter with the name n in the bundle c, where the first of the list has the index i
unfoldable pub find_from : ℕ → ℕ → List ℕ → List Parameter → Option Found
find_from i c n [] = None
find_from i c n (p ∷ ps) = cond (eqb p.bundle c && equal p.name n) (found_at i p.kind) (find_from (suc i) c n ps)

-- the same in a whole sheet; c is 0 at the top, and the place plus 1 of a bundle among its members
unfoldable pub find : ℕ → List ℕ → List Parameter → Option Found
find c n ps = find_from 0 c n ps

-- 02: where names are looked up inside what a name names: among a bundle's members, by its index plus 1, and else nowhere, where no
-- parameter stands
abbrev pub nowhere : ℕ
nowhere = 255

-- the bundle number by which members of a parameter that was found are looked up; nowhere, where it is no bundle
abbrev pub inside : Option Found → ℕ
inside (Some found) = cond (eqb found.kind bundle_kind) (found.index + 1) nowhere
inside None = nowhere

-- the bundle number of the bundle with the name n in the bundle c
unfoldable pub enter : List Parameter → ℕ → List ℕ → ℕ
enter ps c n = inside (find c n ps)

-- a part of each parameter by index, and 0 past the last, in 32 cells
unfoldable pub table_of : (Parameter → ℕ) → List Parameter → List ℕ
table_of of ps = padded 32 (map of ps)

-- the kinds by index
abbrev pub kinds_of : List Parameter → List ℕ
kinds_of = table_of (λ p. p.kind)

-- the bundles by index: 0 for a parameter at the top, and else the place plus 1 of its bundle
abbrev pub parents_of : List Parameter → List ℕ
parents_of = table_of (λ p. p.bundle)
