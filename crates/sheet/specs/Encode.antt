-- Sheets, as they are written: which there are, and their bytes.
-- Assumes nothing.
use Rattle.std.specs.Prelude.{ℕ, ◌+◌, ◌≤◌, Bool, false, cond, ◌⊎◌, ◌≡◌, List, [], ◌∷◌, ◌++◌, length, get_or, Ok}
use Rattle.base.specs.Bytes.{Bytes}
use Rattle.base.specs.Lists.{Listed, All}
use Rattle.base.specs.Names.{Name}
use Rattle.block.specs.Seal.{seal}
use Rattle.block.specs.Items.{marks, join}
use Rattle.base.specs.Kinds.{string, period, bundle_kind}
use Rattle.sheet.specs.Sheet.{Parameter, parameters_of, read_sheet}

-- the first byte of a sheet without bundles, and of one with them (02)
abbrev pub sheet_first : Bool → ℕ
sheet_first marked = cond marked 0x51 0x50

-- the kind, on a sheet with bundles the bundle, the length of the name, and the name
unfoldable pub parameter_bytes : Bool → Parameter → List ℕ
parameter_bytes marked p = p.kind ∷ (marks marked p.bundle ++ (length p.name ∷ p.name))

-- what stands before the padding: the first byte, the number of parameters, the parameters
unfoldable pub sheet_body : Bool → List Parameter → List ℕ
sheet_body marked ps = sheet_first marked ∷ length ps ∷ join (parameter_bytes marked) ps

-- the 512 bytes of a sheet
unfoldable pub encode_sheet : Bool → List Parameter → List ℕ
encode_sheet marked ps = seal (sheet_body marked ps)

-- a kind of values: string, number, date, token, reference or, by 02, period
pub record ValueKind (k : ℕ) : Type 0 where
  pub lowest : string ≤ k
  pub highest : k ≤ period

-- a parameter that can be written: kind 1 to 6 or 7, and a name of 1 to 30 bytes
pub record WellFormedParameter (p : Parameter) : Type 0 where
  pub kind : ValueKind p.kind ⊎ (p.kind ≡ bundle_kind)
  pub shortest : 1 ≤ length p.name
  pub longest : length p.name ≤ 30
  pub name : Name p.name

-- 02: "members of different bundles may share a name; no other two may"
abbrev pub MayShare : ℕ → ℕ → Type 0
MayShare a c = (a ≡ 0 → ⊥) × (c ≡ 0 → ⊥) × (a ≡ c → ⊥)

-- each parameter of that name may share it with one in the bundle c
abbrev pub Absent : ℕ → List ℕ → List Parameter → Type 0
Absent c n = All (λ (p : Parameter). p.name ≡ n → MayShare p.bundle c)

-- no two parameters have a name that they may not share
pub data Distinct : List Parameter → Type 0 where
  distinct_empty : Distinct []
  distinct_cons : {p : Parameter} {ps : List Parameter} → Absent p.bundle p.name ps → Distinct ps → Distinct (p ∷ ps)

-- 02: a parameter stands at the top, or in a bundle, and then is no bundle itself
pub data HasParent (ps : List Parameter) (p : Parameter) : Type 0 where
  at_top : p.bundle ≡ 0 → HasParent ps p
  in_bundle : {i : ℕ} {q : Parameter} → Listed ps i q → q.kind ≡ bundle_kind → p.bundle ≡ i + 1 → (p.kind ≡ bundle_kind → ⊥) → HasParent ps p

-- parameters that can be written: 0 to 32 of them
pub record WellFormedSheet (ps : List Parameter) : Type 0 where
  pub count : length ps ≤ 32
  pub parameters : All WellFormedParameter ps
  pub names : Distinct ps
  pub parents : All (HasParent ps) ps

-- a parameter of a sheet without bundles
pub record PlainParameter (p : Parameter) : Type 0 where
  pub kind : ValueKind p.kind
  pub bundle : p.bundle ≡ 0

-- they can be written with bundles or without: they end at or before byte 507
pub record SheetForm (marked : Bool) (ps : List Parameter) : Type 0 where
  pub plain : marked ≡ false → All PlainParameter ps
  pub room : length (sheet_body marked ps) ≤ 508

-- the bytes are those of a sheet that can be written (01: a sound sheet)
pub record SheetBlock (b : List ℕ) : Type 0 where
  pub marked : Bool
  pub parameters : List Parameter
  pub well_formed : WellFormedSheet parameters
  pub form : SheetForm marked parameters
  pub encoded : b ≡ encode_sheet marked parameters

-- the bytes read as a sheet with or without bundles, with the parameters ps
pub record ReadsAsSheet (b : List ℕ) (marked : Bool) (ps : List Parameter) : Type 0 where
  pub first : get_or b 0 0 ≡ sheet_first marked
  pub bytes : Bytes b
  pub reading : read_sheet b ≡ (Ok tt)
  pub parameters : parameters_of b ≡ ps
