-- Tests of rows, as the code goes through them.
-- Assumes nothing.
use Rattle.std.specs.Prelude.{Option, Some, None}
use Prim.Native.Nat.{ℕ, ◌≤◌, ◌<◌}
use native.Mathlib.Omega.{arith}
use mathlib.Core.Path.{◌≡◌, sym, ap, ◌∙◌}
use mathlib.Core.Bool.{Bool, true, false, ◌&&◌}
use mathlib.Core.List.{List}
use lib.Dec.{eqb}
use lib.ListN.{length, get_or}
use borrow.Author.Tests.{lt-ltb, le-ltb, eq-eqb, ne_eqb}
use Rattle.syntax.specs.Scan.{value_at}
use Rattle.syntax.specs.declared.Connective.{Connective}
use Rattle.syntax.specs.declared.RawValue.{RawValue}
use Rattle.kind.specs.Table.{has_meaning}
use Rattle.kind.specs.Readable.{value_readable}
use Rattle.rows.specs.Cells.{row_of}
use Rattle.rows.specs.Shapes.{kind_fits, value_in, probe_fits, member_of, member_by}
use Rattle.rows.specs.declared.Probe.{Probe}
use Rattle.rows.specs.declared.Row.{Row}

-- ---- a test

module _ (k kind : ℕ) where
  pub kind_none : kind ≡ 0 → false ≡ kind_fits k kind
  unfolding kind_fits
  kind_none h = rw (eq-eqb kind 0 h)

  module _ (a : kind ≡ 0 → ⊥) where
    pub kind_bundle : kind ≡ 7 → false ≡ kind_fits k kind
    unfolding kind_fits
    kind_bundle h = rw (ne_eqb kind 0 a, eq-eqb kind 7 h)

    module _ (b : kind ≡ 7 → ⊥) where
      pub kind_no_operator : 19 ≤ k → false ≡ kind_fits k kind
      unfolding kind_fits
      kind_no_operator h = rw (ne_eqb kind 0 a, ne_eqb kind 7 b, le-ltb k 19 h)

      pub kind_operator : (r : Bool) → k < 19 → r ≡ has_meaning k kind → r ≡ kind_fits k kind
      unfolding kind_fits
      kind_operator r h e = rw (ne_eqb kind 0 a, ne_eqb kind 7 b, lt-ltb k 19 h) e

pub readable-placed : (k kind : ℕ) (xs : List ℕ) (v : RawValue) (r : Bool) (w : List ℕ) → r ≡ value_readable k kind w → w ≡ value_in xs v → r ≡ value_readable k kind (value_in xs v)
readable-placed k kind xs v r w e h = e ∙ ap (value_readable k kind) h

module _ (kinds xs : List ℕ) (p : Probe) (f : Bool) (kind : ℕ) (e : f ≡ kind_fits p.operator kind) (same : kind ≡ get_or kinds p.index 0) where
  pub probe_no_kind : f ≡ false → false ≡ probe_fits kinds xs p
  unfolding probe_fits
  probe_no_kind h = rw (← same, sym e ∙ h)

  module _ (h : f ≡ true) (g : Option RawValue) (i : g ≡ value_at xs p.position) where
    pub probe_no_value : g ≡ None → false ≡ probe_fits kinds xs p
    unfolding probe_fits
    probe_no_value j = rw (← same, sym e ∙ h, sym i ∙ j)

    pub probe_value : (v : RawValue) (r : Bool) → g ≡ Some v → r ≡ value_readable p.operator kind (value_in xs v) → r ≡ probe_fits kinds xs p
    unfolding probe_fits
    probe_value v r j k = rw (← same, sym e ∙ h, sym i ∙ j) k

module _ (kinds parents xs : List ℕ) (p : Probe) (f : Bool) (e : f ≡ probe_fits kinds xs p) (parent : ℕ) (same : parent ≡ get_or parents p.index 0) where
  pub stands_fits : (c : ℕ) → f ≡ true → eqb parent c ≡ (probe_fits kinds xs p && eqb (get_or parents p.index 0) c)
  stands_fits c h = rw (sym e ∙ h, same)

  pub member-fits : f ≡ true → (d : ℕ) (q : Row) → q ≡ row_of d → q ≡ Row.Test p → parent ≡ member_by kinds parents xs (row_of d)
  unfolding member_of
  member-fits h d q i j = rw (sym i ∙ j, sym e ∙ h) same

module _ (kinds parents xs : List ℕ) (p : Probe) (f : Bool) (e : f ≡ probe_fits kinds xs p) where
  pub stands_not : (c : ℕ) → f ≡ false → false ≡ (probe_fits kinds xs p && eqb (get_or parents p.index 0) c)
  stands_not c h = rw (sym e ∙ h)

  pub member_not : f ≡ false → (d : ℕ) (q : Row) → q ≡ row_of d → q ≡ Row.Test p → 0 ≡ member_by kinds parents xs (row_of d)
  unfolding member_of
  member_not h d q i j = rw (sym i ∙ j, sym e ∙ h)
