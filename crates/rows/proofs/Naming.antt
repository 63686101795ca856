-- The names that rows state: a parameter's and its bundle's, by index.
-- Assumes nothing.
use Prim.Native.Nat.{ℕ, suc, ◌-◌}
use native.Mathlib.Omega.{arith}
use mathlib.Core.Path.{◌≡◌, refl, sym, ap, ap₂, ◌∙◌}
use mathlib.Core.List.{List, [], ◌∷◌, ◌++◌}
use lib.ListN.{length, get_or}
use Rattle.base.specs.Lists.{Listed}
use Rattle.base.specs.Kinds.{bundle_kind}
use Rattle.sheet.specs.Sheet.{Parameter}
use Rattle.sheet.specs.Find.{parents_of}
use Rattle.sheet.specs.Encode.{WellFormedSheet, HasParent, at_top, in_bundle}
use Rattle.rows.specs.Stated.{name_at, bundle_for}
use Rattle.rows.specs.declared.Probe.{Probe}
use Rattle.rows.proofs.Good.{listed_all}

pub name_listed : {ps : List Parameter} {i : ℕ} {q : Parameter} → Listed ps i q → name_at i ps ≡ q.name
unfolding name_at
name_listed {ps} {i} {q} l = ap₂ name_at (sym l.index) l.split ∙ go l.before
  where
    go : (before : List Parameter) → name_at (length before) (before ++ (q ∷ l.after)) ≡ q.name
    go [] = refl
    go (p ∷ before) = go before

pub bundle-name : (ps : List Parameter) (p : Probe) (j : ℕ) → get_or (parents_of ps) p.index 0 ≡ suc j → bundle_for ps p ≡ name_at j ps
unfolding bundle_for
bundle-name ps p j h =
    let before : suc j - 1 ≡ j = omega arith in
    ap (λ (x : ℕ). name_at (x - 1) ps) h ∙ ap (λ (x : ℕ). name_at x ps) before

-- a bundle stands at the top
pub bundle-at-top : (ps : List Parameter) → WellFormedSheet ps → {j : ℕ} {b : Parameter} → Listed ps j b → b.kind ≡ bundle_kind → b.bundle ≡ 0
bundle-at-top ps w {b = b} l k = by_parent (listed_all (HasParent ps) w.parents l)
  where
    by_parent : HasParent ps b → b.bundle ≡ 0
    by_parent (at_top z) = z
    by_parent (in_bundle m i n d) = absurd (d k)
