-- What good rows state is what their expression says of the sheet's parameters and the text; and cells are good rows of one expression.
-- Assumes nothing.
use Prim.Native.Nat.{ℕ}
use mathlib.Core.Path.{◌≡◌, refl, ap, sym, ◌∙◌, subst}
use mathlib.Core.Option.{some}
use mathlib.Core.List.{List}
use Rattle.base.specs.Lists.{Listed}
use Rattle.sheet.specs.Sheet.{Parameter}
use Rattle.sheet.specs.Encode.{WellFormedSheet}
use Rattle.sheet.proofs.Listed.{table_listed}
use Rattle.syntax.specs.Tree.{name}
use Rattle.rows.specs.Expression.{Expression}
use Rattle.rows.specs.Good.{ValueFrom, FitsTo, Fits, fits_test, fits_bracket, fits_join, fits_not, Good}
use Rattle.rows.specs.Stated.{value_by, test_for, tree_of}
use Rattle.rows.specs.declared.Probe.{Probe}
use Rattle.rows.proofs.Good as good
use Rattle.rows.proofs.Naming.{name_listed, bundle-name}
use Rattle.rows.proofs.Values.{found_from, from_found}
use Rattle.syntax.specs.Scan.{value_at}
use Rattle.sirophan.specs.Stating.{StatesTest, States, states_test, states_bracket, states_join, states_not}

module _ (ps : List Parameter) (xs : List ℕ) where
  pub value-at : (p : Probe) {v : List ℕ} → ValueFrom xs p.position v → ValueFrom xs p.position (value_by xs (value_at xs p.position))
  value-at p f =
      let r = from_found f in
      subst (ValueFrom xs p.position) (sym (ap (value_by xs) r.found)) (found_from xs p.position r.raw r.found)

  test_states : {q : Parameter} (p : Probe) → Listed ps p.index q → FitsTo xs q p → StatesTest xs q p (test_for ps xs p)
  unfolding test_for
  test_states p l f = record { path = ap name (name_listed l); operator = refl; value = value-at p f.from }

  fits_state : {c : ℕ} {e : Expression} → Fits ps xs c e → States ps xs e (tree_of ps xs e)
  unfolding tree_of
  fits_state (fits_test {p = p} l b f) = states_test l (test_states p l f)
  fits_state (fits_bracket {p = p} {j = j} {q = q} l b m k f r) =
      states_bracket l b m (bundle-name ps p j (table_listed (λ r. r.bundle) ps p.index q l ∙ b) ∙ name_listed m) (test_states p l f) (fits_state r)
  fits_state (fits_join a b) = states_join (fits_state a) (fits_state b)
  fits_state (fits_not a) = states_not (fits_state a)

  pub good_state : {cs : List ℕ} (g : Good ps xs cs) → States ps xs g.expression (tree_of ps xs g.expression)
  good_state g = fits_state g.fits

  pub good_one : WellFormedSheet ps → {cs : List ℕ} (g h : Good ps xs cs) → g.expression ≡ h.expression
  good_one w g h =
      let e : some g.expression ≡ some h.expression = sym (good.good_states ps w xs g) ∙ good.good_states ps w xs h in
      cc
