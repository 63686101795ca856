-- The test for good rows passes exactly where they are good.
-- The way from the test to `Fits` is by induction on the expression (`within-fits`), and the way back by induction on how it fits
-- (`fits-within`); for one test these are `probe_there` and `probe_fits_lem`. That the nesting agrees with the grammar's is known from file Nesting. Cells that state an expression are its
-- cells, and an expression that fits can be written, so that the expression of `Good` is the one that the test finds (`good_states`).
-- Assumes nothing.
use Rattle.std.specs.Prelude.{Option, Some, None}
use Prim.Native.Nat.{ℕ, zero, suc, ◌≤◌, ◌<◌}
use native.Mathlib.Omega.{arith}
use mathlib.Core.Path.{◌≡◌, refl, sym, ap, subst, ◌∙◌}
use mathlib.Core.Bool.{Bool, true, false, cond, not, ◌&&◌}
use mathlib.Core.Logic.{◌↔◌, ⊎_elim}
use mathlib.Core.Option as maybe
use mathlib.Core.Option.{none, some, none-ne-some}
use mathlib.Core.List.{List, ◌∷◌}
use lib.Dec.{eqb, ltb, leb}
use lib.ListN.{length, get_or, length-append}
use borrow.Author.Tests.{lt-ltb, ltb-true, le-leb, lt-leb, leb-true, eq-eqb, ne_eqb, eqb-true, eqb-false, not-true}
use Rattle.base.specs.Lists.{Listed, All}
use Rattle.base.specs.Kinds.{bundle_kind}
use Rattle.base.specs.Operators.{operator_words}
use Rattle.base.proofs.Tests.{and_left, and_right, and_both, both_ways}
use Rattle.base.proofs.All.{all_head, all_right}
use Rattle.sheet.specs.Sheet.{Parameter}
use Rattle.sheet.specs.Find.{kinds_of, parents_of}
use Rattle.sheet.specs.Encode.{WellFormedSheet, WellFormedParameter, HasParent, at_top, in_bundle}
use Rattle.sheet.proofs.Listed.{at_listed, table_kind, table_listed}
use Rattle.syntax.specs.Scan.{value_at}
use Rattle.syntax.specs.declared.RawValue.{RawValue}
use Rattle.kind.specs.Table.{has_meaning}
use Rattle.kind.specs.Rules.{ReadableValue}
use Rattle.kind.proofs.Rules.{value_iff, operator_iff}
use Rattle.rows.specs.Expression.{Expression, probing, choosing, joining, negating, test_count}
use Rattle.rows.specs.Cells.{stated_in, stated, Sayable, Writable, writable_test, writable_bracket, writable_join, writable_not}
use Rattle.rows.specs.Good.{ValueFrom, FitsTo, Fits, fits_test, fits_bracket, fits_join, fits_not, Good}
use Rattle.rows.specs.Nesting.{shape_of, parts_in}
use Rattle.rows.specs.Shapes.{kind_fits, value_in, value_fits, probe_fits, member_of, fits_in, good_by, good, shape_by}
use Rattle.rows.specs.declared.Probe.{Probe}
use Rattle.rows.specs.declared.Shape.{Shape}
use Rattle.rows.proofs.Stating.{in_encode, in_cells, stated-encode, stated_are, stated-cells}
use Rattle.rows.proofs.Nesting.{chain_of_lem, of_chain, rows_few, shape_tests, parts_levels}
use Rattle.rows.proofs.Reading.{found, not_found}
use Rattle.rows.proofs.Values.{found_from, from_found}

-- a property of every parameter holds of the one that is listed
pub listed_all : (P : Parameter → Type 0) {ps : List Parameter} {i : ℕ} {q : Parameter} → All P ps → Listed ps i q → P q
listed_all P all l = all_head P (all_right P l.before (subst (All P) l.split all))

not_eqb : (a b : ℕ) → (a ≡ b → ⊥) → not (eqb a b) ≡ true
not_eqb a b h = rw (ne_eqb a b h)

-- ---- a test

module _ (ps : List Parameter) (w : WellFormedSheet ps) (xs : List ℕ) where
  kind_there : {i : ℕ} {q : Parameter} → Listed ps i q → q.kind ≡ 0 → ⊥
  kind_there l z =
      ⊎_elim (λ k. omega (arith, z, k.lowest)) (λ (k : _ ≡ bundle_kind). let n : ◌≡◌ {A = ℕ} 0 7 = sym z ∙ k in omega (arith, n)) (listed_all WellFormedParameter w.parameters l).kind

  found-fits : (k kind : ℕ) (f : Option RawValue) (p : ℕ) → value_at xs p ≡ f → value_fits k kind xs f ≡ true → (v : List ℕ) × (ValueFrom xs p v × ReadableValue kind v k)
  found-fits k kind (Some v) p e h = (value_in xs v, (found_from xs p v e, (value_iff kind (value_in xs v) k).0 h))
  found-fits k kind None p e h = both_ways h refl

  probe_there : (p : Probe) → probe_fits (kinds_of ps) xs p ≡ true → (q : Parameter) × (Listed ps p.index q × FitsTo xs q p)
  unfolding probe_fits kind_fits operator_words
  probe_there p h =
      let kind : ℕ = get_or (kinds_of ps) p.index 0 in
      let k : ℕ = p.operator in
      let a : kind_fits k kind ≡ true = and_left (kind_fits k kind) (value_fits k kind xs (value_at xs p.position)) h in
      let b : (not (eqb kind bundle_kind) && (ltb k 19 && has_meaning k kind)) ≡ true = and_right (not (eqb kind 0)) (not (eqb kind bundle_kind) && (ltb k 19 && has_meaning k kind)) a in
      let d : (ltb k 19 && has_meaning k kind) ≡ true = and_right (not (eqb kind bundle_kind)) (ltb k 19 && has_meaning k kind) b in
      let some-kind : kind ≡ 0 → ⊥ = eqb-false kind 0 (not-true (eqb kind 0) (and_left (not (eqb kind 0)) (not (eqb kind bundle_kind) && (ltb k 19 && has_meaning k kind)) a)) in
      let l = there p.index kind refl some-kind in
      let same : kind ≡ l.0.kind = table_listed (λ q. q.kind) ps p.index l.0 l.1 in
      let v = found-fits k kind (value_at xs p.position) p.position refl (and_right (kind_fits k kind) (value_fits k kind xs (value_at xs p.position)) h) in (
        l.0,
        (
          l.1,
          record {
            no_bundle = λ z. eqb-false kind bundle_kind (not-true (eqb kind bundle_kind) (and_left (not (eqb kind bundle_kind)) (ltb k 19 && has_meaning k kind) b)) (same ∙ z);
            one_of = ltb-true k 19 (and_left (ltb k 19) (has_meaning k kind) d);
            has_operator = (operator_iff l.0.kind k).0 (ap (has_meaning k) (sym same) ∙ and_right (ltb k 19) (has_meaning k kind) d);
            contents = v.0;
            from = v.1.0;
            readable = subst (λ (n : ℕ). ReadableValue n v.0 k) same v.1.1;
          },
        ),
      )
    where
      there : (i kind : ℕ) → get_or (kinds_of ps) i 0 ≡ kind → (kind ≡ 0 → ⊥) → (q : Parameter) × Listed ps i q
      there i zero e n = absurd (n refl)
      there i (suc k) e n = let r = at_listed i ps k (sym (table_kind ps i) ∙ e) in (r.0, r.1)

  probe_fits_lem : (p : Probe) (q : Parameter) → Listed ps p.index q → FitsTo xs q p → probe_fits (kinds_of ps) xs p ≡ true
  unfolding probe_fits kind_fits operator_words
  probe_fits_lem p q l f =
      let same : get_or (kinds_of ps) p.index 0 ≡ q.kind = table_listed (λ r. r.kind) ps p.index q l in
      let v = from_found f.from in
      rw (same, not_eqb q.kind 0 (kind_there l), not_eqb q.kind bundle_kind f.no_bundle, lt-ltb p.operator 19 f.one_of, (operator_iff q.kind p.operator).1 f.has_operator, v.found, v.decodes)
      ((value_iff q.kind f.contents p.operator).1 f.readable)

  -- ---- an expression

  parent_of : {i : ℕ} {q : Parameter} → Listed ps i q → get_or (parents_of ps) i 0 ≡ q.bundle
  parent_of {i} {q} l = table_listed (λ r. r.bundle) ps i q l

  -- the bundle that a parameter stands in
  bundle_of : {i : ℕ} {q : Parameter} → Listed ps i q → (j : ℕ) → q.bundle ≡ suc j → (b : Parameter) × (Listed ps j b × (b.kind ≡ bundle_kind))
  bundle_of {q = q} l j e = by_parent (listed_all (HasParent ps) w.parents l)
    where
      by_parent : HasParent ps q → (b : Parameter) × (Listed ps j b × (b.kind ≡ bundle_kind))
      by_parent (at_top z) = absurd (omega (arith, z, e))
      by_parent (in_bundle {i = i} {q = b} m k n d) = let s : i ≡ j = omega (arith, n, e) in (b, (subst (λ (x : ℕ). Listed ps x b) s m, k))

  abbrev within : ℕ → Expression → Bool
  within = fits_in (kinds_of ps) (parents_of ps) xs

  member_there : (p : Probe) → (member_of (kinds_of ps) (parents_of ps) xs p ≡ 0 → ⊥) → (q : Parameter) × (Listed ps p.index q × (FitsTo xs q p × (member_of (kinds_of ps) (parents_of ps) xs p ≡ q.bundle)))
  unfolding member_of
  member_there p n = by_fits (probe_fits (kinds_of ps) xs p) refl
    where
      by_fits : (t : Bool) → probe_fits (kinds_of ps) xs p ≡ t → (q : Parameter) × (Listed ps p.index q × (FitsTo xs q p × (cond (probe_fits (kinds_of ps) xs p) (get_or (parents_of ps) p.index 0) 0 ≡ q.bundle)))
      by_fits true e = let t = probe_there p e in (t.0, (t.1.0, (t.1.1, rw e (parent_of t.1.0))))
      by_fits false e = absurd (n (rw e))

  within-fits : (e : Expression) (c : ℕ) → within c e ≡ true → Fits ps xs c e
  unfolding fits_in
  within-fits (probing p) c h =
      let a : Bool = probe_fits (kinds_of ps) xs p in
      let b : Bool = eqb (get_or (parents_of ps) p.index 0) c in
      let t = probe_there p (and_left a b h) in
      fits_test t.1.0 (sym (parent_of t.1.0) ∙ eqb-true (get_or (parents_of ps) p.index 0) c (and_right a b h)) t.1.1
  within-fits (choosing e p) c h =
      let m : ℕ = member_of (kinds_of ps) (parents_of ps) xs p in
      let g : Bool = within m e in
      let a : (not (eqb m 0) && g) ≡ true = and_right (eqb c 0) (not (eqb m 0) && g) h in
      let n : m ≡ 0 → ⊥ = eqb-false m 0 (not-true (eqb m 0) (and_left (not (eqb m 0)) g a)) in
      subst (λ (x : ℕ). Fits ps xs x (choosing e p)) (sym (eqb-true c 0 (and_left (eqb c 0) (not (eqb m 0) && g) h)))
      (by_member m refl n (within-fits e m (and_right (not (eqb m 0)) g a)))
    where
      by_member : (j : ℕ) → member_of (kinds_of ps) (parents_of ps) xs p ≡ j → (j ≡ 0 → ⊥) → Fits ps xs j e → Fits ps xs 0 (choosing e p)
      by_member zero i n f = absurd (n refl)
      by_member (suc j) i n f =
          let t = member_there p (λ z. omega (arith, i, z)) in
          let inner : t.0.bundle ≡ suc j = sym t.1.1.1 ∙ i in
          let b = bundle_of t.1.0 j inner in
          fits_bracket t.1.0 inner b.1.0 b.1.1 t.1.1.0 f
  within-fits (joining k e f) c h = fits_join (within-fits e c (and_left (within c e) (within c f) h)) (within-fits f c (and_right (within c e) (within c f) h))
  within-fits (negating e) c h = fits_not (within-fits e c h)

  fits-within : {c : ℕ} {e : Expression} → Fits ps xs c e → within c e ≡ true
  unfolding fits_in member_of
  fits-within (fits_test {c = c} {p = p} {q = q} l e f) = rw (probe_fits_lem p q l f, parent_of l, e) (eq-eqb c c refl)
  fits-within (fits_bracket {e = e} {p = p} {j = j} {q = q} l i m k f g) =
      let parent : get_or (parents_of ps) p.index 0 ≡ suc j = parent_of l ∙ i in
      rw (probe_fits_lem p q l f, parent, not_eqb (suc j) 0 (λ z. omega (arith, z))) (fits-within g)
  fits-within (fits_join {c = c} {e = e} {f = f} a b) = and_both (within c e) (within c f) (fits-within a) (fits-within b)
  fits-within (fits_not a) = fits-within a

  -- what fits can be written
  fits_sayable : {p : Probe} {q : Parameter} → Listed ps p.index q → FitsTo xs q p → Sayable p
  unfolding operator_words
  fits_sayable {p} {q} l f =
      record {
        index = omega (arith, w.count, ap length l.split, length-append l.before (q ∷ l.after), l.index);
        operator = omega (arith, f.one_of);
      }

  fits_writable : {c : ℕ} {e : Expression} → Fits ps xs c e → Writable e
  fits_writable (fits_test l e f) = writable_test (fits_sayable l f)
  fits_writable (fits_bracket l i m k f g) = writable_bracket (fits_writable g) (fits_sayable l f)
  fits_writable (fits_join a b) = writable_join (fits_writable a) (fits_writable b)
  fits_writable (fits_not a) = writable_not (fits_writable a)

  -- ---- rows

  good_of : (cs : List ℕ) (o : maybe.Option Expression) → stated cs ≡ o → good_by (kinds_of ps) (parents_of ps) xs o ≡ true → Good ps xs cs
  good_of cs none e h = both_ways h refl
  good_of cs (some f) e h =
      let few : Bool = leb (test_count f) 32 in
      let low : Bool = leb (shape_of f).chain 8 in
      let rest : (low && within 0 f) ≡ true = and_right few (low && within 0 f) h in
      record {
        expression = f;
        written = stated-cells cs f e;
        nests = chain_of_lem f 8 (leb-true (shape_of f).chain 8 (and_left low (within 0 f) rest));
        few = leb-true (test_count f) 32 (and_left few (low && within 0 f) h);
        fits = within-fits f 0 (and_right low (within 0 f) rest);
      }

  pub good_states : {cs : List ℕ} (g : Good ps xs cs) → stated cs ≡ some g.expression
  good_states g = ap stated g.written ∙ stated-encode g.expression (fits_writable g.fits)

  of_good : (cs : List ℕ) → Good ps xs cs → good (kinds_of ps) (parents_of ps) xs cs ≡ true
  unfolding good
  of_good cs g = rw (good_states g, le-leb (test_count g.expression) 32 g.few, le-leb (shape_of g.expression).chain 8 (of_chain g.nests)) (fits-within g.fits)

  pub good_iff : (cs : List ℕ) → (good (kinds_of ps) (parents_of ps) xs cs ≡ true) ↔ Good ps xs cs
  unfolding good
  good_iff cs = (λ h. good_of cs (stated cs) refl h, λ g. of_good cs g)

-- good rows are few
pub good_few : (kinds parents xs cs : List ℕ) → good kinds parents xs cs ≡ true → length cs ≤ 320
unfolding good
good_few kinds parents xs cs h = by_stated (stated cs) refl h
  where
    by_stated : (o : maybe.Option Expression) → stated cs ≡ o → good_by kinds parents xs o ≡ true → length cs ≤ 320
    by_stated none e h = both_ways h refl
    by_stated (some f) e h =
        let few : Bool = leb (test_count f) 32 in
        let low : Bool = leb (shape_of f).chain 8 in
        let fits : Bool = fits_in kinds parents xs 0 f in
        let deep : (shape_of f).chain ≤ 8 = leb-true (shape_of f).chain 8 (and_left low fits (and_right few (low && fits) h)) in
        omega (arith, leb-true (test_count f) 32 (and_left few (low && fits) h), rows_few (chain_of_lem f 8 deep), ap length (stated-cells cs f e))

-- ---- as the code tests them

module _ (kinds parents xs cs : List ℕ) where
  pub too_many : 320 < length cs → false ≡ good kinds parents xs cs
  too_many l = by_test (good kinds parents xs cs) refl
    where
      by_test : (t : Bool) → good kinds parents xs cs ≡ t → false ≡ t
      by_test true e = absurd (omega (arith, l, good_few kinds parents xs cs e))
      by_test false e = refl

  -- 18 calls within calls are enough for brackets within the limit
  enough : (o : maybe.Option Expression) → stated cs ≡ o → stated_in 18 cs ≡ none → good_by kinds parents xs o ≡ false
  enough none i h = refl
  enough (some e) i h = by_depth (leb (shape_of e).chain 8) refl
    where
      no_and : (a b : Bool) → (a && (false && b)) ≡ false
      no_and true b = refl
      no_and false b = refl

      by_depth : (t : Bool) → leb (shape_of e).chain 8 ≡ t → (leb (test_count e) 32 && (t && fits_in kinds parents xs 0 e)) ≡ false
      by_depth false j = no_and (leb (test_count e) 32) (fits_in kinds parents xs 0 e)
      by_depth true j =
          let c = stated_are cs e i in
          let few : parts_in e ≤ 18 = omega (arith, (parts_levels e).0, leb-true (shape_of e).chain 8 j) in
          absurd (none-ne-some _ (sym h ∙ ap (stated_in 18) c.are ∙ in_encode e c.writable 18 few))

  states_so : (e : Expression) → stated_in 18 cs ≡ some e → stated cs ≡ some e
  states_so e h = let c = in_cells 18 cs e h in ap stated c.are ∙ stated-encode e c.writable

  module _ (r : Option Shape) (h : r ≡ shape_by (fits_in kinds parents xs 0) (stated_in 18 cs)) where
    pub none_good : r ≡ None → false ≡ good kinds parents xs cs
    unfolding good
    none_good i = by_stated (stated_in 18 cs) refl
      where
        and_no : (a b : Bool) → (a && (b && false)) ≡ false
        and_no true true = refl
        and_no true false = refl
        and_no false b = refl

        by_stated : (o : maybe.Option Expression) → stated_in 18 cs ≡ o → false ≡ good_by kinds parents xs (stated cs)
        by_stated none j = sym (enough (stated cs) refl j)
        by_stated (some e) j =
            let misfits : fits_in kinds parents xs 0 e ≡ false = (not_found (fits_in kinds parents xs 0) (stated_in 18 cs) r h i).each e j in
            sym
            (ap (good_by kinds parents xs) (states_so e j) ∙ ap (λ (b : Bool). leb (test_count e) 32 && (leb (shape_of e).chain 8 && b)) misfits
            ∙ and_no (leb (test_count e) 32) (leb (shape_of e).chain 8))

    module _ (s : Shape) (i : r ≡ Some s) where
      good_is : good kinds parents xs cs ≡ (leb s.tests 32 && leb s.chain 8)
      unfolding good
      good_is =
          let f = found (fits_in kinds parents xs 0) 18 cs r h s i in
          let e : Expression = f.expression in
          ap (good_by kinds parents xs) (states_so e f.states) ∙ ap (λ (b : Bool). leb (test_count e) 32 && (leb (shape_of e).chain 8 && b)) f.fitting
          ∙ ap (λ (b : Bool). leb (test_count e) 32 && b) (and_yes (leb (shape_of e).chain 8)) ∙ ap (λ (n : ℕ). leb n 32 && leb (shape_of e).chain 8) (sym (shape_tests e))
          ∙ sym (ap (λ (a : Shape). leb a.tests 32 && leb a.chain 8) f.is)
        where
          and_yes : (b : Bool) → (b && true) ≡ b
          and_yes true = refl
          and_yes false = refl

      pub many_good : 32 < s.tests → false ≡ good kinds parents xs cs
      many_good l = sym (good_is ∙ ap (λ (b : Bool). b && leb s.chain 8) (lt-leb s.tests 32 l))

      pub few_good : s.tests ≤ 32 → leb s.chain 8 ≡ good kinds parents xs cs
      few_good l = sym (good_is ∙ ap (λ (b : Bool). b && leb s.chain 8) (le-leb s.tests 32 l))
