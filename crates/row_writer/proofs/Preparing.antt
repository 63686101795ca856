-- The rows of a filter whose tests have no fault are good, and state the filter.
-- By induction on the derivation of the filter's text. Each test without a fault (`Clean`) names a parameter whose kind has its operator and
-- reads its value, so its row fits (`placed`). The rows of a filter fit, and the tree that they state is the filter's, with all positions set
-- to 0 by `erase` (`prepared_filter`). Brackets nest as the grammar lets them (`nests_of`).
-- Assumes nothing.
use Rattle.std.specs.Prelude.{Err, Ok, Result, ⊤, Option, None, Some}
use Prim.Native.Nat.{ℕ, suc, ◌+◌, ◌≤◌}
use native.Mathlib.Omega.{arith}
use mathlib.Core.Path.{◌≡◌, refl, sym, ap, ap₂, subst, ◌∙◌}
use mathlib.Core.Bool.{true, false}
use mathlib.Core.List.{List, [], ◌∷◌, map}
use lib.Dec.{eqb}
use lib.ListN.{length, get_or, length-append, length-map}
use borrow.Author.Tests.{eqb-false}
use Rattle.base.specs.Lists.{Listed, All, all_empty, all_cons}
use Rattle.base.specs.Kinds.{bundle_kind}
use Rattle.base.proofs.Tests.{cond-elim}
use Rattle.base.proofs.All.{all_head, all_left, all_right}
use Rattle.sheet.specs.Sheet.{Parameter, parameter}
use Rattle.sheet.specs.Find.{found_at, find, enter, parents_of}
use Rattle.sheet.specs.Encode.{WellFormedSheet}
use Rattle.sheet.specs.declared.Found.{Found}
use Rattle.sheet.proofs.Listed.{find_iff, table_listed}
use Rattle.syntax.specs.Strings.{is_bare}
use Rattle.syntax.specs.Tree.{Test, name, moved, under, Tree, test, bracketed, join, negation, tests_of, erase}
use Rattle.syntax.specs.Grammar.{round, square, most_tests, TestAt, a_test, Item, Filter, item_test, item_bracket, item_not, item_bracketed, one_item, one_more, Spells}
use Rattle.syntax.specs.Scan.{value_at}
use Rattle.syntax.specs.declared.RawValue.{RawValue}
use Rattle.syntax.proofs.Tests.{test_found}
use Rattle.kind.specs.Table.{has_meaning}
use Rattle.kind.specs.Readable.{value_readable}
use Rattle.kind.proofs.Rules.{value_iff, operator_iff}
use Rattle.judge.specs.Sets.{lookup}
use Rattle.refusal.specs.Decisions.{or_else}
use Rattle.judge.specs.Faults.{unsupported, kind_fault, fault_at, test_fault, first_fault}
use Rattle.judge.proofs.Rules.{entered, enters}
use Rattle.rows.specs.Expression.{test_count}
use Rattle.rows.specs.Cells.{encode}
use Rattle.rows.specs.Nesting.{NestsItem, Nests, nests_test, nests_bracketed, nests_bracket, nests_not, nests_item, nests_more}
use Rattle.rows.specs.Good.{ValueFrom, FitsTo, Fits, fits_test, fits_bracket, fits_join, fits_not, Good}
use Rattle.rows.specs.Shapes.{value_in}
use Rattle.row_writer.specs.Writing.{value_place, index_of, probe_for, prepared}
use Rattle.rows.specs.Stated.{name_at, value_by, test_for, bundle_for, tree_of}
use Rattle.row_writer.proofs.Numbers.{found-read}
use Rattle.rows.proofs.Values.{found_from}
use Rattle.rows.proofs.Naming.{name_listed, bundle-name, bundle-at-top}
use Rattle.refusal.specs.declared.Refusal.{Refusal}

-- ---- tests without a fault

-- what a test without a fault names, and that its operator and its value are right for it
record Clean (ps : List Parameter) (c : ℕ) (t : Test) : Type 0 where
  index : ℕ
  kind : ℕ
  found : lookup ps c t.path ≡ found_at index kind
  no_bundle : kind ≡ bundle_kind → ⊥
  means : has_meaning t.operator kind ≡ true
  readable : value_readable t.operator kind t.value ≡ true

kind_clean : (k kind : ℕ) (v : List ℕ) (p : ℕ) → kind_fault k kind v p ≡ (Ok tt) → (has_meaning k kind ≡ true) × (value_readable k kind v ≡ true)
unfolding kind_fault
kind_clean k kind v p =
    cond-elim (λ f. f ≡ (Ok tt) → (has_meaning k kind ≡ true) × (value_readable k kind v ≡ true)) (unsupported k)
    (λ a e. let z : ◌≡◌ {A = ℕ} 0 1 = cc in absurd (omega arith))
    (λ a. cond-elim (λ f. f ≡ (Ok tt) → (has_meaning k kind ≡ true) × (value_readable k kind v ≡ true)) (has_meaning k kind)
    (λ b. cond-elim (λ f. f ≡ (Ok tt) → (has_meaning k kind ≡ true) × (value_readable k kind v ≡ true)) (value_readable k kind v)
    (λ c e. (b, c)) (λ c e. let z : ◌≡◌ {A = ℕ} 0 1 = cc in absurd (omega arith)))
    (λ b e. let z : ◌≡◌ {A = ℕ} 0 1 = cc in absurd (omega arith)))

clean_of : (ps : List Parameter) (c : ℕ) (t : Test) → test_fault ps c t ≡ (Ok tt) → Clean ps c t
unfolding test_fault
clean_of ps c t h = by_found (lookup ps c t.path) refl h
  where
    by_found : (o : Option Found) → lookup ps c t.path ≡ o → fault_at o t.operator t.value t.at ≡ (Ok tt) → Clean ps c t
    by_found None e g = let z : ◌≡◌ {A = ℕ} 0 1 = cc in absurd (omega arith)
    by_found (Some found) e g =
        cond-elim (λ f. f ≡ (Ok tt) → Clean ps c t) (eqb found.kind bundle_kind) (λ b y. let z : ◌≡◌ {A = ℕ} 0 1 = cc in absurd (omega arith))
        (λ b y. let k = kind_clean t.operator found.kind t.value t.at y in
        record { index = found.index; kind = found.kind; found = e; no_bundle = eqb-false found.kind bundle_kind b; means = k.0; readable = k.1 }) g

-- where none is refused, each is clean
clean_all : (ps : List Parameter) (c : ℕ) (ts : List Test) → first_fault ps c ts ≡ (Ok tt) → All (Clean ps c) ts
unfolding first_fault
clean_all ps c [] h = all_empty
clean_all ps c (t ∷ ts) h = by_fault (test_fault ps c t) refl h (clean_all ps c ts)
  where
    by_fault : (f : Result ⊤ Refusal) → test_fault ps c t ≡ f → or_else f (first_fault ps c ts) ≡ (Ok tt) → (first_fault ps c ts ≡ (Ok tt) → All (Clean ps c) ts) → All (Clean ps c) (t ∷ ts)
    by_fault (Ok tt) e g again = all_cons (clean_of ps c t e) (again g)
    by_fault (Err r) e g again = let z : ◌≡◌ {A = ℕ} 0 1 = cc in absurd (omega arith)

-- wherever it stands, and inside brackets, where names are looked up in the bundle
clean_moved : {ps : List Parameter} {c p : ℕ} {t : Test} → Clean ps c (moved p t) → Clean ps c t
clean_moved a = record { index = a.index; kind = a.kind; found = a.found; no_bundle = a.no_bundle; means = a.means; readable = a.readable }

clean_under : (ps : List Parameter) (c : ℕ) (b : List ℕ) (ts : List Test) → All (Clean ps c) (map (under b) ts) → All (Clean ps (enter ps c b)) ts
unfolding lookup
clean_under ps c b [] h = all_empty
clean_under ps c b (t ∷ ts) (all_cons a h) =
    all_cons (record { index = a.index; kind = a.kind; found = a.found; no_bundle = a.no_bundle; means = a.means; readable = a.readable }) (clean_under ps c b ts h)

-- ---- a test's value stands where it is looked for

record Valued (xs : List ℕ) (t : Test) : Type 0 where
  raw : RawValue
  found : value_at xs (value_place xs t.at) ≡ Some raw
  decodes : value_in xs raw ≡ t.value

valued : {xs : List ℕ} {close p q : ℕ} {t : Test} → TestAt xs close p q t → is_bare close ≡ false → Valued xs t
valued {xs} {close} {p} {q} {t} d b =
    let f = test_found d b in
    let same : f.raw.at ≡ t.at = ap (λ (u : Test). u.at) f.is in
    record {
      raw = f.raw.value;
      found = ap (λ (n : ℕ). value_at xs (value_place xs n)) (sym same) ∙ (found-read xs close p f.raw f.found).found;
      decodes = ap (λ (u : Test). u.value) f.is;
    }

-- a byte that closes a bracket stands in no bare word
round_not_bare : is_bare round ≡ false
unfolding is_bare
round_not_bare = refl

square_not_bare : is_bare square ≡ false
unfolding is_bare
square_not_bare = refl

-- ---- a test that fits, with the parameter that it names

module _ (ps : List Parameter) (w : WellFormedSheet ps) (xs : List ℕ) where
  record Placed-test (c : ℕ) (t : Test) : Type 0 where
    named : Parameter
    there : Listed ps (probe_for ps xs c t).index named
    within : named.bundle ≡ c
    fits : FitsTo xs named (probe_for ps xs c t)
    same : moved 0 (test_for ps xs (probe_for ps xs c t)) ≡ moved 0 t

  placed : {close p q c : ℕ} {t : Test} → TestAt xs close p q t → is_bare close ≡ false → Clean ps c t → Placed-test c t
  unfolding probe_for test_for lookup
  placed {c = c} {t = t} (a_test {p = p} {k = k} {n = n} {v = v} s h g o i u f) b a =
      let d = valued (a_test s h g o i u f) b in
      let l : Listed ps a.index (parameter a.kind c n) = (find_iff c n ps w.names a.index a.kind).0 a.found in
      let at : index_of (find c n ps) ≡ a.index = ap index_of a.found in
      record {
        named = parameter a.kind c n;
        there = subst (λ (x : ℕ). Listed ps x (parameter a.kind c n)) (sym at) l;
        within = refl;
        fits = record {
          no_bundle = a.no_bundle;
          one_of = o.one_of;
          has_operator = (operator_iff a.kind k).0 a.means;
          contents = v;
          from = subst (ValueFrom xs (value_place xs p)) d.decodes (found_from xs (value_place xs p) d.raw d.found);
          readable = (value_iff a.kind v k).0 a.readable;
        };
        same = ap₂ (λ (m x : List ℕ). record { at = 0; path = name m; operator = k; value = x }) (ap (λ (x : ℕ). name_at x ps) at ∙ name_listed l) (ap (value_by xs) d.found ∙ d.decodes);
      }

  -- ---- a filter

  record Prepared-tree (c : ℕ) (f : Tree) : Type 0 where
    fits : Fits ps xs c (prepared ps xs c f)
    same : erase (tree_of ps xs (prepared ps xs c f)) ≡ erase f

  bracketed_tree : (c p : ℕ) (n : List ℕ) (f : Tree) (t : Test) → Clean ps (enter ps c n) t → Placed-test (enter ps c n) t → Prepared-tree (enter ps c n) f → Prepared-tree c (bracketed p n f t)
  unfolding prepared tree_of erase
  bracketed_tree c p n f t clean a inner =
      let z : ℕ = enter ps c n in
      let b = entered ps w c n t.path clean.index clean.kind clean.found in
      let inside : z ≡ suc b.0 = enters ps w c n b.0 b.1 in
      let zero : c ≡ 0 = bundle-at-top ps w b.1 refl in
      let parent : get_or (parents_of ps) (probe_for ps xs z t).index 0 ≡ suc b.0 = table_listed (λ r. r.bundle) ps (probe_for ps xs z t).index a.named a.there ∙ a.within ∙ inside in
      let named : bundle_for ps (probe_for ps xs z t) ≡ n = bundle-name ps (probe_for ps xs z t) b.0 parent ∙ name_listed b.1 in
      let at_top : Fits ps xs 0 (prepared ps xs c (bracketed p n f t)) =
      fits_bracket a.there (a.within ∙ inside) b.1 refl a.fits (subst (λ (x : ℕ). Fits ps xs x (prepared ps xs z f)) inside inner.fits) in
      record {
        fits = subst (λ (x : ℕ). Fits ps xs x (prepared ps xs c (bracketed p n f t))) (sym zero) at_top;
        same = ap (λ (x : List ℕ). bracketed 0 x (erase (tree_of ps xs (prepared ps xs z f))) (moved 0 (test_for ps xs (probe_for ps xs z t)))) named ∙ ap₂ (bracketed 0 n) inner.same a.same;
      }

  mutual
    unfolding prepared tree_of erase tests_of

    prepared-item : {close d p q c : ℕ} {f : Tree} → Item xs close d p q f → is_bare close ≡ false → All (Clean ps c) (tests_of f) → Prepared-tree c f
    prepared-item (item_test t) b (all_cons e n) = let a = placed t b e in record { fits = fits_test a.there a.within a.fits; same = ap test a.same }
    prepared-item (item_bracket o f k) b h = prepared_filter f round_not_bare h
    prepared-item (item_not o f k) b h = let a = prepared_filter f round_not_bare h in record { fits = fits_not a.fits; same = ap negation a.same }
    prepared-item {c = c} (item_bracketed {p = p} {n = n} {f = g} {t = t} o f k s u) b h =
        let l = clean_under ps c n (moved p t ∷ tests_of g) h in
        let e : Clean ps (enter ps c n) t = clean_moved (all_head (Clean ps (enter ps c n)) l) in
        bracketed_tree c p n g t e (placed u b e) (prepared_filter f square_not_bare (all_right (Clean ps (enter ps c n)) (moved p t ∷ []) l))

    prepared_filter : {close d p q c : ℕ} {f : Tree} → Filter xs close d p q f → is_bare close ≡ false → All (Clean ps c) (tests_of f) → Prepared-tree c f
    prepared_filter (one_item i) b h = prepared-item i b h
    prepared_filter {c = c} (one_more {c = k} {f = f} {g = g} d j i) b h =
        let x = prepared_filter d b (all_left (Clean ps c) (tests_of f) (tests_of g) h) in
        let y = prepared-item i b (all_right (Clean ps c) (tests_of f) h) in
        record { fits = fits_join x.fits y.fits; same = ap₂ (join k) x.same y.same }

  -- brackets nest as in the text, or less
  mutual
    unfolding prepared

    nests_item_of : {close d p q : ℕ} {f : Tree} (c : ℕ) → Item xs close d p q f → NestsItem d (prepared ps xs c f)
    nests_item_of c (item_test t) = nests_test
    nests_item_of c (item_bracket o f k) = nests_bracket (nests_of c f)
    nests_item_of c (item_not o f k) = nests_not (nests_of c f)
    nests_item_of c (item_bracketed {n = n} o f k s t) = nests_bracketed (nests_of (enter ps c n) f)

    nests_of : {close d p q : ℕ} {f : Tree} (c : ℕ) → Filter xs close d p q f → Nests d (prepared ps xs c f)
    nests_of c (one_item i) = nests_item (nests_item_of c i)
    nests_of c (one_more f k i) = nests_more (nests_of c f) (nests_item_of c i)

  tests_counted : (c : ℕ) (f : Tree) → test_count (prepared ps xs c f) ≡ length (tests_of f)
  unfolding prepared test_count tests_of
  tests_counted c (test t) = refl
  tests_counted c (bracketed p b f t) = ap suc (tests_counted (enter ps c b) f ∙ sym (length-map (tests_of f) (under b)))
  tests_counted c (join k f g) = ap₂ ◌+◌ (tests_counted c f) (tests_counted c g) ∙ sym (length-append (tests_of f) (tests_of g))
  tests_counted c (negation f) = tests_counted c f

  module _ (f : Tree) (s : Spells xs f) (n : first_fault ps 0 (tests_of f) ≡ (Ok tt)) where
    whole : Prepared-tree 0 f
    whole = prepared_filter s.filter round_not_bare (clean_all ps 0 (tests_of f) n)

    -- the rows that are prepared of a filter without a fault are good
    pub prepared-good : Good ps xs (encode (prepared ps xs 0 f))
    prepared-good =
        record {
          expression = prepared ps xs 0 f;
          written = refl;
          nests = nests_of 0 s.filter;
          few = subst (λ (k : ℕ). k ≤ most_tests) (sym (tests_counted 0 f)) s.few;
          fits = whole.fits;
        }

    -- and state it
    pub prepared_states : erase (tree_of ps xs prepared-good.expression) ≡ erase f
    unfolding prepared-good
    prepared_states = whole.same
