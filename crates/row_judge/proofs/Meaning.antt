-- What rows say is what the tree that they state says; where the tests of a tree stand in the text makes no difference.
-- Assumes nothing.
use Prim.Native.Nat.{ℕ, suc}
use mathlib.Core.Path.{◌≡◌, refl, sym, ap, ap₂, subst, ◌∙◌}
use mathlib.Core.Bool.{Bool, true, cond, not}
use mathlib.Core.Option.{Option, none, some, some-injective}
use mathlib.Core.List.{List, [], ◌∷◌, map}
use lib.ListN.{get_or}
use Rattle.base.specs.Lists.{Listed, All, all_empty, all_cons}
use Rattle.base.specs.Operators.{pr}
use Rattle.base.specs.Kinds.{bundle_kind}
use Rattle.base.proofs.Tests.{both_ways}
use Rattle.base.proofs.All.{all_append}
use Rattle.sheet.specs.Sheet.{Parameter, parameter}
use Rattle.sheet.specs.Find.{found_at, find, enter, kinds_of, parents_of}
use Rattle.sheet.specs.Encode.{WellFormedSheet}
use Rattle.sheet.proofs.Listed.{find_iff, table_listed}
use Rattle.card.specs.Card.{Entry}
use Rattle.syntax.specs.Tree.{Test, moved, under, tests_of, Tree, test, bracketed, join, negation, erase}
use Rattle.syntax.specs.Fold.{fold_tree}
use Rattle.syntax.specs.Scan.{value_at}
use Rattle.judge.specs.Sets.{lookup, of_occurrence, keep}
use Rattle.judge.specs.Verdicts.{test_says, joined, filter_says}
use Rattle.kind.specs.Rules.{TrueOrFalse, ReadableValue, value_of_pr, value_of_kind}
use Rattle.judge.proofs.Rules.{PrSpelled, enters}
use Rattle.rows.specs.Expression.{Expression}
use Rattle.rows.specs.Cells.{stated}
use Rattle.rows.specs.Good.{FitsTo, Fits, fits_test, fits_bracket, fits_join, fits_not, Good}
use Rattle.rows.specs.Shapes.{good_by, good}
use Rattle.row_judge.specs.Saying.{probe_says, expression_says, stated_says, rows_say, Whole}
use Rattle.rows.specs.Stated.{name_at, value_by, test_for, bundle_for, tree_of}
use Rattle.rows.specs.declared.Probe.{Probe}
use Rattle.rows.proofs.Good.{good_states, good_iff}
use Rattle.rows.proofs.Naming.{name_listed, bundle-name, bundle-at-top}
use Rattle.rows.proofs.Values.{from_found}

pub keep_same : (p q : Entry → Bool) → ((e : Entry) → p e ≡ q e) → (es : List Entry) → keep p es ≡ keep q es
unfolding keep
keep_same p q h [] = refl
keep_same p q h (e ∷ es) = ap₂ (λ (b : Bool) (l : List Entry). cond b (e ∷ l) l) (h e) (keep_same p q h es)

module _ (ps : List Parameter) (w : WellFormedSheet ps) (xs : List ℕ) where
  probe_is : (c : ℕ) (p : Probe) (q : Parameter) → Listed ps p.index q → q.bundle ≡ c → FitsTo xs q p → (es : List Entry) → probe_says (kinds_of ps) xs p es ≡ test_says ps c es (test_for ps xs p)
  unfolding probe_says test_says test_for lookup
  probe_is c p q l e f es =
      let v = from_found f.from in
      let kind : get_or (kinds_of ps) p.index 0 ≡ q.kind = table_listed (λ r. r.kind) ps p.index q l in
      let there : Listed ps p.index (parameter q.kind c q.name) = subst (λ (x : ℕ). Listed ps p.index (parameter q.kind x q.name)) e l in
      let at : find c (name_at p.index ps) ps ≡ found_at p.index q.kind = ap (λ (n : List ℕ). find c n ps) (name_listed l) ∙ (find_iff c q.name ps w.names p.index q.kind).1 there in
      rw (kind, v.found, at)

  pub says_is : {c : ℕ} {e : Expression} → Fits ps xs c e → (es : List Entry) → expression_says (kinds_of ps) xs es e ≡ filter_says ps c es (tree_of ps xs e)
  unfolding expression_says filter_says fold_tree tree_of
  says_is (fits_test {c = c} {p = p} {q = q} l e f) es = probe_is c p q l e f es
  says_is (fits_bracket {e = e} {p = p} {j = j} {q = q} {b = b} l i m k f g) es =
      let parent : get_or (parents_of ps) p.index 0 ≡ suc j = table_listed (λ r. r.bundle) ps p.index q l ∙ i in
      let named : bundle_for ps p ≡ b.name = bundle-name ps p j parent ∙ name_listed m in
      let there : Listed ps j (parameter bundle_kind 0 b.name) = subst (λ (x : ℕ). Listed ps j (parameter bundle_kind x b.name)) (bundle-at-top ps w m k) (subst (λ (x : ℕ). Listed ps j (parameter x b.bundle b.name)) k m) in
      let inside : enter ps 0 (bundle_for ps p) ≡ suc j = ap (enter ps 0) named ∙ enters ps w 0 b.name j there in
      ap (λ (l : List Entry). probe_says (kinds_of ps) xs p l) (keep_same (λ n. expression_says (kinds_of ps) xs (of_occurrence n.occurrence es) e) (λ n. filter_says ps (suc j) (of_occurrence n.occurrence es) (tree_of ps xs e)) (λ n. says_is g (of_occurrence n.occurrence es)) es)
      ∙ probe_is (suc j) p q l i f (keep (λ n. filter_says ps (suc j) (of_occurrence n.occurrence es) (tree_of ps xs e)) es)
      ∙ ap (λ (x : ℕ). test_says ps x (keep (λ n. filter_says ps x (of_occurrence n.occurrence es) (tree_of ps xs e)) es) (test_for ps xs p)) (sym inside)
  says_is (fits_join {k = k} a b) es = ap₂ (joined k) (says_is a es) (says_is b es)
  says_is (fits_not a) es = ap not (says_is a es)

-- ---- positions

pub erase-says : (ps : List Parameter) (c : ℕ) (es : List Entry) (f : Tree) → filter_says ps c es (erase f) ≡ filter_says ps c es f
unfolding filter_says fold_tree erase test_says
erase-says ps c es (test t) = refl
erase-says ps c es (bracketed p b f t) =
    ap (λ (l : List Entry). test_says ps (enter ps c b) l t) (keep_same (λ e. filter_says ps (enter ps c b) (of_occurrence e.occurrence es) (erase f)) (λ e. filter_says ps (enter ps c b) (of_occurrence e.occurrence es) f) (λ e. erase-says ps (enter ps c b) (of_occurrence e.occurrence es) f) es)
erase-says ps c es (join k f g) = ap₂ (joined k) (erase-says ps c es f) (erase-says ps c es g)
erase-says ps c es (negation f) = ap not (erase-says ps c es f)

-- ---- good rows

-- they state an expression
pub good-whole : (kinds parents xs cs : List ℕ) → good kinds parents xs cs ≡ true → Whole cs
unfolding good
good-whole kinds parents xs cs h = by_stated (stated cs) refl h
  where
    by_stated : (o : Option Expression) → stated cs ≡ o → good_by kinds parents xs o ≡ true → Whole cs
    by_stated none i g = both_ways g refl
    by_stated (some e) i g = record { expression = e; states = i }

-- and say what its tree says
pub rows_mean : (ps : List Parameter) → WellFormedSheet ps → (xs cs : List ℕ) (e : Expression) → good (kinds_of ps) (parents_of ps) xs cs ≡ true → stated cs ≡ some e → (es : List Entry)
    → rows_say (kinds_of ps) xs es cs ≡ filter_says ps 0 es (tree_of ps xs e)
unfolding rows_say
rows_mean ps w xs cs e h i es =
    let g : Good ps xs cs = (good_iff ps w xs cs).0 h in
    let same : g.expression ≡ e = some-injective _ _ (sym (good_states ps w xs g) ∙ i) in
    ap (stated_says (kinds_of ps) xs es) i ∙ says_is ps w xs (subst (Fits ps xs 0) same g.fits) es

-- pr's values are true or false
value_of : (ps : List Parameter) (xs : List ℕ) (p : Probe) (q : Parameter) → FitsTo xs q p → PrSpelled (test_for ps xs p)
unfolding test_for
value_of ps xs p q f e =
    let v = from_found f.from in
    let same : value_by xs (value_at xs p.position) ≡ f.contents = ap (value_by xs) v.found ∙ v.decodes in
    subst TrueOrFalse (sym same) (spelled (subst (ReadableValue q.kind f.contents) e f.readable))
  where
    spelled : {k : ℕ} {w : List ℕ} → ReadableValue k w pr → TrueOrFalse w
    spelled (value_of_pr t) = t
    spelled (value_of_kind n r) = absurd (n refl)

pub fits_spelled : (ps : List Parameter) (xs : List ℕ) {c : ℕ} {e : Expression} → Fits ps xs c e → All PrSpelled (tests_of (tree_of ps xs e))
unfolding tree_of tests_of
fits_spelled ps xs (fits_test {p = p} {q = q} l e f) = all_cons (value_of ps xs p q f) all_empty
fits_spelled ps xs (fits_bracket {e = e} {p = p} {q = q} l i m k f g) = spelled_under (bundle_for ps p) (moved p.position (test_for ps xs p) ∷ tests_of (tree_of ps xs e)) (all_cons (value_of ps xs p q f) (fits_spelled ps xs g))
  where
    spelled_under : (b : List ℕ) (ts : List Test) → All PrSpelled ts → All PrSpelled (map (under b) ts)
    spelled_under b [] all_empty = all_empty
    spelled_under b (t ∷ ts) (all_cons a h) = all_cons a (spelled_under b ts h)
fits_spelled ps xs (fits_join a b) = all_append PrSpelled (fits_spelled ps xs a) (fits_spelled ps xs b)
fits_spelled ps xs (fits_not a) = fits_spelled ps xs a
