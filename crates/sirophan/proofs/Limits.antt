-- What good rows state is spelled within both limits, by its plain spelling; and what a text spells within both limits, with tests that
-- fit, has good rows.
-- One way, the nesting of the expression is that of its tree, whose names are the sheet's and whose values stand in the text, so that the
-- tree can be spelled (`spellable`). The other way, the derivation of the text shows how its expression nests (`nests`).
-- Assumes nothing.
use Prim.Native.Nat.{ℕ, suc, ◌+◌, ◌≤◌}
use mathlib.Core.Path.{◌≡◌, refl, sym, ap, ap₂, subst, ◌∙◌}
use mathlib.Core.List.{List}
use lib.ListN.{length, length-append, length-map}
use Rattle.base.specs.Lists.{Listed}
use Rattle.base.specs.Names.{Name}
use Rattle.sheet.specs.Sheet.{Parameter}
use Rattle.sheet.specs.Encode.{WellFormedSheet, WellFormedParameter}
use Rattle.sheet.proofs.Listed.{table_listed}
use Rattle.syntax.specs.Tree.{under, Tree, test, bracketed, join, negation, tests_of, erase}
use Rattle.syntax.specs.Grammar.{most_tests, Item, item_test, item_bracket, item_not, item_bracketed, Filter, one_item, one_more}
use Rattle.plain.specs.Plain.{plain}
use Rattle.plain.proofs.Values.{value_spellable}
use Rattle.plain.proofs.Reading.{SpellableTest, spellable_test, SpellableItem, as_test, as_bracketed, as_not, Spellable, joined, alone, grouped, spelled}
use Rattle.rows.specs.Expression.{Expression, test_count}
use Rattle.rows.specs.Cells.{encode}
use Rattle.rows.specs.Nesting.{NestsItem, nests_test, nests_bracketed, nests_bracket, nests_not, Nests, nests_item, nests_more}
use Rattle.rows.specs.Good.{FitsTo, Fits, fits_test, fits_bracket, fits_join, fits_not, Good}
use Rattle.rows.specs.Stated.{name_at, test_for, bundle_for, tree_of}
use Rattle.rows.specs.declared.Probe.{Probe}
use Rattle.rows.proofs.Good.{listed_all}
use Rattle.rows.proofs.Naming.{name_listed, bundle-name}
use Rattle.sirophan.specs.Stating.{States, states_test, states_bracket, states_join, states_not}
use Rattle.sirophan.specs.Limits.{SpelledBy}
use Rattle.sirophan.proofs.Stating.{value-at, good_state}

module _ (ps : List Parameter) (xs : List ℕ) where
  -- ---- as many tests as the tree has

  tests_stated : {e : Expression} {f : Tree} → States ps xs e f → test_count e ≡ length (tests_of f)
  unfolding test_count tests_of
  tests_stated (states_test l s) = refl
  tests_stated (states_bracket {n = n} {f = f} l b m i s r) = ap suc (tests_stated r ∙ sym (length-map (tests_of f) (under n)))
  tests_stated (states_join {g = g} {h = h} a b) = ap₂ ◌+◌ (tests_stated a) (tests_stated b) ∙ sym (length-append (tests_of g) (tests_of h))
  tests_stated (states_not a) = tests_stated a

  -- ---- what is spelled nests

  mutual
    nests_one : {ys : List ℕ} {close d p q : ℕ} {e : Expression} {f : Tree} → Item ys close d p q f → States ps xs e f → NestsItem d e
    nests_one (item_test t) (states_test l s) = nests_test
    nests_one (item_bracket o f k) r = nests_bracket (nests f r)
    nests_one (item_not o f k) (states_not r) = nests_not (nests f r)
    nests_one (item_bracketed o f k s t) (states_bracket l b m i u r) = nests_bracketed (nests f r)

    nests : {ys : List ℕ} {close d p q : ℕ} {e : Expression} {f : Tree} → Filter ys close d p q f → States ps xs e f → Nests d e
    nests (one_item i) r = nests_item (nests_one i r)
    nests (one_more f k i) (states_join a b) = nests_more (nests f a) (nests_one i b)

  pub spelled_good : (e : Expression) (spelling : List ℕ) → SpelledBy ps xs e spelling → Fits ps xs 0 e → (g : Good ps xs (encode e)) × (g.expression ≡ e)
  spelled_good e spelling s f =
      let few : test_count e ≤ most_tests = subst (λ (n : ℕ). n ≤ most_tests) (sym (tests_stated s.states)) s.spells.few in
      (record { expression = e; written = refl; nests = nests s.spells.filter s.states; few = few; fits = f }, refl)

  -- ---- positions do not matter to what is stated

  states_erased : {e : Expression} {f : Tree} → States ps xs e f → States ps xs e (erase f)
  unfolding erase
  states_erased (states_test l s) = states_test l (record { path = s.path; operator = s.operator; value = s.value })
  states_erased (states_bracket l b m i s r) = states_bracket l b m i (record { path = s.path; operator = s.operator; value = s.value }) (states_erased r)
  states_erased (states_join a b) = states_join (states_erased a) (states_erased b)
  states_erased (states_not a) = states_not (states_erased a)

  erased_states : {e : Expression} (f : Tree) → States ps xs e (erase f) → States ps xs e f
  unfolding erase
  erased_states (test t) (states_test l s) = states_test l (record { path = s.path; operator = s.operator; value = s.value })
  erased_states (bracketed p n f t) (states_bracket l b m i s r) = states_bracket l b m i (record { path = s.path; operator = s.operator; value = s.value }) (erased_states f r)
  erased_states (join c f g) (states_join a b) = states_join (erased_states f a) (erased_states g b)
  erased_states (negation f) (states_not a) = states_not (erased_states f a)

  -- ---- what nests can be spelled

  module _ (w : WellFormedSheet ps) where
    named : {i : ℕ} {q : Parameter} → Listed ps i q → Name (name_at i ps)
    named l = subst Name (sym (name_listed l)) (listed_all WellFormedParameter w.parameters l).name

    test_spells : {q : Parameter} (p : Probe) → Listed ps p.index q → FitsTo xs q p → SpellableTest (test_for ps xs p)
    unfolding test_for
    test_spells p l f = spellable_test (named l) f.one_of (value_spellable (value-at ps xs p f.from).value)

    bundle_named : {j : ℕ} {q b : Parameter} (p : Probe) → Listed ps p.index q → q.bundle ≡ suc j → Listed ps j b → Name (bundle_for ps p)
    bundle_named {j} {q} p l e m = subst Name (sym (bundle-name ps p j (table_listed (λ r. r.bundle) ps p.index q l ∙ e))) (named m)

    mutual
      unfolding tree_of

      item_spellable : {d c : ℕ} {e : Expression} → NestsItem d e → Fits ps xs c e → SpellableItem d (tree_of ps xs e)
      item_spellable (nests_test {p = p}) (fits_test l b f) = as_test (test_spells p l f)
      item_spellable (nests_bracketed {p = p} n) (fits_bracket l b m k f r) = as_bracketed (bundle_named p l b m) (spellable n r) (test_spells p l f)
      item_spellable (nests_bracket n) f = grouped (spellable n f)
      item_spellable (nests_not n) (fits_not f) = as_not (spellable n f)

      spellable : {d c : ℕ} {e : Expression} → Nests d e → Fits ps xs c e → Spellable d (tree_of ps xs e)
      spellable (nests_item i) f = alone (item_spellable i f)
      spellable (nests_more n i) (fits_join a b) = joined (spellable n a) (item_spellable i b)

    pub good_spelled : {cs : List ℕ} (g : Good ps xs cs) → SpelledBy ps xs g.expression (plain (tree_of ps xs g.expression))
    good_spelled g =
        let r = good_state ps xs g in
        let t = spelled (tree_of ps xs g.expression) (spellable g.nests g.fits) (subst (λ (n : ℕ). n ≤ most_tests) (tests_stated r) g.few) in
        record { tree = t.0; spells = t.1.0; states = erased_states t.0 (subst (States ps xs g.expression) (sym t.1.1) (states_erased r)) }
