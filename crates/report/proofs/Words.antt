-- The rows in 02's words: each counts the cards that have its parameter and the values under it, and a bundle's counts none, since no text is
-- readable under it.
-- Assumes nothing.
use Prim.Native.Nat.{ℕ, suc, ◌+◌, ◌<◌}
use native.Mathlib.Omega.{arith}
use mathlib.Core.Path.{◌≡◌, refl, ap, ap₂, sym, ◌∙◌, subst}
use mathlib.Core.Bool.{cond}
use mathlib.Core.List.{List, [], ◌∷◌, map, flatten}
use lib.Dec.{eqb}
use lib.ListN.{length, drop, get_or, length-append, get_or-append}
use borrow.Author.Tests.{ne_eqb}
use Rattle.base.specs.Kinds.{bundle_kind}
use Rattle.base.specs.Lists.{Listed, All, all_empty, all_cons}
use Rattle.base.proofs.Tests.{both_ways}
use Rattle.sheet.specs.Sheet.{Parameter, kind_at}
use Rattle.sheet.proofs.Listed.{listed_kind}
use Rattle.card.specs.Card.{Entry, entries_of}
use Rattle.kind.specs.Readable.{card_readable}
use Rattle.kind.specs.Table as table
use Rattle.kind.specs.Rules.{ReadableOnCard}
use Rattle.kind.proofs.Rules.{card_iff}
use Rattle.judge.specs.Rules.{EntryConforms, Conforms}
use Rattle.judge.specs.Sets.{values_at}
use Rattle.report.specs.Tallies.{tally, cards_with, values_under, tallies}
use Rattle.report.specs.Reporting.{is_some, texts_at, having, texts_under, rows_of, RowSays}
use Rattle.report.specs.declared.Tally.{Tally}
use Rattle.report.proofs.Passes.{tallies-length, tallies-at}

-- ---- a row in words

having-next : (i : ℕ) (b : List ℕ) (bs : List (List ℕ)) (ts : List (List ℕ)) → texts_at i b ≡ ts
    → cond (eqb (length ts) 0) (length (having i bs)) (suc (length (having i bs))) ≡ length (having i (b ∷ bs))
unfolding is_some
having-next i b bs [] e = rw e
having-next i b bs (t ∷ ts) e = rw (e, ne_eqb (suc (length ts)) 0 (λ z. omega arith))

cards_having : (i : ℕ) (bs : List (List ℕ)) → cards_with i (map entries_of bs) ≡ length (having i bs)
unfolding cards_with
cards_having i [] = refl
cards_having i (b ∷ bs) = rw (cards_having i bs) (having-next i b bs (texts_at i b) refl)

values_texts : (i : ℕ) (bs : List (List ℕ)) → values_under i (map entries_of bs) ≡ length (texts_under i bs)
unfolding values_under flatten
values_texts i [] = refl
values_texts i (b ∷ bs) = ap (λ (k : ℕ). length (texts_at i b) + k) (values_texts i bs) ∙ sym (length-append (texts_at i b) (texts_under i bs))

pub row-says : (ps : List Parameter) (bs : List (List ℕ)) (rows : List Tally) (i : ℕ) → i < length ps → RowSays i bs (rows_of ps bs rows)
row-says ps bs rows i h =
    let cs = map entries_of bs in
    let n = length ps in
    let z : 0 + i ≡ i = omega arith in
    let inside : i < length (tallies cs 0 n) = omega (arith, tallies-length cs 0 n) in
    record {
      there = omega (arith, length-append (tallies cs 0 n) (drop n rows));
      says =
          get_or-append (tallies cs 0 n) (drop n rows) (tally 0 0) i inside ∙ (rw z at (tallies-at cs 0 n i (tally 0 0) h))
          ∙ ap₂ tally (cards_having i bs) (values_texts i bs);
    }

-- ---- bundles

-- "a text under a bundle is 23": it is readable as no kind
bundle_unreadable : (t : List ℕ) → ReadableOnCard bundle_kind t → ⊥
unfolding card_readable table.of_kind table.kinds
bundle_unreadable t r = both_ways ((card_iff bundle_kind t).1 r) refl

module _ (ps : List Parameter) (i : ℕ) (p : Parameter) (l : Listed ps i p) (bundle : p.kind ≡ bundle_kind) where
  not_under : (e : Entry) → EntryConforms ps e → e.index ≡ i → ⊥
  not_under e c same =
      let kind : c.parameter.kind ≡ bundle_kind =
      sym (listed_kind ps e.index c.parameter c.listed) ∙ ap (λ (j : ℕ). kind_at j ps) same ∙ listed_kind ps i p l ∙ bundle
      in
      bundle_unreadable e.text (subst (λ (k : ℕ). ReadableOnCard k e.text) kind c.readable)

  no_values : {es : List Entry} → All (EntryConforms ps) es → values_at i es ≡ []
  unfolding values_at
  no_values all_empty = refl
  no_values (all_cons {x = e} {xs = es} c cs) = rw (ne_eqb e.index i (not_under e c), no_values cs)

  no_cards : {bs : List (List ℕ)} → All (λ (b : List ℕ). Conforms ps b (entries_of b)) bs → (having i bs ≡ []) × (texts_under i bs ≡ [])
  unfolding is_some flatten
  no_cards all_empty = (refl, refl)
  no_cards (all_cons {x = b} {xs = bs} c cs) =
      let none = no_values c.entries in
      let rest = no_cards cs in
      (rw (none, rest.0), rw (none, rest.1))

  -- "a bundle .. tallies 0 and 0"
  pub bundle-says : (bs : List (List ℕ)) (rows : List Tally) → All (λ (b : List ℕ). Conforms ps b (entries_of b)) bs → get_or (rows_of ps bs rows) i (tally 0 0) ≡ tally 0 0
  bundle-says bs rows cs =
      let none = no_cards cs in
      let inside : i < length ps = omega (arith, ap length l.split, length-append l.before (p ∷ l.after), l.index) in
      (row-says ps bs rows i inside).says ∙ rw (none.0, none.1)
