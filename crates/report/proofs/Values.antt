-- Laws of a card's values under a parameter: how many there are, entry by entry.
-- Assumes nothing.
use Rattle.std.specs.Prelude.{Ok}
use Prim.Native.Nat.{ℕ, suc, ◌+◌, ◌-◌, ◌≤◌, ◌<◌}
use native.Mathlib.Omega.{arith}
use mathlib.Core.Path.{◌≡◌, refl, ap, ◌∙◌}
use mathlib.Core.List.{List, [], ◌∷◌}
use lib.Dec.{eqb}
use lib.ListN.{length, get_or}
use borrow.Author.Tests.{eq-eqb, ne_eqb}
use Rattle.std.specs.List.{filter}
use Rattle.base.proofs.Tests.{cond-elim}
use Rattle.block.proofs.Items.{items-length, layout_count}
use Rattle.card.specs.Card.{Entry, entry, entry_count, entries_of, read_card}
use Rattle.card.proofs.Read.{card_layout}
use Rattle.judge.specs.Sets.{values_at}
use Rattle.report.specs.Steps.{raise}
use Rattle.report.specs.Tallies.{tally}
use Rattle.report.specs.declared.Tally.{Tally}

-- ---- how many

pub values_most : (i : ℕ) (es : List Entry) → length (values_at i es) ≤ length es
unfolding values_at
values_most i [] = omega arith
values_most i (e ∷ es) =
    let h = values_most i es in
    cond-elim (λ (vs : List (List ℕ)). length vs ≤ suc (length es)) (eqb e.index i) (λ _. omega arith) (λ _. omega arith)

-- a well-formed card has at most 64
pub entries_most : (b : List ℕ) → read_card b ≡ (Ok tt) → length (entries_of b) ≤ 64
unfolding entries_of entry_count
entries_most b h = omega (arith, items-length entry (get_or b 5 0) b 6, layout_count b (get_or b 0 0) 5 64 (card_layout b h))

pub card_values_most : (i : ℕ) (b : List ℕ) → read_card b ≡ (Ok tt) → length (values_at i (entries_of b)) ≤ 64
card_values_most i b h = omega (arith, values_most i (entries_of b), entries_most b h)

-- as many as pass the test of their index
pub values_filtered : (i : ℕ) (es : List Entry) → length (filter (λ (e : Entry). eqb e.index i) es) ≡ length (values_at i es)
unfolding values_at
values_filtered i [] = refl
values_filtered i (e ∷ es) =
    cond-elim (λ (vs : List (List ℕ)). length (filter (λ (e : Entry). eqb e.index i) (e ∷ es)) ≡ length vs) (eqb e.index i) (λ t. rw t (ap suc (values_filtered i es))) (λ f. rw f (values_filtered i es))

-- ---- the leaves of the code

pub raise_none : (n : ℕ) (r : Tally) → n ≡ 0 → r ≡ raise n r
unfolding raise
raise_none n r e = rw (eq-eqb n 0 e)

pub raise_some : (n : ℕ) (r s : Tally) → (n ≡ 0 → ⊥) → s ≡ tally (r.cards + 1) (r.values + n) → s ≡ raise n r
unfolding raise
raise_some n r s e h = rw (ne_eqb n 0 e) h
