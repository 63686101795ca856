-- A text is a filter exactly where the machine goes over all of it and may end there.
-- Assumes nothing.
use Rattle.std.specs.Prelude.{Err, Ok, Result, ⊤}
use Prim.Native.Nat.{ℕ, ◌+◌, ◌≤◌}
use native.Mathlib.Nat.{zero-add}
use native.Mathlib.Omega.{arith}
use mathlib.Core.Path.{◌≡◌, refl, sym, ap, subst, ◌∙◌}
use mathlib.Core.Bool.{Bool, true, false, cond}
use mathlib.Core.Logic.{◌↔◌}
use mathlib.Core.List.{List, [], ◌∷◌, append-nil}
use lib.ListN.{length}
use Rattle.base.proofs.Tests.{both_ways}
use Rattle.syntax.specs.Tree.{Tree}
use Rattle.syntax.specs.Grammar.{Within, Spells, deepest, most_tests}
use Rattle.place.specs.Machine.{Phase, at_item, in_name, after_not, after-name, in_operator, after_operator, at_value, in_bare, in-string, after_item, after-space, in_connective, after_square, at_member, in_member, State, state, Progress, live, deep, many, wrong, step, start, item_over, over, on_live, ends_from, is_filter, failure, found}
use Rattle.refusal.specs.declared.Refusal.{Refusal}
use Rattle.place.proofs.Steps.{ended_bare, ended_item}
use Rattle.place.proofs.Walks.{Walk, Runs, rests, goes, runs_walk, walk_runs}
use Rattle.place.proofs.Walking.{within_walks}
use Rattle.place.proofs.Good.{Good, Over, over_ended, over_space, runs_good}
use Rattle.place.proofs.Longest.{over-within}

-- the state that the machine comes to, where it goes over all the bytes
record Comes (d m : ℕ) (s : State) (ys : List ℕ) : Type 0 where
  to : State
  runs : Runs d m s ys to
  is_over : over to ≡ true

ends_comes : (d m : ℕ) (s : State) (ys : List ℕ) → ends_from d m s ys ≡ true → Comes d m s ys
unfolding ends_from
ends_comes d m s [] e = record { to = s; runs = rests; is_over = e }
ends_comes d m s (y ∷ ys) e = go (step d m s y) refl e (λ t. ends_comes d m t ys)
  where
    go : (x : Progress) → step d m s y ≡ x → on_live x (λ t. ends_from d m t ys) ≡ true → ((t : State) → ends_from d m t ys ≡ true → Comes d m t ys) → Comes d m s (y ∷ ys)
    go (live t) k h on = let c = on t h in record { to = c.to; runs = goes k c.runs; is_over = c.is_over }
    go deep k h on = both_ways h refl
    go many k h on = both_ways h refl
    go wrong k h on = both_ways h refl

runs_ends : {d m : ℕ} {s t : State} {ys : List ℕ} → Runs d m s ys t → ends_from d m s ys ≡ over t
unfolding ends_from
runs_ends rests = refl
runs_ends {d} {m} {ys = y ∷ ys} (goes e r) = rw e (runs_ends r)

-- ---- the phases at which an item has ended

over_phase : (f : Phase) → item_over f ≡ true → Over f
over_phase at_item e = both_ways e refl
over_phase (in_name w) e = both_ways e refl
over_phase after_not e = both_ways e refl
over_phase after-name e = both_ways e refl
over_phase (in_operator x) e = both_ways e refl
over_phase after_operator e = both_ways e refl
over_phase at_value e = both_ways e refl
over_phase in_bare e = over_ended ended_bare
over_phase (in-string pending) e = both_ways e refl
over_phase after_item e = over_ended ended_item
over_phase after-space e = over_space
over_phase (in_connective w) e = both_ways e refl
over_phase after_square e = both_ways e refl
over_phase at_member e = both_ways e refl
over_phase (in_member w) e = both_ways e refl

comes_filter : {d m : ℕ} {xs : List ℕ} → 1 ≤ m → Comes d m start xs → (g : Tree) × Within d m xs g
comes_filter {d} {m} {xs} h c = go c.to c.runs c.is_over (runs_good c.runs (omega arith, h, tt))
  where
    go : (t : State) → Runs d m start xs t → over t ≡ true → Good d m t → (g : Tree) × Within d m xs g
    go (state f [] n) r o g =
        let z : 0 + length xs ≡ length xs = zero-add (length xs) in
        let w : Walk d m xs 0 start (length xs) (state f [] n) = subst (λ (q : ℕ). Walk d m xs 0 start q (state f [] n)) z (runs_walk r ([], sym (append-nil xs))) in
        over-within w (over_phase f o) g.1
    go (state f (s ∷ k) n) r o g = both_ways o refl

-- ---- a text is a filter exactly where the machine says so

pub filter_iff : (xs : List ℕ) → (is_filter deepest most_tests xs ≡ true) ↔ ((f : Tree) × Spells xs f)
unfolding is_filter
filter_iff xs = (
  λ e. comes_filter (omega arith) (ends_comes deepest most_tests start xs e),
  λ s. let w = within_walks s.1 in runs_ends (walk_runs w.2 refl) ∙ w.1,
)

module _ (xs : List ℕ) (r : Result ⊤ Refusal) (e : r ≡ found deepest most_tests xs) where
  found_by : (t : Bool) → is_filter deepest most_tests xs ≡ t → r ≡ cond t (Ok tt) (Err (failure deepest most_tests xs))
  unfolding found
  found_by t h = e ∙ ap (λ (b : Bool). cond b (Ok tt) (Err (failure deepest most_tests xs))) h

  pub found_filter : r ≡ (Ok tt) → (f : Tree) × Spells xs f
  found_filter h = go (is_filter deepest most_tests xs) refl
    where
      go : (t : Bool) → is_filter deepest most_tests xs ≡ t → (f : Tree) × Spells xs f
      go true k = (filter_iff xs).0 k
      go false k = absurd (let z = found_by false k in let y : ◌≡◌ {A = ℕ} 0 1 = cc in omega arith)

  pub found_failed : (p : Refusal) → r ≡ Err p → ((f : Tree) → Spells xs f → ⊥) × (p ≡ failure deepest most_tests xs)
  found_failed p h = go (is_filter deepest most_tests xs) refl
    where
      go : (t : Bool) → is_filter deepest most_tests xs ≡ t → ((f : Tree) → Spells xs f → ⊥) × (p ≡ failure deepest most_tests xs)
      go true k = absurd (let z = found_by true k in let y : ◌≡◌ {A = ℕ} 0 1 = cc in omega arith)
      go false k = (λ f s. both_ways ((filter_iff xs).1 (f, s)) k, let z = found_by false k in cc)
