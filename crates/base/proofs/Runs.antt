-- Laws of runs: the loop that counts one, and what a run holds.
-- Assumes nothing.
use mathlib.Core.Path.{◌≡◌, refl, sym, ap, ◌∙◌}
use Prim.Native.Nat.{ℕ, suc, ◌+◌, ◌≤◌, ◌<◌}
use native.Mathlib.Nat.{not-suc-le-zero}
use native.Mathlib.Numerals.{add-one}
use native.Mathlib.Omega.{arith}
use mathlib.Core.Bool.{Bool, true, false, cond}
use mathlib.Core.List.{List, [], ◌∷◌, ◌++◌}
use mathlib.Core.Logic.{⊎_elim}
use lib.Dec.{eqb}
use lib.ListN.{length, get_or, take, drop, length-drop, drop_of_length-le}
use lib.Seq.{drop-cons}
use borrow.Author.Tests.{ltb-false}
use Rattle.std.specs.Prelude.{Option, Some, None, MatchOption}
use Rattle.std.specs.List.{prefix_len, position}
use Rattle.base.specs.Lists.{All, all_empty, all_cons, every}
use Rattle.base.specs.Runs.{run, run_end, differs, RunEnd}
use Rattle.base.proofs.Tests.{and_left, and_right, and_both, decided}

-- ---- counting from i on, where the run is what has been passed and the run of what is left

module _ (p : ℕ → Bool) (s : List ℕ) (i : ℕ) (inv : run p s ≡ i + run p (drop i s)) where
  pub run_on : (r : Bool) → r ≡ p (get_or s i 0) → r ≡ true → i < length s → run p s ≡ i + 1 + run p (drop (i + 1) s)
  unfolding run
  run_on r e t h =
      let d : run p (drop i s) ≡ suc (run p (drop (i + 1) s)) = rw (add-one, drop-cons s i 0, sym e ∙ t) in
      omega arith

  pub run_stops : (r : Bool) → r ≡ p (get_or s i 0) → r ≡ false → i < length s → i ≡ run p s
  unfolding run
  run_stops r e t h =
      let d : run p (drop i s) ≡ 0 = rw (drop-cons s i 0, sym e ∙ t) in
      omega arith

  pub run_ends : length s ≤ i → i ≡ run p s
  unfolding run
  run_ends h =
      let d : run p (drop i s) ≡ 0 = rw (drop_of_length-le s h) in
      omega arith

-- ---- what a run holds

module _ (p : ℕ → Bool) where
  pub run-within : (s : List ℕ) → run p s ≤ length s
  unfolding run
  run-within [] = omega arith
  run-within (x ∷ xs) =
      ⊎_elim (λ (d : p x ≡ true). rw d (omega (arith, run-within xs)))
      (λ (d : p x ≡ false). rw d (omega arith)) (decided (p x))

  -- every element of the run has p
  pub run_take : (s : List ℕ) → every p (take (run p s) s) ≡ true
  unfolding run every
  run_take [] = refl
  run_take (x ∷ xs) =
      ⊎_elim (λ (d : p x ≡ true). rw d (rw d (run_take xs)))
      (λ (d : p x ≡ false). rw d) (decided (p x))

  -- a run as long as the list is the whole of it
  pub run-whole : (s : List ℕ) → length s ≤ run p s → every p s ≡ true
  unfolding run every
  run-whole [] h = refl
  run-whole (x ∷ xs) h =
      ⊎_elim (λ (d : p x ≡ true). and_both (p x) (every p xs) d (run-whole xs (omega (arith, rw d at h))))
      (λ (d : p x ≡ false). absurd (not-suc-le-zero (rw d at h))) (decided (p x))

  pub run-every : (s : List ℕ) → every p s ≡ true → run p s ≡ length s
  unfolding run every
  run-every [] h = refl
  run-every (x ∷ xs) h = rw (and_left (p x) (every p xs) h, run-every xs (and_right (p x) (every p xs) h))

  -- a run ends before the first element without p
  pub run-append : (w : List ℕ) (x : ℕ) (f : List ℕ) → every p w ≡ true → p x ≡ false → run p (w ++ x ∷ f) ≡ length w
  unfolding run every
  run-append [] x f h d = rw d
  run-append (y ∷ w) x f h d = rw (and_left (p y) (every p w) h, run-append w x f (and_right (p y) (every p w) h) d)

  pub run_then : (w t : List ℕ) → All (λ (x : ℕ). p x ≡ true) w → run p t ≡ 0 → run p (w ++ t) ≡ length w
  unfolding run
  run_then [] t all_empty z = z
  run_then (x ∷ w) t (all_cons h all) z = rw h (ap suc (run_then w t all z))

-- ---- what `position` answers, of what is left from an index on

run_prefix : (p : ℕ → Bool) (s : List ℕ) → prefix_len p s ≡ run p s
unfolding run
run_prefix p [] = refl
run_prefix p (x ∷ xs) = ap (λ (n : ℕ). cond (p x) n 0) (rw (run_prefix p xs) (omega arith))

some_there : (t : Bool) (k n : ℕ) → Some n ≡ cond t (Some k) None → n ≡ k
some_there true k n e = cc
some_there false k n e = cc

none_there : (t : Bool) (k : ℕ) → None ≡ cond t (Some k) None → t ≡ false
none_there true k e = cc
none_there false k e = refl

module _ (x : ℕ) (s : List ℕ) (at : ℕ) (h : at ≤ length s) where
  place_within : run (differs x) (drop at s) + at ≤ length s
  place_within = omega (arith, run-within (differs x) (drop at s), length-drop at s)

  place_found : (n : ℕ) → Some n ≡ position (λ (y : ℕ). eqb y x) (drop at s) → RunEnd (differs x) s at (at + n)
  unfolding run_end
  place_found n e =
      let k : n ≡ run (differs x) (drop at s) = some_there _ _ _ e ∙ run_prefix (differs x) (drop at s) in
      record { is = omega arith; from = omega arith; within = omega (arith, place_within) }

  place_missing : None ≡ position (λ (y : ℕ). eqb y x) (drop at s) → RunEnd (differs x) s at (length s)
  unfolding run_end
  place_missing e =
      let k : length (drop at s) ≤ run (differs x) (drop at s) = rw (← run_prefix (differs x) (drop at s)) (ltb-false _ _ (none_there _ _ e)) in
      record { is = omega (arith, k, place_within, length-drop at s); from = h; within = omega arith }

  pub place_ended : (r : ℕ) (Q : ℕ → Type 0) (o : Option ℕ) → o ≡ position (λ (y : ℕ). eqb y x) (drop at s) → MatchOption o (r ≡ length s) Q → ((n : ℕ) → Q n → r ≡ at + n) → RunEnd (differs x) s at r
  place_ended r Q None e d k = rw d (place_missing e)
  place_ended r Q (Some n) e d k = rw (k n d) (place_found n e)

-- ---- a scan from an index on, which has come to i: what is left decides where it ends

pub record Scanned (p : ℕ → Bool) (s : List ℕ) (at i : ℕ) : Type 0 where
  pub from : at ≤ i
  pub within : i ≤ length s
  pub left : run_end p s at ≡ run_end p s i

module _ (p : ℕ → Bool) (s : List ℕ) (at : ℕ) where
  pub scan_starts : at ≤ length s → Scanned p s at at
  scan_starts h = record { from = omega arith; within = h; left = refl }

  module _ (i : ℕ) (a : Scanned p s at i) where
    pub scan_on : (r : Bool) → r ≡ p (get_or s i 0) → r ≡ true → i < length s → Scanned p s at (i + 1)
    unfolding run run_end
    scan_on r e t h =
        let d : run p (drop i s) ≡ suc (run p (drop (i + 1) s)) = rw (add-one, drop-cons s i 0, sym e ∙ t) in
        record { from = omega arith; within = omega arith; left = omega arith }

    pub scan_stops : (r : Bool) → r ≡ p (get_or s i 0) → r ≡ false → i < length s → RunEnd p s at i
    unfolding run run_end
    scan_stops r e t h =
        let d : run p (drop i s) ≡ 0 = rw (drop-cons s i 0, sym e ∙ t) in
        record { is = omega arith; from = a.from; within = a.within }

    pub scan_ends : length s ≤ i → RunEnd p s at i
    unfolding run run_end
    scan_ends h =
        let d : run p (drop i s) ≡ 0 = rw (drop_of_length-le s h) in
        record { is = omega arith; from = a.from; within = a.within }
