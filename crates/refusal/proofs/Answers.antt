-- Laws of answers: counts and verdicts are no refusals, whether an answer is a given count is decided, and a refusal is answered by its
-- reason's number and its place.
-- Assumes nothing.
use Prim.Native.Nat.{ℕ}
use native.Mathlib.Decide.{ℕ_discrete}
use native.Mathlib.Omega.{arith}
use mathlib.Core.Path.{◌≡◌, ap}
use mathlib.Core.Bool.{Bool, true, false}
use Rattle.std.specs.Prelude.{Result, Err}
use Rattle.refusal.specs.declared.Reason.{Reason}
use Rattle.refusal.specs.declared.Refusal.{Refusal}
use Rattle.refusal.specs.Answers.{Answer, yes_or_no, count, counts, refused, number_of, refusal_answer, counted_answer, matched_answer}
use Rattle.refusal.proofs.Deciding.{NotRefused}

pub count_not_refused : (m : ℕ) → NotRefused (count m)
count_not_refused m n p e = let z : ◌≡◌ {A = ℕ} 0 1 = cc in omega arith

pub counts_not_refused : (y z : ℕ) → NotRefused (counts y z)
counts_not_refused y z n p e = let z : ◌≡◌ {A = ℕ} 0 1 = cc in omega arith

pub verdict_not_refused : (v : Bool) → NotRefused (yes_or_no v)
verdict_not_refused true n p e = let z : ◌≡◌ {A = ℕ} 0 1 = cc in omega arith
verdict_not_refused false n p e = let z : ◌≡◌ {A = ℕ} 0 1 = cc in omega arith

pub is_count : (a : Answer) (n : ℕ) → Dec (a ≡ count n)
is_count Answer.yes n = no (λ h. let z : ◌≡◌ {A = ℕ} 0 1 = cc in omega arith)
is_count Answer.no n = no (λ h. let z : ◌≡◌ {A = ℕ} 0 1 = cc in omega arith)
is_count (counts x y) n = no (λ h. let z : ◌≡◌ {A = ℕ} 0 1 = cc in omega arith)
is_count (refused m p) n = no (λ h. let z : ◌≡◌ {A = ℕ} 0 1 = cc in omega arith)
is_count (count m) n = same (ℕ_discrete m n)
  where
    same : Dec (m ≡ n) → Dec (count m ≡ count n)
    same (yes e) = yes (ap count e)
    same (no e) = no (λ h. let z : m ≡ n = cc in e z)

-- what `refuse` answers
module _ (reason : Reason) (place : ℕ) where
  pub refusal_counted : (r : Result ℕ Refusal) → r ≡ Err (record { reason = reason; place = place }) → counted_answer r ≡ refused (number_of reason) place
  unfolding counted_answer refusal_answer
  refusal_counted r e = rw e

  pub refusal_matched : (r : Result Bool Refusal) → r ≡ Err (record { reason = reason; place = place }) → matched_answer r ≡ refused (number_of reason) place
  unfolding matched_answer refusal_answer
  refusal_matched r e = rw e
