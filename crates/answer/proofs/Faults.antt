-- The fault of a test is the number that the table gives it; a test has one exactly where it lacks a meaning on some conforming card.
-- No induction: the cases are what the path names (nothing, a bundle, or a parameter of some kind), and then operator and value
-- (`judged_at`). Each fault comes with its reason in the rules' words. Its number is that of the line of the lowest rank that holds, since
-- the lines before it do not (`lowest_from`). A conforming card shows the lack: the card with one entry under the parameter (`refused_at`),
-- or the card without entries where the path names nothing or a bundle. Where there is no fault, no line holds, and the test has a meaning
-- on every card (`outcome_by`).
-- Assumes nothing.
use Rattle.std.specs.Prelude.{Result, ⊤, Option, None, Some}
use Prim.Native.Nat.{ℕ, ◌≤◌, ◌<◌}
use native.Mathlib.Omega.{arith}
use mathlib.Core.Path.{◌≡◌, refl, subst, sym, ◌∙◌}
use mathlib.Core.Bool.{false}
use mathlib.Core.List.{List}
use Rattle.base.specs.Operators.{pr}
use Rattle.base.proofs.Tests.{both_ways, cond-elim}
use Rattle.base.specs.Kinds.{bundle_kind}
use Rattle.sheet.specs.Sheet.{Parameter}
use lib.Dec.{eqb}
use borrow.Author.Tests.{eqb-true, eqb-false}
use Rattle.sheet.specs.Encode.{WellFormedSheet}
use Rattle.sheet.proofs.Listed.{found_same}
use Rattle.sheet.specs.declared.Found.{Found}
use Rattle.card.specs.Card.{Entry}
use Rattle.syntax.specs.Tree.{Test}
use Rattle.kind.specs.Table.{has_meaning}
use Rattle.kind.specs.Readable.{value_readable}
use Rattle.judge.specs.Sets.{lookup}
use Rattle.judge.specs.Faults.{unsupported, kind_fault, fault_at, test_fault}
use Rattle.answer.specs.Operations.{decision_step}
use Rattle.kind.specs.Rules.{TrueOrFalse, ReadableValue, value_of_pr, value_of_kind, HasOperator}
use Rattle.judge.specs.Rules.{Names, NotOnSheet, LacksMeaning, not_on_sheet, bare_bundle, neither, lacks_operator, unreadable}
use Rattle.refusal.specs.Order.{rank}
use Rattle.answer.specs.Numbers.{TestLine, line_14, line_18, line_15, line_16, line_17}
use Rattle.answer.specs.Demand.{filter_tests}
use Rattle.kind.proofs.Rules.{value_iff, operator_iff}
use Rattle.judge.proofs.Rules.{unsupported_lacks, names_iff, missing_iff}
use Rattle.answer.proofs.Witnesses.{refused_at, refused_empty}
use Rattle.answer.proofs.Outcomes.{Judged, judged_unknown, judged_bundle, judged_unsupported, judged_meaningless, judged_unreadable, judged_right, TestOutcome, test_means, test_refused}
use Rattle.refusal.specs.declared.Refusal.{Refusal}

-- a readable value of pr is true or false
pr-readable : {kind k : ℕ} {v : List ℕ} → ReadableValue kind v k → k ≡ pr → (TrueOrFalse v → ⊥) → ⊥
pr-readable (value_of_pr h) e n = n h
pr-readable (value_of_kind m h) e n = m e

module _ (ps : List Parameter) (w : WellFormedSheet ps) (t : Test) where
  -- ---- the fault

  judged_at : (o : Option Found) → lookup ps 0 t.path ≡ o → Judged ps t (fault_at o t.operator t.value t.at)
  unfolding kind_fault
  judged_at None e = judged_unknown ((missing_iff ps w t.path).0 e)
  judged_at (Some named) e =
      let there = (names_iff ps w t.path named.index named.kind).0 e in
      cond-elim (Judged ps t) (eqb named.kind bundle_kind) (λ b. judged_bundle (subst (λ (m : ℕ). Names ps t.path named.index m) (eqb-true named.kind bundle_kind b) there))
      (λ b. let v = eqb-false named.kind bundle_kind b in
      cond-elim (Judged ps t) (unsupported t.operator) (judged_unsupported v there)
      (λ u. cond-elim (Judged ps t) (has_meaning t.operator named.kind)
      (λ m. cond-elim (Judged ps t) (value_readable t.operator named.kind t.value)
      (λ r. judged_right v there ((operator_iff named.kind t.operator).0 m) ((value_iff named.kind t.value t.operator).0 r))
      (λ n. judged_unreadable v there u ((operator_iff named.kind t.operator).0 m) (λ r. both_ways ((value_iff named.kind t.value t.operator).1 r) n)))
      (λ n. judged_meaningless v there u (λ h. both_ways ((operator_iff named.kind t.operator).1 h) n))))

  judged : Judged ps t (test_fault ps 0 t)
  unfolding test_fault
  judged = judged_at (lookup ps 0 t.path) refl

  -- one parameter is named
  same_kind : {i k i' k' : ℕ} → Names ps t.path i k → Names ps t.path i' k' → k ≡ k'
  same_kind {i = i} {k = k} {i' = i'} {k' = k'} j j' =
      let e = (names_iff ps w t.path i k).1 j in
      let e' = (names_iff ps w t.path i' k').1 j' in
      (found_same (sym e ∙ e')).1

  -- ---- the table's number

  -- a line ranks at r or after, where the lines before r do not hold
  lowest_from : (r : ℕ) → r ≤ rank 17 → (rank 14 < r → NotOnSheet ps t.path → ⊥) → (rank 18 < r → (i : ℕ) → Names ps t.path i bundle_kind → ⊥)
      → (rank 15 < r → unsupported t.operator ≡ false) → (rank 16 < r → (i k : ℕ) → Names ps t.path i k → HasOperator k t.operator) → (m : ℕ) → TestLine ps t m → r ≤ rank m
  lowest_from r h a d b c m (line_14 u) = let z : rank 14 < r → ⊥ = λ l. a l u in omega arith
  lowest_from r h a d b c m (line_18 {i = i} j) = let z : rank 18 < r → ⊥ = λ l. d l i j in omega arith
  lowest_from r h a d b c m (line_15 u) = let z : rank 15 < r → ⊥ = λ l. both_ways u (b l) in omega arith
  lowest_from r h a d b c m (line_16 {i = i} {k = k} j u o) = let z : rank 16 < r → ⊥ = λ l. o (c l i k j) in omega arith
  lowest_from r h a d b c m (line_17 j v) = h

  -- ---- what a test comes to: a meaning on every conforming card, or a refusal

  outcome_by : {d : Result ⊤ Refusal} → Judged ps t d → TestOutcome (filter_tests ps) t (decision_step d)
  unfolding rank
  outcome_by (judged_unknown u) =
      test_refused
      (refused_empty (filter_tests ps) t 14
      (record { line = line_14 u; lowest = lowest_from (rank 14) (omega arith) (λ l. absurd (omega arith)) (λ l. absurd (omega arith)) (λ l. absurd (omega arith)) (λ l. absurd (omega arith)) }) (not_on_sheet u))
  outcome_by (judged_bundle {i = i} j) =
      test_refused
      (refused_empty (filter_tests ps) t 18
      (record { line = line_18 j; lowest = lowest_from (rank 18) (omega arith) (λ l n. n i bundle_kind j) (λ l. absurd (omega arith)) (λ l. absurd (omega arith)) (λ l. absurd (omega arith)) }) (bare_bundle j))
  outcome_by (judged_unsupported {i = i} {k = k} z j u) =
      let lacking : HasOperator k t.operator → ⊥ = λ h. both_ways ((operator_iff k t.operator).1 h) (unsupported_lacks k t.operator u) in
      test_refused
      (refused_at (filter_tests ps) t 15
      (record { line = line_15 u; lowest = lowest_from (rank 15) (omega arith) (λ l n. n i k j) (λ l i' j'. z (same_kind j j')) (λ l. absurd (omega arith)) (λ l. absurd (omega arith)) }) w z j
      (λ es v. lacks_operator j v lacking))
  outcome_by (judged_meaningless {i = i} {k = k} z j u o) =
      test_refused
      (refused_at (filter_tests ps) t 16
      (record { line = line_16 j u o; lowest = lowest_from (rank 16) (omega arith) (λ l n. n i k j) (λ l i' j'. z (same_kind j j')) (λ l. u) (λ l. absurd (omega arith)) }) w z j
      (λ es v. lacks_operator j v o))
  outcome_by (judged_unreadable {i = i} {k = k} z j u o r) =
      test_refused
      (refused_at (filter_tests ps) t 17
      (record { line = line_17 j r; lowest = lowest_from (rank 17) (omega arith) (λ l n. n i k j) (λ l i' j'. z (same_kind j j')) (λ l. u) (λ l i' k' j'. subst (λ (m : ℕ). HasOperator m t.operator) (same_kind j j') o) }) w z j
      (λ es v. unreadable j v r))
  outcome_by (judged_right {i = i} {k = k} z j o r) = test_means (λ card es c. never es) no_line
    where
      has : {i' k' : ℕ} → Names ps t.path i' k' → HasOperator k' t.operator
      has j' = subst (λ (m : ℕ). HasOperator m t.operator) (same_kind j j') o

      reads : {i' k' : ℕ} → Names ps t.path i' k' → ReadableValue k' t.value t.operator
      reads j' = subst (λ (m : ℕ). ReadableValue m t.value t.operator) (same_kind j j') r

      never : (es : List Entry) → LacksMeaning ps es t → ⊥
      never es (not_on_sheet n) = n i k j
      never es (bare_bundle j') = z (same_kind j j')
      never es (neither e n) = pr-readable r e n
      never es (lacks_operator j' v n) = n (has j')
      never es (unreadable j' v n) = n (reads j')

      no_line : (n : ℕ) → TestLine ps t n → ⊥
      no_line n (line_14 m) = m i k j
      no_line n (line_18 j') = z (same_kind j j')
      no_line n (line_15 u) = both_ways ((operator_iff k t.operator).1 o) (unsupported_lacks k t.operator u)
      no_line n (line_16 j' u m) = m (has j')
      no_line n (line_17 j' m) = m (reads j')

  pub outcome : TestOutcome (filter_tests ps) t (decision_step (test_fault ps 0 t))
  outcome = outcome_by judged
