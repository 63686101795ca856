-- The fault of an alternative is the number that the table gives it; an alternative has one exactly where it lacks a meaning on some
-- conforming card.
-- As in Faults: the cases are what the name names, and then what the text asks of that kind (`judged_at`). A bundle is refused as an
-- unknown name. A token is judged by its form (`judged_token`), every other kind by the operator and the value that the text asks
-- (`judged_value`). The number is that of the line of the lowest rank that holds (`lowest_from`). The card with one entry under the
-- parameter shows the lack (`refused_at`), or the one without entries where the name is unknown or a bundle's (`refused_empty`).
-- `alternatives-outcome` is by induction on the list.
-- Assumes nothing.
use Rattle.std.specs.Prelude.{Ok, Result, ⊤, Option, None, Some}
use Prim.Native.Nat.{ℕ, ◌≤◌, ◌<◌}
use native.Mathlib.Omega.{arith}
use mathlib.Core.Path.{◌≡◌, refl, ap, sym, subst, ◌∙◌}
use mathlib.Core.Bool.{true, cond}
use mathlib.Core.Logic.{◌↔◌, ⊎_elim}
use mathlib.Core.List.{List, [], ◌∷◌}
use lib.Dec.{eqb}
use borrow.Author.Tests.{eqb-true, eqb-false}
use Rattle.base.specs.Kinds.{token, bundle_kind}
use Rattle.base.specs.Lists.{all_empty}
use Rattle.base.specs.Operators.{eq, pr}
use Rattle.base.proofs.Options.{is_some_iff}
use Rattle.base.proofs.Tests.{both_ways, cond-elim}
use Rattle.sheet.specs.Sheet.{Parameter}
use Rattle.sheet.specs.Encode.{ValueKind, WellFormedSheet}
use Rattle.sheet.proofs.Listed.{found_same}
use Rattle.sheet.specs.declared.Found.{Found}
use Rattle.card.specs.Card.{Entry}
use Rattle.syntax.specs.Tree.{name}
use Rattle.token.specs.Filter.{Form, form_at, readable_at}
use Rattle.token.specs.Spelling.{SplitSpells}
use Rattle.token.proofs.Readings.{form_at_iff}
use Rattle.kind.specs.Table.{has_meaning}
use Rattle.kind.specs.Readable.{value_readable}
use Rattle.kind.specs.Rules.{ReadableInFilter, ReadableValue, value_of_pr, value_of_kind, HasOperator, token_eq, operator_of_row}
use Rattle.kind.proofs.Rules.{value_iff, operator_iff}
use Rattle.judge.specs.Sets.{lookup}
use Rattle.judge.specs.Faults.{kind_fault}
use Rattle.judge.specs.Rules.{Names, NotOnSheet}
use Rattle.refusal.specs.declared.Reason.{Reason}
use Rattle.refusal.specs.Decisions.{refuse}
use Rattle.judge.proofs.Rules.{names_iff, names_kind, missing_iff}
use Rattle.query.specs.Spelling.{Alternative}
use Rattle.search.specs.Asking.{AskedBy, Comparison, asked_of}
use Rattle.search.specs.Meaning.{text_fault, fault_at, alternative_fault, first_alternative_fault}
use Rattle.search.specs.Rules.{ReadableAlternative, readable_form, readable_value, LacksMeaning, not_on_sheet, bundle_named, lacks_operator, unreadable, AlternativeLine, line_14, line_14_bundle, line_16, line_17}
use Rattle.search.proofs.Asking.{asked_is, token-asks, asked_there, never_pr, asked_supported}
use Rattle.refusal.specs.Order.{rank}
use Rattle.refusal.specs.Steps.{◌>>=◌}
use Rattle.answer.specs.Operations.{decision_step}
use Rattle.answer.specs.Searching.{alternatives_step}
use Rattle.answer.specs.SearchDemand.{search_tests}
use Rattle.answer.proofs.Witnesses.{refused_at, refused_empty}
use Rattle.answer.proofs.Outcomes.{TestOutcome, test_means, test_refused, TestsOutcome, all_mean}
use Rattle.answer.proofs.Inputs.{step_or_else, outcome-next}
use Rattle.refusal.specs.declared.Refusal.{Refusal}

token-has : HasOperator token eq
token-has = operator_of_row token_eq

-- each operator that is asked is one of the kind
abbrev Has : ℕ → Alternative → Type 0
Has k a = (o : ℕ) (v : List ℕ) → AskedBy k a.text o v → HasOperator k o

-- what is decided of an alternative
data Judged (ps : List Parameter) (a : Alternative) : Result ⊤ Refusal → Type 0 where
  judged_unknown : NotOnSheet ps (name a.name) → Judged ps a (refuse Reason.UnknownName a.at)
  judged_bundle : {i : ℕ} → Names ps (name a.name) i bundle_kind → Judged ps a (refuse Reason.UnknownName a.at)
  judged_meaningless : {i k o : ℕ} {v : List ℕ} → (k ≡ bundle_kind → ⊥) → Names ps (name a.name) i k → AskedBy k a.text o v → (HasOperator k o → ⊥)
      → Judged ps a (refuse Reason.NoMeaning a.at)
  judged_unreadable : {i k : ℕ} → (k ≡ bundle_kind → ⊥) → Names ps (name a.name) i k → Has k a → (ReadableAlternative k a → ⊥) → Judged ps a (refuse Reason.Unreadable a.at)
  judged_right : {i k : ℕ} → (k ≡ bundle_kind → ⊥) → Names ps (name a.name) i k → Has k a → ReadableAlternative k a → Judged ps a (Ok tt)

module _ (ps : List Parameter) (w : WellFormedSheet ps) (a : Alternative) where
  -- ---- the fault

  module _ (i k : ℕ) (z : k ≡ bundle_kind → ⊥) (j : Names ps (name a.name) i k) where
    module _ (is : k ≡ token) where
      form_has : Has k a
      form_has o v h =
          let e : o ≡ eq = (token-asks (subst (λ (m : ℕ). AskedBy m a.text o v) is h)).0 in
          subst (HasOperator k) (sym e) (subst (λ (m : ℕ). HasOperator m eq) (sym is) token-has)

      reads : (readable_at a.split a.text ≡ true) ↔ ((f : Form) × SplitSpells a.text a.split f)
      unfolding readable_at
      reads = is_some_iff (SplitSpells a.text a.split) (form_at a.split a.text) (form_at_iff a.text a.split)

      form_of : ReadableAlternative k a → (f : Form) × SplitSpells a.text a.split f
      form_of (readable_form {f = f} e h) = (f, h)
      form_of (readable_value n h r) = absurd (n is)

      judged_token : Judged ps a (cond (readable_at a.split a.text) (Ok tt) (refuse Reason.Unreadable a.at))
      judged_token =
          cond-elim (Judged ps a) (readable_at a.split a.text)
          (λ h. judged_right z j form_has (readable_form is (reads.0 h).1))
          (λ h. judged_unreadable z j form_has (λ r. both_ways (reads.1 (form_of r)) h))

    module _ (other : k ≡ token → ⊥) (asked : AskedBy k a.text (asked_of k a.text).operator (asked_of k a.text).value) where
      abbrev operator : ℕ
      operator = (asked_of k a.text).operator

      abbrev value : List ℕ
      value = (asked_of k a.text).value

      same-operator : (o : ℕ) (v : List ℕ) → AskedBy k a.text o v → operator ≡ o
      same-operator o v h = ap (λ (x : Comparison). x.operator) (asked_is h other)

      same-value : {o : ℕ} {v : List ℕ} → AskedBy k a.text o v → value ≡ v
      same-value h = ap (λ (x : Comparison). x.value) (asked_is h other)

      in_filter_lem : {o : ℕ} {v : List ℕ} → ReadableValue k v o → (o ≡ pr → ⊥) → ReadableInFilter k v
      in_filter_lem (value_of_pr h) n = absurd (n refl)
      in_filter_lem (value_of_kind m h) n = h

      value_of : ReadableAlternative k a → value_readable operator k value ≡ true
      value_of (readable_form e h) = absurd (other e)
      value_of (readable_value {v = v} n h r) = (value_iff k value operator).1 (value_of_kind (never_pr asked) (subst (ReadableInFilter k) (sym (same-value h)) r))

      judged_value : Judged ps a (kind_fault operator k value a.at)
      unfolding kind_fault
      judged_value =
          rw (asked_supported asked)
          (cond-elim (Judged ps a) (has_meaning operator k)
          (λ m.
          let has : Has k a = λ o v h. subst (HasOperator k) (same-operator o v h) ((operator_iff k operator).0 m) in
          cond-elim (Judged ps a) (value_readable operator k value)
          (λ r. judged_right z j has (readable_value other asked (in_filter_lem ((value_iff k value operator).0 r) (never_pr asked))))
          (λ n. judged_unreadable z j has (λ r. both_ways (value_of r) n)))
          (λ n. judged_meaningless z j asked (λ h. both_ways ((operator_iff k operator).1 h) n)))

    judged_kind : ValueKind k → Judged ps a (text_fault k a.split a.text a.at)
    unfolding text_fault
    judged_kind v =
        cond-elim (Judged ps a) (eqb k token) (λ e. judged_token (eqb-true k token e)) (λ e. judged_value (eqb-false k token e) (asked_there k a.text v))

  judged_at : (o : Option Found) → lookup ps 0 (name a.name) ≡ o → Judged ps a (fault_at o a.split a.text a.at)
  judged_at None e = judged_unknown ((missing_iff ps w (name a.name)).0 e)
  judged_at (Some named) e =
      let there = (names_iff ps w (name a.name) named.index named.kind).0 e in
      cond-elim (Judged ps a) (eqb named.kind bundle_kind) (λ b. judged_bundle (subst (λ (m : ℕ). Names ps (name a.name) named.index m) (eqb-true named.kind bundle_kind b) there))
      (λ b. let z = eqb-false named.kind bundle_kind b in ⊎_elim (λ v. judged_kind named.index named.kind z there v) (λ v. absurd (z v)) (names_kind ps w there))

  judged : Judged ps a (alternative_fault ps a)
  unfolding alternative_fault
  judged = judged_at (lookup ps 0 (name a.name)) refl

  -- one parameter is named
  same_kind : {i k i' k' : ℕ} → Names ps (name a.name) i k → Names ps (name a.name) i' k' → k ≡ k'
  same_kind {i = i} {k = k} {i' = i'} {k' = k'} j j' =
      let e = (names_iff ps w (name a.name) i k).1 j in
      let e' = (names_iff ps w (name a.name) i' k').1 j' in
      (found_same (sym e ∙ e')).1

  -- ---- the table's number

  -- a line ranks at r or after, where the lines before r do not hold
  lowest_from : (r : ℕ) → r ≤ rank 17 → (rank 14 < r → NotOnSheet ps (name a.name) → ⊥) → (rank 14 < r → (i : ℕ) → Names ps (name a.name) i bundle_kind → ⊥)
      → (rank 16 < r → (i k : ℕ) → Names ps (name a.name) i k → Has k a) → (m : ℕ) → AlternativeLine ps a m → r ≤ rank m
  lowest_from r h x y c m (line_14 u) = let z : rank 14 < r → ⊥ = λ l. x l u in omega arith
  lowest_from r h x y c m (line_14_bundle {i = i} j) = let z : rank 14 < r → ⊥ = λ l. y l i j in omega arith
  lowest_from r h x y c m (line_16 {i = i} {k = k} {o = o} {v = v} j q n) = let z : rank 16 < r → ⊥ = λ l. n (c l i k j o v q) in omega arith
  lowest_from r h x y c m (line_17 j n) = h

  -- ---- what an alternative comes to

  outcome_by : {d : Result ⊤ Refusal} → Judged ps a d → TestOutcome (search_tests ps) a (decision_step d)
  unfolding rank
  outcome_by (judged_unknown u) =
      test_refused (refused_empty (search_tests ps) a 14
      (record { line = line_14 u; lowest = lowest_from (rank 14) (omega arith) (λ l. absurd (omega arith)) (λ l. absurd (omega arith)) (λ l. absurd (omega arith)) }) (not_on_sheet u))
  outcome_by (judged_bundle j) =
      test_refused (refused_empty (search_tests ps) a 14
      (record { line = line_14_bundle j; lowest = lowest_from (rank 14) (omega arith) (λ l. absurd (omega arith)) (λ l. absurd (omega arith)) (λ l. absurd (omega arith)) }) (bundle_named j))
  outcome_by (judged_meaningless {i = i} {k = k} z j q n) =
      test_refused
      (refused_at (search_tests ps) a 16
      (record { line = line_16 j q n; lowest = lowest_from (rank 16) (omega arith) (λ l u. u i k j) (λ l i' j'. z (same_kind j j')) (λ l. absurd (omega arith)) }) w z j
      (λ es v. lacks_operator j v q n))
  outcome_by (judged_unreadable {i = i} {k = k} z j has n) =
      test_refused
      (refused_at (search_tests ps) a 17
      (record { line = line_17 j n; lowest = lowest_from (rank 17) (omega arith) (λ l u. u i k j) (λ l i' j'. z (same_kind j j')) (λ l i' k' j'. subst (λ (m : ℕ). Has m a) (same_kind j j') has) }) w z j
      (λ es v. unreadable j v n))
  outcome_by (judged_right {i = i} {k = k} z j has r) = test_means (λ card es c. never es) no_line
    where
      has_there : {i' k' : ℕ} → Names ps (name a.name) i' k' → Has k' a
      has_there j' = subst (λ (m : ℕ). Has m a) (same_kind j j') has

      reads_there : {i' k' : ℕ} → Names ps (name a.name) i' k' → ReadableAlternative k' a
      reads_there j' = subst (λ (m : ℕ). ReadableAlternative m a) (same_kind j j') r

      never : (es : List Entry) → LacksMeaning ps es a → ⊥
      never es (not_on_sheet n) = n i k j
      never es (bundle_named j') = z (same_kind j j')
      never es (lacks_operator {o = o} {v = v} j' e q n) = n (has_there j' o v q)
      never es (unreadable j' e n) = n (reads_there j')

      no_line : (n : ℕ) → AlternativeLine ps a n → ⊥
      no_line n (line_14 m) = m i k j
      no_line n (line_14_bundle j') = z (same_kind j j')
      no_line n (line_16 {o = o} {v = v} j' q m) = m (has_there j' o v q)
      no_line n (line_17 j' m) = m (reads_there j')

  pub alternative-outcome : TestOutcome (search_tests ps) a (decision_step (alternative_fault ps a))
  alternative-outcome = outcome_by judged

-- ---- the alternatives, in their order

module _ (ps : List Parameter) where
  pub alternatives_next : (a : Alternative) (list : List Alternative) → alternatives_step ps (a ∷ list) ≡ (decision_step (alternative_fault ps a) >>= λ u. alternatives_step ps list)
  unfolding alternatives_step first_alternative_fault
  alternatives_next a list = step_or_else (alternative_fault ps a) (first_alternative_fault ps list)

  pub alternatives-outcome : WellFormedSheet ps → (list : List Alternative) → TestsOutcome (search_tests ps) list (alternatives_step ps list)
  alternatives-outcome w [] = unfold alternatives_step first_alternative_fault in all_mean all_empty
  alternatives-outcome w (a ∷ list) = rw (alternatives_next a list) (outcome-next (search_tests ps) (alternative-outcome ps w a) (alternatives-outcome w list))
