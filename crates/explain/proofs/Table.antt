-- The table of refusals for explain: after what match decides comes the list.
-- Assumes nothing.
use Prim.Native.Nat.{ℕ, ◌≤◌, ◌<◌}
use native.Mathlib.Omega.{arith}
use mathlib.Core.Path.{◌≡◌, refl, ap, subst, subst₂}
use mathlib.Core.Logic.{◌↔◌, ◌⊎◌, inl, inr, ⊎_elim}
use mathlib.Core.List.{List}
use lib.Dec.{leb}
use borrow.Author.Tests.{leb-true, leb-false}
use Rattle.base.specs.Lists.{member}
use Rattle.base.specs.Bytes.{Bytes}
use Rattle.base.proofs.Tests.{cond-elim}
use Rattle.sheet.specs.Sheet.{Parameter}
use Rattle.syntax.specs.Tree.{Tree}
use Rattle.syntax.specs.Grammar.{Spells}
use Rattle.syntax.proofs.Spelling.{spells_unique}
use Rattle.refusal.specs.Answers.{yes_or_no, refused}
use Rattle.refusal.specs.Steps.{◌>>=◌}
use Rattle.refusal.specs.Order.{group, Before, Decides}
use Rattle.refusal.proofs.Answers.{verdict_not_refused}
use Rattle.refusal.proofs.Deciding.{Decided, none_holds, one_decides, decided_as, decided_then, decided_found, decided_answer}
use Rattle.refusal.proofs.Order.{apart_at, before_itself}
use Rattle.answer.specs.Operations.{Inputs, accept_card}
use Rattle.answer.specs.Refusals.{CheckLine, OneCardLine, line_20_match, line_of_card}
use Rattle.answer.proofs.CheckTable.{Ready, check-group, inputs_decided}
use Rattle.answer.proofs.MatchTable.{card-group, one_decided}
use Rattle.deciding.specs.Deciding.{outer_count}
use Rattle.explain.specs.Operation.{Explanation, explanation_of, accept_marks, explaining, explain_answer}
use Rattle.explain.specs.Refusals.{MarksLine, line_33, ExplainLine}

module _ (sheet text card : List ℕ) (room : ℕ) where
  -- ---- the list

  -- the number of tests is the same by whichever words of the filter
  needed : {f : Tree} → Spells text f → {m q : ℕ} → MarksLine text room m q → (m ≡ 33) × ((q ≡ outer_count f) × (room < outer_count f))
  needed {f} spells (line_33 {f = g} other l) =
      let same : outer_count g ≡ outer_count f = ap outer_count (spells_unique text g f other spells) in
      (refl, (same, subst (λ (k : ℕ). room < k) same l))

  marks_decided : (f : Tree) → Spells text f → (x : Explanation) → Decided (λ y. Unit {0}) (MarksLine text room) (accept_marks room (outer_count f) x)
  unfolding accept_marks
  marks_decided f spells x =
      cond-elim (Decided (λ y. Unit {0}) (MarksLine text room)) (leb (outer_count f) room)
      (λ h. none_holds tt (λ n p l. omega (arith, (needed spells l).1.1, leb-true (outer_count f) room h)))
      (λ h. one_decides
      (record {
        holds = line_33 spells (leb-false (outer_count f) room h);
        first = λ m q l k. let e = needed spells l in before_itself (subst₂ (λ (x y : ℕ). Before x y 33 (outer_count f)) e.0 e.1.0 k);
      }))

  -- ---- the order of the lines

  one_group : (n p : ℕ) → OneCardLine sheet card n p → (group 14 < group n) × (group n ≤ group 21)
  unfolding group member
  one_group n p (line_20_match u) = (omega arith, omega arith)
  one_group n p (line_of_card l) = let g = card-group sheet l in (omega arith, omega arith)

  marks-group : (n p : ℕ) → MarksLine text room n p → group 21 < group n
  unfolding group member
  marks-group n p (line_33 s l) = omega arith

  abbrev CardAndList : ℕ → ℕ → Type 0
  CardAndList n p = OneCardLine sheet card n p ⊎ MarksLine text room n p

  after_check : (n p : ℕ) → CardAndList n p → group 14 < group n
  unfolding group member
  after_check n p (inl l) = (one_group n p l).0
  after_check n p (inr l) = let g = marks-group n p l in omega arith

  lines_as : (n p : ℕ) → (CheckLine sheet text n p ⊎ CardAndList n p) ↔ ExplainLine sheet text card room n p
  lines_as n p = (
    ⊎_elim (λ l. inl (inl l)) (⊎_elim (λ l. inl (inr l)) inr),
    ⊎_elim (⊎_elim inl (λ l. inr (inl l))) (λ l. inr (inr l)),
  )

  -- ---- the steps

  card_then : Bytes card → (p : Inputs) → Ready sheet text p
      → Decided (λ y. Unit {0}) CardAndList (accept_card p.parameters 0 card >>= λ c. accept_marks room (outer_count p.filter) (explanation_of p c))
  card_then bytes p ready =
      subst (λ (ps : List Parameter). Decided (λ y. Unit {0}) CardAndList (accept_card ps 0 card >>= λ c. accept_marks room (outer_count p.filter) (explanation_of p c))) ready.1
      (decided_then (OneCardLine sheet card) (MarksLine text room) (apart_at (OneCardLine sheet card) (MarksLine text room) (group 21) (λ n q l. (one_group n q l).1) marks-group)
      (one_decided sheet card ready.0 bytes) (λ c _ _. marks_decided p.filter ready.2 (explanation_of p c)))

  explaining_decided : Bytes sheet → Bytes card → Decided (λ y. Unit {0}) (ExplainLine sheet text card room) (explaining sheet text card room)
  unfolding explaining
  explaining_decided sheet-bytes bytes =
      decided_as lines_as
      (decided_then (CheckLine sheet text) CardAndList (apart_at (CheckLine sheet text) CardAndList (group 14) (check-group sheet text) after_check)
      (inputs_decided sheet text sheet-bytes) (λ p _ ready. card_then bytes p ready))

  -- explain is refused with a number and a place exactly where that line of the table decides
  pub explain_table : Bytes sheet → Bytes card → (n p : ℕ) → (explain_answer sheet text card room ≡ refused n p) ↔ Decides (ExplainLine sheet text card room) n p
  unfolding explain_answer
  explain_table sheet-bytes bytes =
      decided_answer (ExplainLine sheet text card room)
      (decided_found (λ (y : Explanation). yes_or_no y.verdict) (λ y _. verdict_not_refused y.verdict) (explaining_decided sheet-bytes bytes))
