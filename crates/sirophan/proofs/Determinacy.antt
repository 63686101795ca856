-- The demand leaves nothing free: any two checks and matches that meet it on the same tests agree.
-- Assumes nothing.
use Prim.Native.Nat.{ℕ}
use native.Mathlib.Omega.{arith}
use mathlib.Core.Path.{◌≡◌, ap, ap₂, sym, ◌∙◌, subst}
use mathlib.Core.List.{List}
use lib.ListN.{length}
use Rattle.base.proofs.All.{first_unique}
use Rattle.card.specs.Card.{Entry}
use Rattle.refusal.specs.Answers.{Answer, count, refused}
use Rattle.answer.specs.Numbers.{Numbered}
use Rattle.refusal.proofs.Order.{rank_unique}
use Rattle.answer.specs.Verdicts.{Verdict, answers_yes, answers_no}
use Rattle.answer.specs.Demand.{TestRules, Meaningful, RefusesAlike, Demand, Agree}
use Rattle.refusal.proofs.Answers.{is_count}

-- the table gives a test one number
numbered_unique : {Line : ℕ → Type 0} {n m : ℕ} → Numbered Line n → Numbered Line m → n ≡ m
numbered_unique {n = n} {m = m} a b = rank_unique n m (omega (arith, a.lowest m b.line, b.lowest n a.line))

-- there is one verdict on a card
verdicts_agree : {Says : Type 0} {a b : Answer} → Verdict Says a → Verdict Says b → a ≡ b
verdicts_agree (answers_yes s p) (answers_yes t q) = p ∙ sym q
verdicts_agree (answers_yes s p) (answers_no n q) = absurd (n s)
verdicts_agree (answers_no n p) (answers_yes s q) = absurd (n s)
verdicts_agree (answers_no n p) (answers_no m q) = p ∙ sym q

module _ {T : Type 0} (rules : TestRules T) (tests : List T) (Says : List Entry → Type 0) (check check' : Answer) (match match' : List ℕ → Answer) where
  refusals_agree : RefusesAlike rules tests check match → RefusesAlike rules tests check' match' → Agree rules tests check check' match match'
  refusals_agree r r' =
      let test : r.test ≡ r'.test =
      first_unique (Meaningful rules) r.before r'.before r.test r'.test r.after r'.after (sym r.split ∙ r'.split) r.first r'.first
      (λ m. m r.card r.entries r.conforms r.lacks) (λ m. m r'.card r'.entries r'.conforms r'.lacks)
      in
      let number : r.number ≡ r'.number = numbered_unique (subst (λ (t : T). Numbered (rules.Line t) r.number) test r.table) r'.table in
      let same : refused r.number (rules.place r.test) ≡ refused r'.number (rules.place r'.test) = ap₂ refused number (ap rules.place test) in
      let any : (b : List ℕ) → match b ≡ match' b = λ b. r.matched b ∙ same ∙ sym (r'.matched b) in
      record { checks = r.checked ∙ same ∙ sym r'.checked; conforming = λ card es c. any card; refusals = λ _. any }

  pub demand_determines : Demand rules tests Says check match → Demand rules tests Says check' match' → Agree rules tests check check' match match'
  demand_determines d d' = by_check (is_count check (length tests)) (is_count check' (length tests))
    where
      by_check : Dec (check ≡ count (length tests)) → Dec (check' ≡ count (length tests)) → Agree rules tests check check' match match'
      by_check (yes e) (yes e') =
          record { checks = e ∙ sym e'; conforming = λ card es c. verdicts_agree (d.verdict e card es c) (d'.verdict e' card es c); refusals = λ n. absurd (n e) }
      by_check (yes e) (no n) = absurd (n (d'.passes.1 (d.passes.0 e)))
      by_check (no n) (yes e) = absurd (n (d.passes.1 (d'.passes.0 e)))
      by_check (no n) (no n') = refusals_agree (d.refuses n) (d'.refuses n')
