-- Judge, as the code comes to its answer.
-- Assumes nothing.
use Rattle.std.specs.Prelude.{Result, Err, Ok}
use Prim.Native.Nat.{ℕ, ◌≤◌}
use mathlib.Core.Path.{◌≡◌, sym, ap, ap₂, ◌∙◌}
use mathlib.Core.Bool.{Bool, true, false}
use mathlib.Core.List.{List}
use lib.ListN.{length}
use Rattle.sheet.specs.Sheet.{Parameter, parameters_of, read_sheet}
use Rattle.sheet.specs.Find.{kinds_of, parents_of}
use Rattle.sheet.proofs.RoundTrip.{sheet_well_formed}
use Rattle.judge.specs.Verdicts.{filter_says}
use Rattle.rows.specs.Shapes.{good}
use Rattle.row_judge.specs.Saying.{rows_say, Whole}
use Rattle.rows.specs.Stated.{tree_of}
use Rattle.rows.proofs.Good.{good_few}
use Rattle.row_judge.proofs.Meaning.{good-whole, rows_mean}
use Rattle.refusal.specs.declared.Reason.{Reason}
use Rattle.refusal.specs.Answers.{Answer, yes_or_no, refused, number_of, matched_answer, refusal_answer}
use Rattle.refusal.specs.Steps.{found, refusal_step, ◌>>=◌, answer}
use Rattle.answer.specs.Operations.{accept_sheet, Card, accept_card}
use Rattle.answer.specs.Passing.{card_verdict}
use Rattle.one_card.specs.OneCard.{verdict_step, verdict_answer, cells_question}
use Rattle.answer.specs.Preparing.{accept_size, accept_rows, rows_answer, judge_answer}
use Rattle.answer.proofs.Passing.{yes_or_no_after, same-verdicts}
use Rattle.refusal.specs.declared.Refusal.{Refusal}

-- ---- the text's size

pub judge_size : (ps : List Parameter) (xs cs card : List ℕ) (x : Refusal) → accept_size xs ≡ refusal_step x → matched_answer (Err x) ≡ rows_answer ps xs cs card
unfolding rows_answer matched_answer refusal_answer
judge_size ps xs cs card x e = rw e

-- ---- the rows

module _ (b ys xs cs card : List ℕ) (ok : read_sheet b ≡ (Ok tt)) (i : (xs ≡ ys) × (accept_size ys ≡ found tt)) (kinds parents : List ℕ) (ek : kinds ≡ kinds_of (parameters_of b)) (ep : parents ≡ parents_of (parameters_of b))
    (sound : Bool) (g : sound ≡ good kinds parents xs cs) where
  abbrev ps : List Parameter
  ps = parameters_of b

  tested : sound ≡ good (kinds_of ps) (parents_of ps) xs cs
  tested = g ∙ ap₂ (λ (k p : List ℕ). good k p xs cs) ek ep

  sized : accept_size xs ≡ found tt
  sized = rw i.0 i.1

  given : {a : Answer} → a ≡ rows_answer ps xs cs card → a ≡ rows_answer ps ys cs card
  given e = e ∙ ap (λ (y : List ℕ). rows_answer ps y cs card) i.0

  pub judge_bad : (r : Result Bool Refusal) → sound ≡ false → matched_answer r ≡ refused (number_of Reason.BadRows) 0 → matched_answer r ≡ rows_answer ps ys cs card
  unfolding rows_answer accept_rows
  judge_bad r h e = given (e ∙ rw (sized, sym tested ∙ h))

  module _ (h : sound ≡ true) where
    pub judge_whole : Whole cs
    judge_whole = good-whole kinds parents xs cs (sym g ∙ h)

    pub judge_few : length cs ≤ 320
    judge_few = good_few kinds parents xs cs (sym g ∙ h)

    -- the tree that the rows state is judged on the card
    stated-answer : rows_answer ps xs cs card ≡ answer (accept_card ps 0 card >>= λ c. found (yes_or_no (filter_says ps 0 c.entries (tree_of ps xs judge_whole.expression))))
    unfolding rows_answer accept_rows
    stated-answer = rw (sized, sym tested ∙ h, judge_whole.states)

    -- as the code has judged it
    pub judge_verdict : (v : Result Bool Reason) → ((qs : List Parameter) → kinds ≡ kinds_of qs → (i : ℕ) → verdict_step v i ≡ card_verdict (cells_question qs xs cs) i card)
        → (m : Result Bool Refusal) → matched_answer m ≡ verdict_answer v → matched_answer m ≡ rows_answer ps ys cs card
    judge_verdict v e m a =
        let verdict : verdict_answer v ≡ answer (accept_card ps 0 card >>= λ c. found (yes_or_no (rows_say (kinds_of ps) xs c.entries cs))) =
        (unfold verdict_answer card_verdict in (rw (e ps ek 0) (ap answer (sym (yes_or_no_after (accept_card ps 0 card) (λ c. rows_say (kinds_of ps) xs c.entries cs))))))
        in
        let meant : (c : Card) → rows_say (kinds_of ps) xs c.entries cs ≡ filter_says ps 0 c.entries (tree_of ps xs judge_whole.expression) =
        λ c. rows_mean ps (sheet_well_formed b ok) xs cs judge_whole.expression (sym tested ∙ h) judge_whole.states c.entries
        in
        given (a ∙ verdict ∙ same-verdicts (accept_card ps 0 card) (λ c. rows_say (kinds_of ps) xs c.entries cs) (λ c. filter_says ps 0 c.entries (tree_of ps xs judge_whole.expression)) meant ∙ sym stated-answer)

-- ---- the sheet

module _ (b xs cs card : List ℕ) (r : Result Bool Refusal) where
  pub judge_refused : (x : Refusal) → accept_sheet b ≡ refusal_step x → matched_answer (Err x) ≡ judge_answer b xs cs card
  unfolding matched_answer refusal_answer judge_answer
  judge_refused x h = rw h

  pub judge_right : (k : List ℕ) → (k ≡ b) × (read_sheet b ≡ (Ok tt)) → matched_answer r ≡ rows_answer (parameters_of k) xs cs card → matched_answer r ≡ judge_answer b xs cs card
  unfolding judge_answer accept_sheet rows_answer
  judge_right k i h = h ∙ sym (rw (i.0, i.1))
