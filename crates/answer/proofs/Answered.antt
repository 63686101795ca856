-- Where no line of the table holds, select answers.
-- Assumes nothing.
use Prim.Native.Nat.{ℕ}
use mathlib.Core.Path.{◌≡◌, refl, ap, ◌∙◌}
use mathlib.Core.List.{List}
use lib.ListN.{length}
use Rattle.base.specs.Bytes.{Bytes}
use Rattle.refusal.specs.Answers.{count, refused}
use Rattle.refusal.specs.Steps.{Step, found, stop, ◌>>=◌, answer}
use Rattle.answer.specs.Operations.{Question, match_by, filter_question, match_answer, selection, select_by, cells_by, select_answer, select_cells}
use Rattle.answer.specs.Selection.{Run, matching_cards, SelectAnswers}
use Rattle.answer.specs.Refusals.{SelectLine}
use Rattle.answer.proofs.Outcomes.{OtherNumber}
use Rattle.answer.proofs.Selection.{selects_by_match, filter_number}
use Rattle.answer.proofs.SelectTable.{select_table}

module _ (asked : Step Question) (other : (n p : ℕ) → asked ≡ stop n p → OtherNumber n) (cards list : List ℕ) (bs : List (List ℕ)) (run : Run cards bs) where
  answer_of_lem : (s : Step (List ℕ)) → selection asked cards (length list) ≡ s → select_by asked cards (length list) ≡ answer (s >>= λ ns. found (count (length ns)))
  unfolding select_by
  answer_of_lem s e = rw e

  -- where nothing refuses
  pub select-answered_by : ((n p : ℕ) → select_by asked cards (length list) ≡ refused n p → ⊥)
      → SelectAnswers (match_by asked) (select_by asked cards (length list)) (cells_by asked cards list) list bs
  select-answered_by none = by_step (selection asked cards (length list)) refl
    where
      by_step : (s : Step (List ℕ)) → selection asked cards (length list) ≡ s
          → SelectAnswers (match_by asked) (select_by asked cards (length list)) (cells_by asked cards list) list bs
      by_step (stop n p) e = absurd (none n p (answer_of_lem (stop n p) e))
      by_step (found ns) e =
          let all = selects_by_match asked other cards list bs run in
          let a : select_by asked cards (length list) ≡ count (length ns) = answer_of_lem (found ns) e in
          let same : length ns ≡ length (matching_cards (match_by asked) bs) = all.counts (length ns) a in
          let b : select_by asked cards (length list) ≡ count (length (matching_cards (match_by asked) bs)) = a ∙ ap count same in
          record { counts = b; writes = all.writes (length (matching_cards (match_by asked) bs)) b }

-- ---- filters

pub select-answered : (sheet text cards list : List ℕ) → Bytes sheet → Bytes cards → (bs : List (List ℕ)) → Run cards bs
    → ((n p : ℕ) → SelectLine sheet text cards (length list) n p → ⊥)
    → SelectAnswers (match_answer sheet text) (select_answer sheet text cards (length list)) (select_cells sheet text cards list) list bs
select-answered sheet text cards list sheet-bytes bytes bs run none =
    select-answered_by (filter_question sheet text) (filter_number sheet text) cards list bs run
    (λ n p e. none n p ((select_table sheet text cards (length list) sheet-bytes bytes n p).0 e).holds)
