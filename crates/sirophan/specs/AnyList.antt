-- Match as prepare and judge after each other, for a caller who lends just enough.
-- Assumes nothing.
use Rattle.std.specs.Prelude.{ℕ, ◌≡◌, List, length, take}
use Rattle.refusal.specs.Answers.{count, refused}
use Rattle.answer.specs.Operations.{match_answer}
use Rattle.answer.specs.Preparing.{prepare_answer, prepare_cells, judge_answer}

-- "for prepare's rows on the same sheet and text that is demand 2's": on whichever list prepare answers, match is judge on the rows that it
-- has written; and what it refuses for another reason than the list's length match refuses alike
pub record MatchIsAnywhere (sheet text card list : List ℕ) : Type 0 where
  pub refused_alike : (n p : ℕ) → (n ≡ 34 → ⊥) → prepare_answer sheet text (length list) ≡ refused n p → match_answer sheet text card ≡ refused n p
  pub judged : (n : ℕ) → prepare_answer sheet text (length list) ≡ count n → match_answer sheet text card ≡ judge_answer sheet text (take n (prepare_cells sheet text list)) card
