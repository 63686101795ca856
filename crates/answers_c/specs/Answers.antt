-- An answer of the papers as C gets it: two numbers.
-- Assumes nothing.
use Rattle.std.specs.Prelude.{ℕ}
use Rattle.refusal.specs.Answers as paper
use Rattle.refusal.specs.Answers.{yes, no, count, counts, refused}
use Rattle.answers_c.specs.declared.Answer.{Answer}

abbrev pub answer : ℕ → ℕ → Answer
answer refusal value = record { refusal = refusal; value = value }

-- the number of the refusal, 0 where there is none; and the count, 1 for yes and 0 for no, or the refusal's place
unfoldable pub c_answer : paper.Answer → Answer
c_answer yes = answer 0 1
c_answer no = answer 0 0
c_answer (count n) = answer 0 n
-- a report's answer, which has a struct of its own
c_answer (counts y n) = answer 0 y
c_answer (refused n p) = answer n p
