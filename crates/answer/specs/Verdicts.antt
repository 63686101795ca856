-- The answer of match as a yes or no.
-- Assumes nothing.
use Rattle.std.specs.Prelude.{◌≡◌}
use Rattle.refusal.specs.Answers.{Answer, yes, no}

-- the answer is yes where Says holds, and no where it does not
pub data Verdict (Says : Type 0) (answer : Answer) : Type 0 where
  answers_yes : Says → answer ≡ yes → Verdict Says answer
  answers_no : (Says → ⊥) → answer ≡ no → Verdict Says answer
