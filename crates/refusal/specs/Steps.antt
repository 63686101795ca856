-- The operations' definitions go in steps, each of which finds something or ends in a refusal.
-- Assumes nothing.
use Rattle.std.specs.Prelude.{ℕ}
use Rattle.refusal.specs.declared.Refusal.{Refusal}
use Rattle.refusal.specs.Answers.{Answer, refused, number_of}

-- what was found, or a refusal: its number and its place
pub data Step (A : Type 0) : Type 0 where
  found : A → Step A
  stop : ℕ → ℕ → Step A

-- the step that ends in a refusal
abbrev pub refusal_step : {A : Type 0} → Refusal → Step A
refusal_step r = stop (number_of r.reason) r.place

infixl 20 ◌>>=◌
abbrev pub ◌>>=◌ : {A B : Type 0} → Step A → (A → Step B) → Step B
found a >>= next = next a
stop n p >>= next = stop n p

abbrev pub answer : Step Answer → Answer
answer (found a) = a
answer (stop n p) = refused n p
