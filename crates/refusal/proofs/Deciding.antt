-- Steps that follow each other are decided one after the other, and an operation is refused exactly where a line decides.
-- Assumes nothing.
use Prim.Native.Nat.{ℕ}
use mathlib.Core.Path.{◌≡◌, refl, ap₂}
use mathlib.Core.Logic.{◌↔◌, ◌⊎◌, inl, inr, ⊎_elim}
use Rattle.refusal.specs.Answers.{Answer, refused}
use Rattle.refusal.specs.Steps.{Step, found, stop, ◌>>=◌, answer}
use Rattle.refusal.specs.Order.{Before, Decides}
use Rattle.refusal.proofs.Order.{decides_unique}

-- it found something of which Known holds, where no line of the table does; or it was refused by the line that decides
pub data Decided {A : Type 0} (Known : A → Type 0) (Line : ℕ → ℕ → Type 0) : Step A → Type 0 where
  none_holds : {x : A} → Known x → ((n p : ℕ) → Line n p → ⊥) → Decided Known Line (found x)
  one_decides : {n p : ℕ} → Decides Line n p → Decided Known Line (stop n p)

-- the answer is no refusal
abbrev pub NotRefused : Answer → Type 0
NotRefused a = (n p : ℕ) → a ≡ refused n p → ⊥

-- ---- steps

-- the same by other words for the lines
pub decided_as : {A : Type 0} {Known : A → Type 0} {Line Line' : ℕ → ℕ → Type 0} → ((n p : ℕ) → Line n p ↔ Line' n p) → {s : Step A} → Decided Known Line s → Decided Known Line' s
decided_as f (none_holds k h) = none_holds k (λ n p l. h n p ((f n p).1 l))
decided_as f (one_decides {n = n} {p = p} d) = one_decides (record { holds = (f n p).0 d.holds; first = λ m q l. d.first m q ((f m q).1 l) })

module _ {B : Type 0} {Known' : B → Type 0} (Line Line' : ℕ → ℕ → Type 0) where
  -- where no line of a first step holds, those of the second decide
  decided_second : ((n p : ℕ) → Line n p → ⊥) → {s : Step B} → Decided Known' Line' s → Decided Known' (λ n p. Line n p ⊎ Line' n p) s
  decided_second none (none_holds known none') = none_holds known (λ n p. ⊎_elim (none n p) (none' n p))
  decided_second none (one_decides d) =
      one_decides (record { holds = inr d.holds; first = λ m q. ⊎_elim (λ l. absurd (none m q l)) (λ l. d.first m q l) })

  -- two steps, where no line of the second comes before one of the first
  pub decided_then : {A : Type 0} {Known : A → Type 0} → ((m q n p : ℕ) → Line' m q → Line n p → Before m q n p → ⊥) → {s : Step A} {next : A → Step B}
      → Decided Known Line s → ((x : A) → s ≡ found x → Known x → Decided Known' Line' (next x)) → Decided Known' (λ n p. Line n p ⊎ Line' n p) (s >>= next)
  decided_then apart (one_decides {n = n} {p = p} d) k =
      one_decides (record { holds = inl d.holds; first = λ m q. ⊎_elim (λ l. d.first m q l) (λ l. apart m q n p l d.holds) })
  decided_then apart (none_holds {x = x} known none) k = decided_second none (k x refl known)

-- a step that goes on to what it found
pub decided_found : {A B : Type 0} {Known : A → Type 0} {Known' : B → Type 0} {Line : ℕ → ℕ → Type 0} (g : A → B) → ((x : A) → Known x → Known' (g x))
    → {s : Step A} → Decided Known Line s → Decided Known' Line (s >>= λ x. found (g x))
decided_found g f (none_holds {x = x} known none) = none_holds (f x known) none
decided_found g f (one_decides d) = one_decides d

-- ---- answers

-- an operation is refused with a number and a place exactly where that line decides
pub decided_answer : (Line : ℕ → ℕ → Type 0) {s : Step Answer} → Decided NotRefused Line s → (n p : ℕ) → (answer s ≡ refused n p) ↔ Decides Line n p
decided_answer Line (none_holds {x = a} known none) n p = ((λ e. absurd (known n p e)), (λ d. absurd (none n p d.holds)))
decided_answer Line (one_decides {n = m} {p = q} d) n p = (there, back)
  where
    there : refused m q ≡ refused n p → Decides Line n p
    there e =
        let number : m ≡ n = cc in
        let place : q ≡ p = cc in
        rw (← number, ← place) d

    back : Decides Line n p → refused m q ≡ refused n p
    back e = let same = decides_unique Line m q n p d e in ap₂ refused same.0 same.1
