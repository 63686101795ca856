-- Laws of steps: what was found before something was found.
-- Assumes nothing.
use Prim.Native.Nat.{ℕ}
use native.Mathlib.Omega.{arith}
use mathlib.Core.Path.{◌≡◌, refl}
use Rattle.refusal.specs.Steps.{Step, found, stop, ◌>>=◌}

-- a refusal is not something found
pub stop_not_found : {X A : Type 0} {n p : ℕ} {a : A} → ◌≡◌ {A = Step A} (stop n p) (found a) → X
stop_not_found e = absurd (let z : ◌≡◌ {A = ℕ} 0 1 = cc in omega arith)

-- what was found first, where something was found after it
pub bind_found : {A B : Type 0} (s : Step A) (next : A → Step B) (b : B) → (s >>= next) ≡ found b → (a : A) × (s ≡ found a) × (next a ≡ found b)
bind_found (found a) next b h = (a, refl, h)
bind_found (stop n p) next b h = stop_not_found h
