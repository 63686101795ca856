-- Walks of the machine over a part of a text, and over a list of bytes.
-- Assumes nothing.
use Prim.Native.Nat.{ℕ, ◌+◌}
use native.Mathlib.Omega.{arith}
use native.Mathlib.Nat.{add-zero}
use mathlib.Core.Path.{◌≡◌, refl, sym, ap, subst, ◌∙◌}
use mathlib.Core.List.{List, [], ◌∷◌, ◌++◌}
use lib.ListN.{length, drop}
use lib.Seq.{drop-drop, drop-length}
use Rattle.syntax.specs.Grammar.{Stands, Spaces, no_space, space, Gap, gap}
use Rattle.place.specs.Machine.{State, live, step}

-- the byte stands at p
pub record At (xs : List ℕ) (p b : ℕ) : Type 0 where
  pub tail : List ℕ
  pub is : drop p xs ≡ b ∷ tail

-- the machine goes from one state at p to another at q
pub data Walk (d m : ℕ) (xs : List ℕ) : ℕ → State → ℕ → State → Type 0 where
  stay : {p : ℕ} {s : State} → Walk d m xs p s p s
  go : {p q b : ℕ} {s t u : State} → At xs p b → step d m s b ≡ live t → Walk d m xs (p + 1) t q u → Walk d m xs p s q u

-- over a list of bytes
pub data Runs (d m : ℕ) : State → List ℕ → State → Type 0 where
  rests : {s : State} → Runs d m s [] s
  goes : {b : ℕ} {ws : List ℕ} {s t u : State} → step d m s b ≡ live t → Runs d m t ws u → Runs d m s (b ∷ ws) u

-- ---- words that stand

pub drop-next : (xs : List ℕ) (p y : ℕ) (ys : List ℕ) → drop p xs ≡ y ∷ ys → drop (p + 1) xs ≡ ys
drop-next xs p y ys e = sym (drop-drop 1 p xs) ∙ ap (drop 1) e

pub stands_first : (xs : List ℕ) (p b : ℕ) (w : List ℕ) → Stands xs p (b ∷ w) → At xs p b
stands_first xs p b w s = record { tail = w ++ s.0; is = s.1 }

pub stands_rest : (xs : List ℕ) (p b : ℕ) (w : List ℕ) → Stands xs p (b ∷ w) → Stands xs (p + 1) w
stands_rest xs p b w s = (s.0, drop-next xs p b (w ++ s.0) s.1)

pub at_stands : {xs : List ℕ} {p b : ℕ} → At xs p b → (w : List ℕ) → Stands xs (p + 1) w → Stands xs p (b ∷ w)
at_stands {xs} {p} {b} a w s = (s.0, a.is ∙ ap (λ (l : List ℕ). b ∷ l) (sym (drop-next xs p b a.tail a.is) ∙ s.1))

pub at_only : {xs : List ℕ} {p b : ℕ} → At xs p b → Stands xs p (b ∷ [])
at_only a = (a.tail, a.is)

-- ---- walks join

module _ {d m : ℕ} {xs : List ℕ} where
  pub then_walk : {p q r : ℕ} {s t u : State} → Walk d m xs p s q t → Walk d m xs q t r u → Walk d m xs p s r u
  then_walk stay k = k
  then_walk (go h e w) k = go h e (then_walk w k)

  pub one_step : {p b : ℕ} {s t : State} → At xs p b → step d m s b ≡ live t → Walk d m xs p s (p + 1) t
  one_step h e = go h e stay

  pub over_spaces : {p q : ℕ} {s : State} → step d m s 0x20 ≡ live s → Spaces xs p q → Walk d m xs p s q s
  over_spaces e no_space = stay
  over_spaces e (space h r) = go (stands_first xs _ 0x20 [] h) e (over_spaces e r)

  pub over_gap : {p q : ℕ} {s t : State} → step d m s 0x20 ≡ live t → step d m t 0x20 ≡ live t → Gap xs p q → Walk d m xs p s q t
  over_gap e f (gap h r) = go (stands_first xs _ 0x20 [] h) e (over_spaces f r)

  -- a run over the bytes that stand at p
  pub runs_walk : {p : ℕ} {ws : List ℕ} {s t : State} → Runs d m s ws t → Stands xs p ws → Walk d m xs p s (p + length ws) t
  runs_walk {p = p} (rests {s = s}) h = subst (λ (q : ℕ). Walk d m xs p s q s) (sym (add-zero p)) stay
  runs_walk {p = p} (goes {b = b} {ws = ws} {t = t} {u = u} e r) h =
      let z : p + 1 + length ws ≡ p + length (b ∷ ws) = omega arith in
      go (stands_first xs p b ws h) e (subst (λ (q : ℕ). Walk d m xs (p + 1) t q u) z (runs_walk {p = p + 1} r (stands_rest xs p b ws h)))

  -- a walk up to the end
  pub walk_runs : {p q : ℕ} {s t : State} → Walk d m xs p s q t → q ≡ length xs → Runs d m s (drop p xs) t
  walk_runs (stay {p = p} {s = s}) e = rw (e, drop-length xs) rests
  walk_runs (go {p = p} {b = b} h f w) e =
      let n : drop (p + 1) xs ≡ h.tail = drop-next xs p b h.tail h.is in
      rw h.is (goes f (subst (λ (l : List ℕ). Runs d m _ l _) n (walk_runs w e)))

-- ---- runs

pub live_same : {s t : State} → live s ≡ live t → s ≡ t
live_same h = cc

module _ {d m : ℕ} where
  pub then_runs : {s t u : State} {v w : List ℕ} → Runs d m s v t → Runs d m t w u → Runs d m s (v ++ w) u
  then_runs rests k = k
  then_runs (goes e r) k = goes e (then_runs r k)

  -- a run over more bytes is a run over fewer
  pub runs_fewer : (v w : List ℕ) {s u : State} → Runs d m s (v ++ w) u → (t : State) × Runs d m s v t × Runs d m t w u
  runs_fewer [] w {s} r = (s, rests, r)
  runs_fewer (b ∷ v) w (goes e r) = let k = runs_fewer v w r in (k.0, goes e k.1, k.2)

  pub runs_same : {s t u : State} {v : List ℕ} → Runs d m s v t → Runs d m s v u → t ≡ u
  runs_same rests rests = refl
  runs_same {u = u} (goes {ws = ws} e r) (goes f k) = let z = live_same (sym e ∙ f) in runs_same r (subst (λ s. Runs d m s ws u) (sym z) k)
