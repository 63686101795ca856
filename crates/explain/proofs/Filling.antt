-- The cells are written one after another, each with the number of its test's mark.
-- Assumes nothing.
use Prim.Native.Nat.{ℕ, zero, suc, ◌+◌, ◌≤◌, ◌<◌}
use native.Mathlib.Omega.{arith}
use native.Mathlib.Nat.{le_refl}
use mathlib.Core.Path.{◌≡◌, refl, sym, ap, ap₂, ◌∙◌}
use mathlib.Core.Bool.{Bool, true, false}
use mathlib.Core.List.{List, ◌∷◌, ◌++◌}
use lib.ListN.{length, get_or, take, drop}
use lib.Seq.{drop-cons, length-take-le}
use Rattle.std.proofs.lemmas.List.{take-append-drop}
use Rattle.deciding.specs.Deciding.{cell, cells}
use Rattle.deciding.specs.Marks.{mark, cell_of}
use Rattle.deciding.specs.declared.Mark.{Mark}

-- the first i cells have the numbers of the marks, and the others are as they were
pub record Filling (marks : List Mark) (before after : List ℕ) (i : ℕ) : Type 0 where
  pub written : (j : ℕ) → j < i → get_or after j 0 ≡ cell_of (get_or marks j Mark.Spared)
  pub rest : drop i after ≡ drop i before
  pub size : length after ≡ length before

pub cell-mark : (kept says : Bool) → cell_of (mark kept says) ≡ cell kept says
cell-mark false says = refl
cell-mark true true = refl
cell-mark true false = refl

-- the cells from i on, as a part of the list
pub cells_are : (v kept : ℕ → Bool) (list : List ℕ) (n i : ℕ) → i + n ≤ length list → ((j : ℕ) → i ≤ j → j < i + n → get_or list j 0 ≡ cell (kept j) (v j))
    → take n (drop i list) ≡ cells v kept i n
unfolding cells
cells_are v kept list zero i l h = refl
cells_are v kept list (suc n) i l h =
    ap (take (suc n)) (drop-cons list i 0 (omega arith))
    ∙ ap₂ (λ (c : ℕ) (cs : List ℕ). c ∷ cs) (h i (le_refl i) (omega arith)) (cells_are v kept list n (suc i) (omega arith) (λ j a b. h j (omega arith) (omega arith)))

-- the list that is filled is its first cells, and what was behind them
pub filled_list : (marks : List Mark) (before after : List ℕ) (i : ℕ) → Filling marks before after i → i ≤ length before → after ≡ take i after ++ drop (length (take i after)) before
filled_list marks before after i f l =
    sym (take-append-drop i after) ∙ ap (λ (x : List ℕ). take i after ++ x) f.rest ∙ ap (λ (n : ℕ). take i after ++ drop n before) (sym (length-take-le i after (omega (arith, f.size))))
