-- The operators' numbers by their words.
-- Assumes nothing.
use Prim.Native.Nat.{ℕ}
use mathlib.Core.Path.{◌≡◌, refl}
use mathlib.Core.List.{[], ◌∷◌, map}
use lib.ListN.{get_or}
use Rattle.base.specs.Ascii.{ascii}
use Rattle.base.specs.Operators.{operator_words, eq, ne, co, sw, ew, gt, lt, ge, le, ap, sa, eb, pr, po, ss, sb, «in», ni, re}

pub operator_words_lem : map (λ (k : ℕ). get_or operator_words k []) (eq ∷ ne ∷ co ∷ sw ∷ ew ∷ gt ∷ lt ∷ ge ∷ le ∷ ap ∷ sa ∷ eb ∷ pr ∷ po ∷ ss ∷ sb ∷ «in» ∷ ni ∷ re ∷ [])
    ≡ map ascii ("eq" ∷ "ne" ∷ "co" ∷ "sw" ∷ "ew" ∷ "gt" ∷ "lt" ∷ "ge" ∷ "le" ∷ "ap" ∷ "sa" ∷ "eb" ∷ "pr" ∷ "po" ∷ "ss" ∷ "sb" ∷ "in" ∷ "ni" ∷ "re" ∷ [])
unfolding operator_words
operator_words_lem = refl
