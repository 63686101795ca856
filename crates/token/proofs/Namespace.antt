-- Laws of the short names, a row at a time.
-- Assumes nothing.
use mathlib.Core.Path.{◌≡◌, refl}
use Prim.Native.Nat.{ℕ}
use mathlib.Core.Bool.{Bool, true, false}
use mathlib.Core.List.{List, [], ◌∷◌}
use Rattle.text.specs.Compare.{same}
use Rattle.token.specs.Namespace.{Short, short_names, stands_for, namespace_of}

pub stands_for_itself_lem : (s : List ℕ) → stands_for [] s ≡ s
unfolding stands_for
stands_for_itself_lem s = refl

module _ (row : Short) (rows : List Short) (s : List ℕ) (q : Bool) (e : q ≡ same s row.name) where
  pub stands_for-here : q ≡ true → stands_for (row ∷ rows) s ≡ row.namespace
  unfolding stands_for
  stands_for-here t = rw (← e, t)

  pub stands_for-next : (n : List ℕ) → q ≡ false → stands_for rows s ≡ n → stands_for (row ∷ rows) s ≡ n
  unfolding stands_for
  stands_for-next n f h = rw (← e, f) h

pub same_namespace : (system s n : List ℕ) (r : Bool) → r ≡ same system n → stands_for short_names s ≡ n → r ≡ same system (namespace_of s)
unfolding namespace_of
same_namespace system s n r e h = rw h e

pub ruleset namespace = (same_namespace, stands_for_itself_lem, stands_for-here, stands_for-next)
