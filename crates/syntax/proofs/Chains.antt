-- A chain is joined from left to right, and and or equal in rank: a third item is joined to both before it, by whatever connectives.
-- Assumes nothing.
use Rattle.std.specs.Prelude.{Some, None}
use Prim.Native.Nat.{ℕ, suc}
use mathlib.Core.Path.{◌≡◌}
use mathlib.Core.List.{List}
use Rattle.syntax.specs.Tree.{Test, Tree, test, join}
use Rattle.syntax.specs.Scan.{connective_at, link}
use Rattle.syntax.specs.Reader.{Parsed, parsed, chain_of}
use Rattle.syntax.specs.declared.Connective.{Connective}

pub left_to_right : (k : ℕ) (xs : List ℕ) (item : ℕ → Parsed) (first second third at next : ℕ) (c o : Connective) (t : Test) (g h : Tree)
    → connective_at xs first ≡ Some (link at c) → item at ≡ parsed second g
    → connective_at xs second ≡ Some (link next o) → item next ≡ parsed third h
    → connective_at xs third ≡ None → chain_of (suc (suc (suc k))) xs item first (test t) ≡ parsed third (join o (join c (test t) g) h)
unfolding chain_of
left_to_right k xs item first second third at next c o t g h a b d e f = rw (a, b, d, e, f)
