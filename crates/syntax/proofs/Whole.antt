-- A text that is read as a whole: what stands behind its filter and how many tests it has decide whether its tree is kept.
-- Assumes nothing.
use Prim.Native.Nat.{ℕ, ◌≤◌, ◌<◌}
use mathlib.Core.Path.{◌≡◌}
use mathlib.Core.Bool.{cond}
use mathlib.Core.Option.{none, some, none-ne-some, some-injective}
use mathlib.Core.List.{List}
use lib.Dec.{eqb, leb}
use lib.ListN.{length}
use borrow.Author.Tests.{eq-eqb, ne_eqb, le-leb, lt-leb, eqb-true, leb-true}
use Rattle.base.specs.Runs.{RunEnd}
use Rattle.base.proofs.Tests.{cond-first}
use Rattle.syntax.specs.Tree.{Tree, tests_of}
use Rattle.syntax.specs.Grammar.{most_tests}
use Rattle.syntax.specs.Scan.{is_space, skip_at}
use Rattle.syntax.specs.Reader.{parsed, whole}

-- ---- as the code tries it

module _ (xs : List ℕ) (q after : ℕ) (s : RunEnd is_space xs q after) (f : Tree) where
  pub whole_trails : (after ≡ length xs → ⊥) → whole xs (parsed q f) ≡ none
  whole_trails n = rw (← s.is, ne_eqb after (length xs) n)

  module _ (e : after ≡ length xs) where
    pub whole_many : most_tests < length (tests_of f) → whole xs (parsed q f) ≡ none
    whole_many m = rw (← s.is, eq-eqb after (length xs) e, lt-leb (length (tests_of f)) most_tests m)

    pub whole_few : length (tests_of f) ≤ most_tests → whole xs (parsed q f) ≡ some f
    whole_few m = rw (← s.is, eq-eqb after (length xs) e, le-leb (length (tests_of f)) most_tests m)

-- ---- what a tree that was kept tells

pub record Kept (xs : List ℕ) (q : ℕ) (f g : Tree) : Type 0 where
  pub ends : skip_at xs q ≡ length xs
  pub few : length (tests_of f) ≤ most_tests
  pub same : f ≡ g

pub whole_kept : (xs : List ℕ) (q : ℕ) (f g : Tree) → whole xs (parsed q f) ≡ some g → Kept xs q f g
whole_kept xs q f g h =
    let t = cond-first (eqb (skip_at xs q) (length xs)) (cond (leb (length (tests_of f)) most_tests) (some f) none) none (none-ne-some _) h in
    let c = cond-first (leb (length (tests_of f)) most_tests) (some f) none (none-ne-some _) t.1 in
    record {
      ends = eqb-true (skip_at xs q) (length xs) t.0;
      few = leb-true (length (tests_of f)) most_tests c.0;
      same = some-injective _ _ c.1;
    }
