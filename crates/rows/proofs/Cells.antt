-- A cell says what was written, and is what is written of what it says.
-- Assumes nothing.
use Prim.Native.Nat.{ℕ, ◌+◌, ◌*◌, ◌/◌, ◌%◌, ◌<◌}
use native.Mathlib.Omega.{arith}
use mathlib.Core.Path.{◌≡◌, refl, sym, ap, ◌∙◌}
use mathlib.Core.Bool.{Bool, true, false, cond}
use lib.Dec.{eqb}
use borrow.Author.Tests.{eq-eqb, ne_eqb, eqb-true}
use Rattle.base.proofs.Tests.{cond-elim}
use Rattle.syntax.specs.declared.Connective.{Connective}
use Rattle.rows.specs.Cells.{number_of, probe_of, row_of, cell_of, Sayable}
use Rattle.rows.specs.declared.Probe.{Probe}
use Rattle.rows.specs.declared.Row.{Row}

-- ---- as the code tells cells apart

module _ (c : ℕ) where
  pub cell_test : (p : Probe) → c % 8 ≡ 0 → p ≡ probe_of (c / 8) → Row.Test p ≡ row_of c
  unfolding row_of
  cell_test p h e = rw (eq-eqb (c % 8) 0 h, e)

  module _ (a : c % 8 ≡ 0 → ⊥) where
    pub cell_bracket : c % 8 ≡ 1 → Row.Bracket (c / 8) ≡ row_of c
    unfolding row_of
    cell_bracket h = rw (ne_eqb (c % 8) 0 a, eq-eqb (c % 8) 1 h)

    module _ (b : c % 8 ≡ 1 → ⊥) where
      pub cell_and : c % 8 ≡ 3 → Row.Connect Connective.And (c / 8) ≡ row_of c
      unfolding row_of
      cell_and h = rw (ne_eqb (c % 8) 0 a, ne_eqb (c % 8) 1 b, eq-eqb (c % 8) 3 h)

      module _ (d : c % 8 ≡ 3 → ⊥) where
        pub cell_or : c % 8 ≡ 4 → Row.Connect Connective.Or (c / 8) ≡ row_of c
        unfolding row_of
        cell_or h = rw (ne_eqb (c % 8) 0 a, ne_eqb (c % 8) 1 b, ne_eqb (c % 8) 3 d, eq-eqb (c % 8) 4 h)

        module _ (e : c % 8 ≡ 4 → ⊥) where
          pub cell_not : c ≡ 2 → Row.Not ≡ row_of c
          unfolding row_of
          cell_not h = rw (ne_eqb (c % 8) 0 a, ne_eqb (c % 8) 1 b, ne_eqb (c % 8) 3 d, ne_eqb (c % 8) 4 e, eq-eqb c 2 h)

          pub cell_unknown : (c ≡ 2 → ⊥) → Row.Unknown ≡ row_of c
          unfolding row_of
          cell_unknown h = rw (ne_eqb (c % 8) 0 a, ne_eqb (c % 8) 1 b, ne_eqb (c % 8) 3 d, ne_eqb (c % 8) 4 e, ne_eqb c 2 h)

-- ---- what was written

abbrev made : ℕ → ℕ → ℕ → Probe
made i k p = record { index = i; operator = k; position = p }

made-same : {i k p j l q : ℕ} → i ≡ j → k ≡ l → p ≡ q → made i k p ≡ made j l q
made-same a b c = rw (a, b, c)

probe_same : (p q : Probe) → p.index ≡ q.index → p.operator ≡ q.operator → p.position ≡ q.position → p ≡ q
probe_same p q a b c = made-same {i = p.index} {k = p.operator} {p = p.position} {j = q.index} {l = q.operator} {q = q.position} a b c

probe_number : (p : Probe) → Sayable p → probe_of (number_of p) ≡ p
unfolding probe_of
probe_number p s = probe_same (probe_of (number_of p)) p (omega (arith, s.index)) (omega (arith, s.index, s.operator)) (omega (arith, s.index, s.operator))

pub row_test : (p : Probe) → Sayable p → row_of (cell_of (Row.Test p)) ≡ Row.Test p
unfolding cell_of
row_test p s =
    let n : (8 * number_of p) / 8 ≡ number_of p = omega arith in
    sym (cell_test (8 * number_of p) p (omega arith) (sym (ap probe_of n ∙ probe_number p s)))

pub row_bracket : (n : ℕ) → row_of (cell_of (Row.Bracket n)) ≡ Row.Bracket n
unfolding cell_of
row_bracket n =
    let s : (8 * n + 1) / 8 ≡ n = omega arith in
    sym (cell_bracket (8 * n + 1) (λ z. omega (arith, z)) (omega arith)) ∙ ap Row.Bracket s

pub row_not : row_of (cell_of Row.Not) ≡ Row.Not
unfolding row_of cell_of
row_not = refl

pub row_connect : (c : Connective) (n : ℕ) → row_of (cell_of (Row.Connect c n)) ≡ Row.Connect c n
unfolding cell_of
row_connect Connective.And n =
    let s : (8 * n + 3) / 8 ≡ n = omega arith in
    sym (cell_and (8 * n + 3) (λ z. omega (arith, z)) (λ z. omega (arith, z)) (omega arith)) ∙ ap (Row.Connect Connective.And) s
row_connect Connective.Or n =
    let s : (8 * n + 4) / 8 ≡ n = omega arith in
    sym (cell_or (8 * n + 4) (λ z. omega (arith, z)) (λ z. omega (arith, z)) (λ z. omega (arith, z)) (omega arith)) ∙ ap (Row.Connect Connective.Or) s

-- ---- what a cell says

number_probe : (n : ℕ) → number_of (probe_of n) ≡ n
unfolding probe_of
number_probe n = omega arith

probe_sayable : (n : ℕ) → Sayable (probe_of n)
unfolding probe_of
probe_sayable n = record { index = omega arith; operator = omega arith }

-- a cell that says something is the one that is written of it
pub cell_row : (c : ℕ) → (row_of c ≡ Row.Unknown → ⊥) → cell_of (row_of c) ≡ c
unfolding row_of cell_of
cell_row c h = by_tag (eqb (c % 8) 0) (eqb (c % 8) 1) (eqb (c % 8) 3) (eqb (c % 8) 4) (eqb c 2) refl refl refl refl refl
  where
    by_tag : (a b d f g : Bool) → eqb (c % 8) 0 ≡ a → eqb (c % 8) 1 ≡ b → eqb (c % 8) 3 ≡ d → eqb (c % 8) 4 ≡ f → eqb c 2 ≡ g → cell_of (row_of c) ≡ c
    by_tag true b d f g i j k l m = let z : c % 8 ≡ 0 = eqb-true (c % 8) 0 i in rw (i, number_probe (c / 8)) (omega (arith, z))
    by_tag false true d f g i j k l m = let z : c % 8 ≡ 1 = eqb-true (c % 8) 1 j in rw (i, j) (omega (arith, z))
    by_tag false false true f g i j k l m = let z : c % 8 ≡ 3 = eqb-true (c % 8) 3 k in rw (i, j, k) (omega (arith, z))
    by_tag false false false true g i j k l m = let z : c % 8 ≡ 4 = eqb-true (c % 8) 4 l in rw (i, j, k, l) (omega (arith, z))
    by_tag false false false false true i j k l m = let z : c ≡ 2 = eqb-true c 2 m in rw (i, j, k, l, m) (sym z)
    by_tag false false false false false i j k l m = absurd (h (rw (i, j, k, l, m)))

-- ---- what a row says can be written

abbrev pub RowSayable : Row → Type 0
RowSayable (Row.Test p) = Sayable p
RowSayable (Row.Bracket n) = Unit {0}
RowSayable Row.Not = Unit {0}
RowSayable (Row.Connect a n) = Unit {0}
RowSayable Row.Unknown = Unit {0}

pub row_sayable : (c : ℕ) → RowSayable (row_of c)
unfolding row_of
row_sayable c =
    cond-elim RowSayable (eqb (c % 8) 0) (λ a. probe_sayable (c / 8))
    (λ a. cond-elim RowSayable (eqb (c % 8) 1) (λ b. tt)
    (λ b. cond-elim RowSayable (eqb (c % 8) 3) (λ d. tt) (λ d. cond-elim RowSayable (eqb (c % 8) 4) (λ f. tt) (λ f. cond-elim RowSayable (eqb c 2) (λ g. tt) (λ g. tt)))))

pub test_index : (c : ℕ) (r : Row) (p : Probe) → r ≡ row_of c → r ≡ Row.Test p → p.index < 32
test_index c r p e h = let s : Sayable p = rw (sym e ∙ h) at (row_sayable c) in s.index

-- the test of a cell that says one
pub cell_probe : (c : ℕ) (p : Probe) → row_of c ≡ Row.Test p → probe_of (c / 8) ≡ p
unfolding row_of
cell_probe c p h = by_tag (eqb (c % 8) 0) (eqb (c % 8) 1) (eqb (c % 8) 3) (eqb (c % 8) 4) (eqb c 2) h
  where
    by_tag : (a b d f g : Bool) → cond a (Row.Test (probe_of (c / 8))) (cond b (Row.Bracket (c / 8)) (cond d (Row.Connect Connective.And (c / 8)) (cond f (Row.Connect Connective.Or (c / 8)) (cond g Row.Not Row.Unknown)))) ≡ Row.Test p → probe_of (c / 8) ≡ p
    by_tag true b d f g i = cc
    by_tag false true d f g i = let z : ◌≡◌ {A = ℕ} 0 1 = cc in absurd (omega (arith, z))
    by_tag false false true f g i = let z : ◌≡◌ {A = ℕ} 0 1 = cc in absurd (omega (arith, z))
    by_tag false false false true g i = let z : ◌≡◌ {A = ℕ} 0 1 = cc in absurd (omega (arith, z))
    by_tag false false false false true i = let z : ◌≡◌ {A = ℕ} 0 1 = cc in absurd (omega (arith, z))
    by_tag false false false false false i = let z : ◌≡◌ {A = ℕ} 0 1 = cc in absurd (omega (arith, z))
