-- The number of brackets that an expression needs decides how deep they nest, and an expression of few tests that nests little has few rows.
-- Assumes nothing.
use Prim.Native.Nat.{ℕ, zero, suc, ◌+◌, ◌*◌, ◌≤◌, ◌<◌}
use native.Mathlib.Omega.{arith}
use native.Mathlib.Nat.{mul-add, add-mul}
use mathlib.Core.Path.{◌≡◌, refl, ap, ◌∙◌}
use mathlib.Core.List.{[], ◌∷◌}
use lib.ListN.{length, length-append}
use mathlib.Core.Bool.{Bool, true, false, cond}
use lib.Dec.{ltb}
use borrow.Author.Tests.{ltb-true, ltb-false}
use Rattle.rows.specs.Expression.{Expression, probing, choosing, joining, negating, test_count}
use Rattle.rows.specs.Cells.{cell_of, encode}
use Rattle.rows.specs.declared.Row.{Row}
use Rattle.rows.specs.Nesting.{NestsItem, Nests, nests_test, nests_bracketed, nests_bracket, nests_not, nests_item, nests_more, larger, shape_of, parts_in}

pub larger_of : (a b : ℕ) → (a ≤ larger a b) × (b ≤ larger a b)
unfolding larger
larger_of a b = by_test (ltb a b) refl
  where
    by_test : (t : Bool) → ltb a b ≡ t → (a ≤ cond (ltb a b) b a) × (b ≤ cond (ltb a b) b a)
    by_test true e = let l : a < b = ltb-true a b e in (rw e (omega (arith, l)), rw e (omega arith))
    by_test false e = let l : b ≤ a = ltb-false a b e in (rw e (omega arith), rw e l)

pub larger_least : (a b d : ℕ) → a ≤ d → b ≤ d → larger a b ≤ d
unfolding larger
larger_least a b d h k = by_test (ltb a b)
  where
    by_test : (t : Bool) → cond t b a ≤ d
    by_test true = k
    by_test false = h

-- as an item an expression needs no fewer
chain_item : (e : Expression) → (shape_of e).chain ≤ (shape_of e).item
unfolding shape_of
chain_item (probing p) = omega arith
chain_item (choosing e p) = omega arith
chain_item (negating e) = omega arith
chain_item (joining c e f) = omega arith

-- and at most one more
item_chain : (e : Expression) → (shape_of e).item ≤ suc (shape_of e).chain
unfolding shape_of
item_chain (probing p) = omega arith
item_chain (choosing e p) = omega arith
item_chain (negating e) = omega arith
item_chain (joining c e f) = omega arith

mutual
  unfolding shape_of

  item_of : (e : Expression) (d : ℕ) → (shape_of e).item ≤ d → NestsItem d e
  item_of (probing p) d h = nests_test
  item_of (choosing e p) zero h = absurd (omega (arith, h))
  item_of (choosing e p) (suc d) h = nests_bracketed (chain_of_lem e d (omega (arith, h)))
  item_of (negating e) zero h = absurd (omega (arith, h))
  item_of (negating e) (suc d) h = nests_not (chain_of_lem e d (omega (arith, h)))
  item_of (joining c e f) zero h = absurd (omega (arith, h))
  item_of (joining c e f) (suc d) h =
      let l = larger_of (shape_of e).chain (shape_of f).item in
      nests_bracket (nests_more (chain_of_lem e d (omega (arith, h, l.0))) (item_of f d (omega (arith, h, l.1))))

  pub chain_of_lem : (e : Expression) (d : ℕ) → (shape_of e).chain ≤ d → Nests d e
  chain_of_lem (probing p) d h = nests_item nests_test
  chain_of_lem (choosing e p) zero h = absurd (omega (arith, h))
  chain_of_lem (choosing e p) (suc d) h = nests_item (nests_bracketed (chain_of_lem e d (omega (arith, h))))
  chain_of_lem (negating e) zero h = absurd (omega (arith, h))
  chain_of_lem (negating e) (suc d) h = nests_item (nests_not (chain_of_lem e d (omega (arith, h))))
  chain_of_lem (joining c e f) d h =
      let l = larger_of (shape_of e).chain (shape_of f).item in
      nests_more (chain_of_lem e d (omega (arith, h, l.0))) (item_of f d (omega (arith, h, l.1)))

mutual
  unfolding shape_of

  of_item : {e : Expression} {d : ℕ} → NestsItem d e → (shape_of e).item ≤ d
  of_item nests_test = omega arith
  of_item (nests_bracketed h) = omega (arith, of_chain h)
  of_item (nests_bracket {e = e} h) = omega (arith, of_chain h, item_chain e)
  of_item (nests_not h) = omega (arith, of_chain h)

  pub of_chain : {e : Expression} {d : ℕ} → Nests d e → (shape_of e).chain ≤ d
  of_chain (nests_item {e = e} h) = omega (arith, of_item h, chain_item e)
  of_chain (nests_more {d = d} {e = e} {f = f} h k) = larger_least (shape_of e).chain (shape_of f).item d (of_chain h) (of_item k)

-- ---- an expression of few tests that nests little has few rows

pub tests_some : (e : Expression) → 1 ≤ test_count e
unfolding test_count
tests_some (probing p) = omega arith
tests_some (choosing e p) = omega arith
tests_some (joining c e f) = omega (arith, tests_some e)
tests_some (negating e) = tests_some e

-- and no more tests than rows
pub tests_rows : (e : Expression) → test_count e ≤ length (encode e)
unfolding test_count encode
tests_rows (probing p) = omega arith
tests_rows (choosing e p) = omega (arith, tests_rows e)
tests_rows (negating e) = omega (arith, tests_rows e, length-append (encode e) (cell_of Row.Not ∷ []))
tests_rows (joining c e f) = omega (arith, tests_rows e, tests_rows f, length-append (encode e) (cell_of (Row.Connect c (length (encode f))) ∷ encode f))

one_deeper : (t d : ℕ) → t * (2 + suc d) ≡ t * (2 + d) + t
one_deeper t d = let more : 2 + suc d ≡ 2 + d + 1 = omega arith in ap (λ (n : ℕ). t * n) more ∙ mul-add t (2 + d) 1 ∙ ap (λ (n : ℕ). t * (2 + d) + n) (omega arith)

mutual
  unfolding encode test_count

  item_few : {d : ℕ} {e : Expression} → NestsItem d e → length (encode e) + 1 ≤ test_count e * (2 + d)
  item_few nests_test = omega arith
  item_few (nests_bracketed {d = d} {e = e} {p = p} n) = omega (arith, rows_few n, one_deeper (test_count e) d, tests_some e)
  item_few (nests_bracket {d = d} {e = e} n) = omega (arith, rows_few n, one_deeper (test_count e) d)
  item_few (nests_not {d = d} {e = e} n) = omega (arith, rows_few n, one_deeper (test_count e) d, tests_some e, length-append (encode e) (cell_of Row.Not ∷ []))

  pub rows_few : {d : ℕ} {e : Expression} → Nests d e → length (encode e) + 1 ≤ test_count e * (2 + d)
  rows_few (nests_item i) = item_few i
  rows_few (nests_more {d = d} {c = c} {e = e} {f = f} a b) =
      omega (arith, rows_few a, item_few b, add-mul (test_count e) (test_count f) (2 + d), length-append (encode e) (cell_of (Row.Connect c (length (encode f))) ∷ encode f))

-- ---- shapes: the number of tests, and no more tests and levels than rows

pub shape_tests : (e : Expression) → (shape_of e).tests ≡ test_count e
unfolding shape_of test_count
shape_tests (probing p) = refl
shape_tests (choosing e p) = omega (arith, shape_tests e)
shape_tests (negating e) = omega (arith, shape_tests e)
shape_tests (joining c e f) = omega (arith, shape_tests e, shape_tests f)

pub levels_rows : (e : Expression) → ((shape_of e).chain < length (encode e)) × ((shape_of e).item ≤ length (encode e))
unfolding shape_of encode
levels_rows (probing p) = (omega arith, omega arith)
levels_rows (choosing e p) = (omega (arith, (levels_rows e).0), omega (arith, (levels_rows e).0))
levels_rows (negating e) = (omega (arith, (levels_rows e).0, length-append (encode e) (cell_of Row.Not ∷ [])), omega (arith, (levels_rows e).0, length-append (encode e) (cell_of Row.Not ∷ [])))
levels_rows (joining c e f) =
    let size = length-append (encode e) (cell_of (Row.Connect c (length (encode f))) ∷ encode f) in
    let rows : ℕ = length (encode e) + length (encode f) in
    let most : larger (shape_of e).chain (shape_of f).item ≤ rows = larger_least (shape_of e).chain (shape_of f).item rows (omega (arith, (levels_rows e).0)) (omega (arith, (levels_rows f).1)) in
    (omega (arith, most, size), omega (arith, most, size))

-- ---- parts in parts: some, no more than rows, and at most two for each level and two more

pub parts_some : (e : Expression) → 1 ≤ parts_in e
unfolding parts_in
parts_some (probing p) = omega arith
parts_some (choosing e p) = omega arith
parts_some (negating e) = parts_some e
parts_some (joining c e f) = omega (arith, parts_some e, (larger_of (parts_in e) (suc (parts_in f))).0)

pub parts_rows : (e : Expression) → parts_in e ≤ length (encode e)
unfolding parts_in encode
parts_rows (probing p) = omega arith
parts_rows (choosing e p) = omega (arith, parts_rows e)
parts_rows (negating e) = omega (arith, parts_rows e, length-append (encode e) (cell_of Row.Not ∷ []))
parts_rows (joining c e f) =
    let size = length-append (encode e) (cell_of (Row.Connect c (length (encode f))) ∷ encode f) in
    larger_least (parts_in e) (suc (parts_in f)) (length (encode (joining c e f))) (omega (arith, size, parts_rows e)) (omega (arith, size, parts_rows f))

pub parts_levels : (e : Expression) → (parts_in e ≤ 2 * (shape_of e).chain + 2) × (parts_in e ≤ 2 * (shape_of e).item + 1)
unfolding parts_in shape_of
parts_levels (probing p) = (omega arith, omega arith)
parts_levels (choosing e p) = (omega (arith, (parts_levels e).0), omega (arith, (parts_levels e).0))
parts_levels (negating e) = (omega (arith, (parts_levels e).0), omega (arith, (parts_levels e).0))
parts_levels (joining c e f) =
    let deep = larger_of (shape_of e).chain (shape_of f).item in
    let chain : ℕ = larger (shape_of e).chain (shape_of f).item in
    let most : larger (parts_in e) (suc (parts_in f)) ≤ 2 * chain + 2 =
    larger_least (parts_in e) (suc (parts_in f)) (2 * chain + 2) (omega (arith, (parts_levels e).0, deep.0)) (omega (arith, (parts_levels f).1, deep.1)) in
    (most, omega (arith, most))
