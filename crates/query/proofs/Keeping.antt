-- Rows that keep a query: one more, and the verdict over them.
-- Assumes nothing.
use Prim.Native.Nat.{ℕ, ◌+◌, ◌≤◌, ◌<◌}
use native.Mathlib.Numerals.{add-one}
use native.Mathlib.Omega.{arith}
use mathlib.Core.Path.{◌≡◌, refl, ap, sym, ◌∙◌, subst}
use mathlib.Core.Bool.{Bool, true, false, cond, ◌&&◌, ◌||◌}
use mathlib.Core.List.{List, [], ◌∷◌, ◌++◌, map}
use lib.Dec.{ltb}
use lib.ListN.{length, take, set, length-set, length-append}
use lib.Seq.{take-suc-set}
use borrow.Author.Tests.{lt-ltb, le-ltb}
use Rattle.base.specs.Lists.{All, all_empty, all_cons}
use Rattle.base.proofs.All.{all_append}
use Rattle.query.specs.Spelling.{Alternative, Query, Sign, Pieces, last_piece, next_piece, AlternativesAre, alternatives_next, PairAt, a_pair, PairsAt, last_pair, next_pair}
use Rattle.query.specs.Met.{pair_met, query_met}
use Rattle.query.specs.Rows.{pushed, Kept, keep_pair, keep_all, kept_in, RowWithin, Keeps, kept_says}
use Rattle.query.specs.declared.Row.{Row}
use Rattle.query.specs.declared.Rows.{Rows}

-- ---- one more

pub push_kept : (q : Rows) (row : Row) → q.count < 32 → record { count = q.count + 1; rows = set q.rows q.count row } ≡ pushed q row
unfolding pushed
push_kept q row h = rw (lt-ltb q.count 32 h)

pub push_counted : (q : Rows) (row : Row) → 32 ≤ q.count → record { count = q.count + 1; rows = q.rows } ≡ pushed q row
unfolding pushed
push_counted q row h = rw (le-ltb q.count 32 h)

-- ---- the verdict

or_assoc : (a b c : Bool) → ((a || b) || c) ≡ (a || (b || c))
or_assoc true b c = refl
or_assoc false b c = refl

or_nothing : (a : Bool) → (a || false) ≡ a
or_nothing true = refl
or_nothing false = refl

module _ (says : Alternative → Bool) where
  -- a pair that is not empty, and what follows it
  pair_kept : (a : Alternative) (rest : List Alternative) (met : Bool) (more : List Kept)
      → kept_says says met (keep_pair (a ∷ rest) ++ more) ≡ ((met || pair_met says (a ∷ rest)) && kept_says says false more)
  unfolding kept_says keep_pair pair_met
  pair_kept a [] met more = ap (λ (x : Bool). (met || x) && kept_says says false more) (sym (or_nothing (says a)))
  pair_kept a (b ∷ rest) met more =
      pair_kept b rest (met || says a) more ∙ ap (λ (x : Bool). x && kept_says says false more) (or_assoc met (says a) (pair_met says (b ∷ rest)))

  query_kept : (q : Query) → All (λ (p : List Alternative). p ≡ [] → ⊥) q → kept_says says false (keep_all q) ≡ query_met says q
  unfolding kept_says keep_all query_met
  query_kept [] all_empty = refl
  query_kept ([] ∷ q) (all_cons n h) = absurd (n refl)
  query_kept ((a ∷ rest) ∷ q) (all_cons n h) = pair_kept a rest false (keep_all q) ∙ ap (λ (x : Bool). pair_met says (a ∷ rest) && x) (query_kept q h)

-- no pair is empty
alternatives_some : {p : ℕ} {n : List ℕ} {v : List Sign} {ws : List (List Sign)} {a : List Alternative} → Pieces v ws → AlternativesAre p n ws a → a ≡ [] → ⊥
alternatives_some (last_piece h) (alternatives_next x y r) e = let z = ap length e in omega arith
alternatives_some (next_piece h k) (alternatives_next x y r) e = let z = ap length e in omega arith

pair_some : {p : ℕ} {s : List ℕ} {a : List Alternative} → PairAt p s a → a ≡ [] → ⊥
pair_some (a_pair x y z d e g c l) = alternatives_some c l

pairs_some : {p : ℕ} {xs : List ℕ} {q : Query} → PairsAt p xs q → All (λ (a : List Alternative). a ≡ [] → ⊥) q
pairs_some (last_pair h) = all_cons (pair_some h) all_empty
pairs_some (next_pair h r) = all_cons (pair_some h) (pairs_some r)

-- the verdict over the kept alternatives is the query's
pub kept_says_lem : (says : Alternative → Bool) {p : ℕ} {xs : List ℕ} {q : Query} → PairsAt p xs q → kept_says says false (keep_all q) ≡ query_met says q
kept_says_lem says {q = q} h = query_kept says q (pairs_some h)

-- ---- what a push keeps

module _ {A B : Type 0} where
  pub map-append : (f : A → B) (xs ys : List A) → map f (xs ++ ys) ≡ map f xs ++ map f ys
  map-append f [] ys = refl
  map-append f (x ∷ xs) ys = ap (λ (l : List B). f x ∷ l) (map-append f xs ys)

pub keeps_push : {q : Rows} {bytes : List ℕ} {used : ℕ} {ks : List Kept} (row : Row) → Keeps q bytes used ks → RowWithin used row
    → Keeps (pushed q row) bytes used (ks ++ (kept_in bytes row ∷ []))
unfolding pushed
keeps_push {q} {bytes} {used} {ks} row k inside = record { count = size; cells = cells; kept = kept; ends = ends }
  where
    size : q.count + 1 ≡ length (ks ++ (kept_in bytes row ∷ []))
    size = omega (arith, k.count, length-append ks (kept_in bytes row ∷ []))

    cells : length (cond (ltb q.count 32) (set q.rows q.count row) q.rows) ≡ 32
    cells = cond-length (ltb q.count 32)
      where
        cond-length : (t : Bool) → length (cond t (set q.rows q.count row) q.rows) ≡ 32
        cond-length true = length-set q.rows q.count row ∙ k.cells
        cond-length false = k.cells

    front : q.count + 1 ≤ 32 → take (q.count + 1) (cond (ltb q.count 32) (set q.rows q.count row) q.rows) ≡ take q.count q.rows ++ (row ∷ [])
    front h = rw (lt-ltb q.count 32 (omega arith), add-one q.count, take-suc-set q.rows q.count row (omega (arith, k.cells)))

    kept : q.count + 1 ≤ 32 → map (kept_in bytes) (take (q.count + 1) (cond (ltb q.count 32) (set q.rows q.count row) q.rows)) ≡ ks ++ (kept_in bytes row ∷ [])
    kept h = ap (map (kept_in bytes)) (front h) ∙ map-append (kept_in bytes) (take q.count q.rows) (row ∷ []) ∙ ap (λ (l : List Kept). l ++ (kept_in bytes row ∷ [])) (k.kept (omega arith))

    ends : q.count + 1 ≤ 32 → All (RowWithin used) (take (q.count + 1) (cond (ltb q.count 32) (set q.rows q.count row) q.rows))
    ends h = subst (All (RowWithin used)) (sym (front h)) (all_append (RowWithin used) (k.ends (omega arith)) (all_cons inside all_empty))
