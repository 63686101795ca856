-- Laws of the order among lines: a rank is that of one number, ranks go up with the lines, and of two lines that hold one comes first.
-- Assumes nothing.
use Prim.Native.Nat.{ℕ, suc, ◌+◌, ◌<◌, ◌≤◌}
use native.Mathlib.Omega.{arith}
use mathlib.Core.Path.{◌≡◌, refl, sym, ◌∙◌}
use mathlib.Core.Bool.{Bool, true, false, ◌||◌, cond}
use mathlib.Core.List.{List, [], ◌∷◌, ◌++◌}
use lib.Dec.{eqb}
use lib.ListN.{length}
use borrow.Author.Tests.{eqb-true}
use Rattle.base.specs.Lists.{member}
use Rattle.refusal.specs.Order.{lines, numbers, index, group, rank, Before, lower_group, earlier_place, lower_rank, Decides}

-- ---- where a number stands

-- a number's index is that of no other
index_unique : (ks : List ℕ) (m n : ℕ) → index (eqb m) m ks ≡ index (eqb n) n ks → m ≡ n
index_unique [] m n e = e
index_unique (k ∷ ks) m n e = go (index_unique ks m n) (eqb m k) (eqb n k) refl refl e
  where
    go : {i j : ℕ} → (i ≡ j → m ≡ n) → (a b : Bool) → eqb m k ≡ a → eqb n k ≡ b → cond a 0 (suc i) ≡ cond b 0 (suc j) → m ≡ n
    go more true true p q e = eqb-true m k p ∙ sym (eqb-true n k q)
    go more true false p q e = absurd (omega arith)
    go more false true p q e = absurd (omega arith)
    go more false false p q e = more (omega arith)

-- what is in a list stands inside it, whatever follows
index-inside : (ks rest : List ℕ) (m : ℕ) → member m ks ≡ true → index (eqb m) m (ks ++ rest) < length ks
unfolding member
index-inside [] rest m h = let z : ◌≡◌ {A = ℕ} 0 1 = cc in absurd (omega arith)
index-inside (k ∷ ks) rest m h = go (index-inside ks rest m) (eqb m k) h
  where
    go : {i l : ℕ} {b : Bool} → (b ≡ true → i < l) → (a : Bool) → (a || b) ≡ true → cond a 0 (suc i) < suc l
    go more true h = omega arith
    go more false h = omega (arith, more h)

-- what is not in it stands behind it
index-behind : (ks rest : List ℕ) (m : ℕ) → member m ks ≡ false → index (eqb m) m (ks ++ rest) ≡ length ks + index (eqb m) m rest
unfolding member
index-behind [] rest m h = omega arith
index-behind (k ∷ ks) rest m h = go (length ks) (index (eqb m) m rest) (index-behind ks rest m) (eqb m k) h
  where
    go : (l j : ℕ) {i : ℕ} {b : Bool} → (b ≡ false → i ≡ l + j) → (a : Bool) → (a || b) ≡ false → cond a 0 (suc i) ≡ suc l + j
    go l j more true h = let z : ◌≡◌ {A = ℕ} 0 1 = cc in absurd (omega arith)
    go l j more false h = omega (arith, more h)

index_rises : (ls : List (List ℕ)) (m n : ℕ) → index (member m) m ls < index (member n) n ls → index (eqb m) m (numbers ls) < index (eqb n) n (numbers ls)
index_rises [] m n h = h
index_rises (l ∷ ls) m n h = go (index_rises ls m n) (member m l) (member n l) refl refl h
  where
    go : {i j : ℕ} → (i < j → index (eqb m) m (numbers ls) < index (eqb n) n (numbers ls)) → (a b : Bool) → member m l ≡ a → member n l ≡ b
        → cond a 0 (suc i) < cond b 0 (suc j) → index (eqb m) m (l ++ numbers ls) < index (eqb n) n (l ++ numbers ls)
    go more true true p q h = absurd (omega arith)
    go more false true p q h = absurd (omega arith)
    go more true false p q h = omega (arith, index-inside l (numbers ls) m p, index-behind l (numbers ls) n q)
    go more false false p q h = omega (arith, more (omega arith), index-behind l (numbers ls) m p, index-behind l (numbers ls) n q)

-- a rank is that of one number
pub rank_unique : (m n : ℕ) → rank m ≡ rank n → m ≡ n
unfolding rank
rank_unique = index_unique (numbers lines)

-- a number of an earlier line ranks lower
pub rank_rises : (m n : ℕ) → group m < group n → rank m < rank n
unfolding rank group
rank_rises = index_rises lines

-- 02: 18 is "ranking between 14 and 15"
pub ranks_between : (rank 14 < rank 18) × (rank 18 < rank 15)
unfolding rank
ranks_between = (omega arith, omega arith)

-- ---- which line comes first

-- of two lines one comes first, unless they are the same
before_total : (m q n p : ℕ) → (Before m q n p → ⊥) → (Before n p m q → ⊥) → (m ≡ n) × (q ≡ p)
before_total m q n p a b =
    let gl : group m < group n → ⊥ = λ h. a (lower_group h) in
    let gr : group n < group m → ⊥ = λ h. b (lower_group h) in
    let g : group m ≡ group n = omega arith in
    let pl : q < p → ⊥ = λ h. a (earlier_place g h) in
    let pr : p < q → ⊥ = λ h. b (earlier_place (sym g) h) in
    let e : q ≡ p = omega arith in
    let nl : rank m < rank n → ⊥ = λ h. a (lower_rank g e h) in
    let nr : rank n < rank m → ⊥ = λ h. b (lower_rank (sym g) (sym e) h) in
    (rank_unique m n (omega arith), e)

pub decides_unique : (Line : ℕ → ℕ → Type 0) (m q n p : ℕ) → Decides Line m q → Decides Line n p → (m ≡ n) × (q ≡ p)
decides_unique Line m q n p d e = before_total m q n p (e.first m q d.holds) (d.first n p e.holds)

-- no line comes before itself
pub before_itself : {n p : ℕ} → Before n p n p → ⊥
before_itself (lower_group h) = omega arith
before_itself (earlier_place g h) = omega arith
before_itself (lower_rank g e h) = omega arith

-- of two lines at one place, the one that comes before ranks lower
pub before_ranks : {m n p : ℕ} → Before m p n p → rank m < rank n
before_ranks {m} {n} (lower_group h) = rank_rises m n h
before_ranks (earlier_place g h) = absurd (omega arith)
before_ranks (lower_rank g e h) = h

-- a line of a higher group does not come before
pub later-group : {m q n p : ℕ} → group n < group m → Before m q n p → ⊥
later-group h (lower_group k) = omega arith
later-group h (earlier_place k l) = omega arith
later-group h (lower_rank k l r) = omega arith

-- nor one of the same group at a later place
pub later_place : {m q n p : ℕ} → group m ≡ group n → p < q → Before m q n p → ⊥
later_place h l (lower_group k) = omega arith
later_place h l (earlier_place k j) = omega arith
later_place h l (lower_rank k j r) = omega arith

-- nor, at the same place of the same group, one that ranks no lower
pub no_lower_rank : {m q n p : ℕ} → group m ≡ group n → p ≤ q → rank n ≤ rank m → Before m q n p → ⊥
no_lower_rank h l r (lower_group k) = omega arith
no_lower_rank h l r (earlier_place k j) = omega arith
no_lower_rank h l r (lower_rank k j i) = omega arith

-- two kinds of lines, one of groups up to g and the other of groups above it
pub apart_at : (Line Line' : ℕ → ℕ → Type 0) (g : ℕ) → ((n p : ℕ) → Line n p → group n ≤ g) → ((n p : ℕ) → Line' n p → g < group n)
    → (m q n p : ℕ) → Line' m q → Line n p → Before m q n p → ⊥
apart_at Line Line' g up above m q n p l k = let a = up n p k in let b = above m q l in later-group (omega arith)
