-- Laws of a property of every element, and of lists of bytes.
-- Assumes nothing.
use Prim.Native.Nat.{ℕ, zero, suc, ◌<◌}
use native.Mathlib.Omega.{arith}
use mathlib.Core.Path.{◌≡◌, sym, subst}
use mathlib.Core.Bool.{true, false≢true}
use mathlib.Core.Logic.{⊎_elim}
use mathlib.Core.List.{List, [], ◌∷◌, ◌++◌, map, head-eq_of_cons-eq, tail-eq_of_cons-eq}
use lib.Dec.{eqb}
use lib.ListN.{take, drop, get_or, replicate}
use borrow.Author.Tests.{eqb-true}
use Rattle.base.specs.Lists.{All, all_empty, all_cons, member}
use Rattle.base.specs.Bytes.{Bytes}
use Rattle.base.proofs.Tests.{or_either}

module _ {A : Type 0} (P : A → Type 0) where
  pub all_head : {x : A} {xs : List A} → All P (x ∷ xs) → P x
  all_head (all_cons p h) = p

  pub all_append : {xs ys : List A} → All P xs → All P ys → All P (xs ++ ys)
  all_append all_empty k = k
  all_append (all_cons p h) k = all_cons p (all_append h k)

  pub all_right : (xs : List A) {ys : List A} → All P (xs ++ ys) → All P ys
  all_right [] h = h
  all_right (x ∷ xs) (all_cons p h) = all_right xs h

  pub all_left : (xs ys : List A) → All P (xs ++ ys) → All P xs
  all_left [] ys h = all_empty
  all_left (x ∷ xs) ys (all_cons p h) = all_cons p (all_left xs ys h)

  pub all_take : (n : ℕ) {xs : List A} → All P xs → All P (take n xs)
  all_take zero h = all_empty
  all_take (suc n) all_empty = all_empty
  all_take (suc n) (all_cons p h) = all_cons p (all_take n h)

  pub all_drop : (n : ℕ) {xs : List A} → All P xs → All P (drop n xs)
  all_drop zero h = h
  all_drop (suc n) all_empty = all_empty
  all_drop (suc n) (all_cons p h) = all_drop n h

  pub all_replicate : (n : ℕ) {x : A} → P x → All P (replicate n x)
  all_replicate zero p = all_empty
  all_replicate (suc n) p = all_cons p (all_replicate n p)

-- what follows of each element
pub all_map : {A : Type 0} {P Q : A → Type 0} → ((x : A) → P x → Q x) → {xs : List A} → All P xs → All Q xs
all_map f all_empty = all_empty
all_map f (all_cons {x} p h) = all_cons (f x p) (all_map f h)

-- what holds of every element of the type
pub all_every : {A : Type 0} {P : A → Type 0} → ((x : A) → P x) → (xs : List A) → All P xs
all_every h [] = all_empty
all_every h (x ∷ xs) = all_cons (h x) (all_every h xs)

-- two properties as one
pub all_both : {A : Type 0} {P Q : A → Type 0} {xs : List A} → All P xs → All Q xs → All (λ (x : A). P x × Q x) xs
all_both all_empty all_empty = all_empty
all_both (all_cons p ps) (all_cons q qs) = all_cons (p, q) (all_both ps qs)

-- two functions that agree on a list agree on each element
pub all_same : {A B : Type 0} (f g : A → B) (xs : List A) → map f xs ≡ map g xs → All (λ (x : A). f x ≡ g x) xs
all_same f g [] e = all_empty
all_same f g (x ∷ xs) e = all_cons (head-eq_of_cons-eq e) (all_same f g xs (tail-eq_of_cons-eq e))

-- the first element that lacks a property is one
pub first_unique : {A : Type 0} (P : A → Type 0) (b b' : List A) (x x' : A) (a a' : List A) → b ++ (x ∷ a) ≡ b' ++ (x' ∷ a')
    → All P b → All P b' → (P x → ⊥) → (P x' → ⊥) → x ≡ x'
first_unique P [] [] x x' a a' e p p' n n' = cc
first_unique P [] (y ∷ b') x x' a a' e p p' n n' = let z : y ≡ x = cc in absurd (n (subst P z (all_head P p')))
first_unique P (y ∷ b) [] x x' a a' e p p' n n' = let z : y ≡ x' = cc in absurd (n' (subst P z (all_head P p)))
first_unique P (y ∷ b) (y' ∷ b') x x' a a' e (all_cons q p) (all_cons q' p') n n' =
    let z : b ++ (x ∷ a) ≡ b' ++ (x' ∷ a') = cc in
    first_unique P b b' x x' a a' z p p' n n'

-- ---- bytes

-- the byte at i; past the end stands 0
pub bytes-at : {s : List ℕ} → Bytes s → (i : ℕ) → get_or s i 0 < 256
bytes-at all_empty i = omega arith
bytes-at (all_cons p h) zero = p
bytes-at (all_cons p h) (suc i) = bytes-at h i

-- what a slice's type says of each element
pub bytes_of : (s : List ℕ) → ((i : ℕ) → get_or s i 0 < 256) → Bytes s
bytes_of [] h = all_empty
bytes_of (x ∷ xs) h = all_cons (h 0) (bytes_of xs (λ i. h (suc i)))

-- what holds of all numbers of a list holds of each that the test finds there
pub member_all : (P : ℕ → Type 0) {ks : List ℕ} → All P ks → (x : ℕ) → member x ks ≡ true → P x
unfolding member
member_all P all_empty x h = absurd (false≢true h)
member_all P (all_cons {x = k} {xs = ks} p all) x h =
    ⊎_elim (λ e. subst P (sym (eqb-true x k e)) p) (λ m. member_all P all x m) (or_either (eqb x k) (member x ks) h)
