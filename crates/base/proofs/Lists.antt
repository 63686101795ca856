-- Laws of lists.
-- Assumes nothing.
use mathlib.Core.Path.{◌≡◌, refl, ap, sym, ◌∙◌}
use Prim.Native.Nat.{ℕ, suc, ◌+◌, ◌-◌, ◌<◌}
use native.Mathlib.Numerals.{add-one}
use native.Mathlib.Omega.{arith}
use mathlib.Core.Bool.{Bool, true, false, ◌&&◌, false≢true}
use mathlib.Core.Logic.{◌⊎◌, inl, inr, ⊎_elim, ite}
use mathlib.Core.List.{List, [], ◌∷◌, ◌++◌, map, filter}
use lib.Dec.{eqb}
use lib.Pointwise.{pointwise}
use lib.ListN.{length, get_or, take, drop, length-drop, drop_of_length-le, length-append}
use lib.Seq.{take_all, drop-cons}
use types.Run.{OneOf}
use borrow.Author.Tests.{eq-eqb, ne_eqb, eqb-true}
use Rattle.std.specs.List.{list_all}
use Rattle.base.specs.Lists.{Listed, All, all_empty, all_cons, every, equal, member}
use Rattle.base.proofs.Tests.{and_left, and_right, and_both, or_either, or_right, decided}

-- ---- parts

-- a part up to the end, as `&s[j..]` has it
pub rest : (s : List ℕ) (j : ℕ) → take (length s - j) (drop j s) ≡ drop j s
rest s j = take_all (length s - j) (drop j s) (omega (arith, length-drop j s))

pub cons_same : {x y : ℕ} {xs ys : List ℕ} → x ≡ y → xs ≡ ys → x ∷ xs ≡ y ∷ ys
cons_same e t = cc

pub length_zero : (s : List ℕ) → length s ≡ 0 → s ≡ []
length_zero s h = drop_of_length-le s {i = 0} (omega arith)

-- the rest from an index: the element there, and the rest from the next index
pub drop-next : (s : List ℕ) (i : ℕ) → i < length s → drop i s ≡ get_or s i 0 ∷ drop (i + 1) s
drop-next s i h = rw (add-one i) (drop-cons s i 0 h)

-- ---- every element

pub every_all : (p : ℕ → Bool) (l : List ℕ) → every p l ≡ true → All (λ (x : ℕ). p x ≡ true) l
unfolding every
every_all p [] h = all_empty
every_all p (x ∷ xs) h = all_cons (and_left (p x) (every p xs) h) (every_all p xs (and_right (p x) (every p xs) h))

pub all_every : (p : ℕ → Bool) (l : List ℕ) → All (λ (x : ℕ). p x ≡ true) l → every p l ≡ true
unfolding every
all_every p [] h = refl
all_every p (x ∷ xs) (all_cons e h) = and_both (p x) (every p xs) e (all_every p xs h)

-- what `all` answers
pub list_all_every : (p : ℕ → Bool) (l : List ℕ) → list_all p l ≡ every p l
unfolding every
list_all_every p [] = refl
list_all_every p (x ∷ xs) = ap (λ (b : Bool). p x && b) (list_all_every p xs)

-- ---- equality

-- what `==` answers
pub pointwise_equal : (a b : List ℕ) → pointwise eqb a b ≡ equal a b
unfolding equal
pointwise_equal [] [] = refl
pointwise_equal [] (y ∷ ys) = refl
pointwise_equal (x ∷ xs) [] = refl
pointwise_equal (x ∷ xs) (y ∷ ys) = ap (λ (b : Bool). eqb x y && b) (pointwise_equal xs ys)

pub equal-same : (a b : List ℕ) → equal a b ≡ true → a ≡ b
unfolding equal
equal-same [] [] h = refl
equal-same [] (y ∷ ys) h = absurd (false≢true h)
equal-same (x ∷ xs) [] h = absurd (false≢true h)
equal-same (x ∷ xs) (y ∷ ys) h =
    cons_same (eqb-true x y (and_left (eqb x y) (equal xs ys) h)) (equal-same xs ys (and_right (eqb x y) (equal xs ys) h))

pub equal_refl : (a : List ℕ) → equal a a ≡ true
unfolding equal
equal_refl [] = refl
equal_refl (x ∷ xs) = rw (eq-eqb x x refl) (equal_refl xs)

pub equal_not : (a b : List ℕ) → (a ≡ b → ⊥) → equal a b ≡ false
equal_not a b n = ⊎_elim (λ t. absurd (n (equal-same a b t))) (λ f. f) (decided (equal a b))

-- ---- membership, as an arm of a `match` tells it of its keys

pub member_arm : (ks : List ℕ) (x : ℕ) → OneOf ks x → true ≡ member x ks
unfolding member
member_arm [] x h = absurd h
member_arm (k ∷ []) x e = rw (eq-eqb x k e)
member_arm (k ∷ j ∷ ks) x (inl e) = rw (eq-eqb x k e)
member_arm (k ∷ j ∷ ks) x (inr h) = sym (or_right (eqb x k) (member x (j ∷ ks)) (sym (member_arm (j ∷ ks) x h)))

pub member_rest : (ks : List ℕ) (x : ℕ) → (OneOf ks x → ⊥) → false ≡ member x ks
unfolding member
member_rest [] x h = refl
member_rest (k ∷ []) x h = rw (ne_eqb x k h)
member_rest (k ∷ j ∷ ks) x h = rw (ne_eqb x k (λ e. h (inl e))) (member_rest (j ∷ ks) x (λ r. h (inr r)))

-- what every element passes, a member passes
pub every-member : (p : ℕ → Bool) (ks : List ℕ) (x : ℕ) → every p ks ≡ true → member x ks ≡ true → p x ≡ true
unfolding every member
every-member p [] x h m = absurd (false≢true m)
every-member p (k ∷ ks) x h m =
    ⊎_elim
    (λ e. ap p (eqb-true x k e) ∙ and_left (p k) (every p ks) h)
    (λ r. every-member p ks x (and_right (p k) (every p ks) h) r)
    (or_either (eqb x k) (member x ks) m)

-- ---- what passes a decision

module _ {A B : Type 0} {P : B → Type 0} (d : (y : B) → Dec (P y)) (f : A → B) where
  filter_next : (x : A) (ys : List B) (xs : List A) → length ys ≡ length xs → (c : Dec (P (f x)))
      → length (ite {C = List B} c (f x ∷ ys) ys) ≡ length (ite {C = List A} c (x ∷ xs) xs)
  filter_next x ys xs e (yes p) = ap suc e
  filter_next x ys xs e (no n) = e

  -- as many pass before a map as after it
  pub filter_map : (xs : List A) → length (filter d (map f xs)) ≡ length (filter (λ x. d (f x)) xs)
  filter_map [] = refl
  filter_map (x ∷ xs) = filter_next x (filter d (map f xs)) (filter (λ x. d (f x)) xs) (filter_map xs) (d (f x))

-- ---- an element by its index

module _ {A : Type 0} where
  pub listed_nil : {i : ℕ} {x : A} → Listed [] i x → ⊥
  listed_nil {x = x} l = omega (arith, ap length l.split, length-append l.before (x ∷ l.after))

  pub listed_first : (x : A) (xs : List A) → Listed (x ∷ xs) 0 x
  listed_first x xs = record { before = []; after = xs; split = refl; index = refl }

  pub listed_later : (y : A) {xs : List A} {i : ℕ} {x : A} → Listed xs i x → Listed (y ∷ xs) (suc i) x
  listed_later y l = record { before = y ∷ l.before; after = l.after; split = ap (λ (t : List A). y ∷ t) l.split; index = ap suc l.index }

  -- the first element, or one of the rest
  pub listed_cases : (y : A) (xs : List A) (i : ℕ) (x : A) → Listed (y ∷ xs) i x → ((i ≡ 0) × (x ≡ y)) ⊎ ((k : ℕ) × (i ≡ suc k) × Listed xs k x)
  listed_cases y xs i x l = by_before l.before l.split l.index
    where
      by_before : (before : List A) → y ∷ xs ≡ before ++ (x ∷ l.after) → length before ≡ i → ((i ≡ 0) × (x ≡ y)) ⊎ ((k : ℕ) × (i ≡ suc k) × Listed xs k x)
      by_before [] e h = let same : x ≡ y = cc in inl (sym h, same)
      by_before (z ∷ before) e h =
          let rest : xs ≡ before ++ (x ∷ l.after) = cc in
          inr (length before, sym h, record { before = before; after = l.after; split = rest; index = refl })
