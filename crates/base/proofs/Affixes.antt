-- Laws of prefixes, suffixes and infixes.
-- Assumes nothing.
use mathlib.Core.Path.{◌≡◌, refl, sym, ap, ◌∙◌}
use Prim.Native.Nat.{ℕ, zero, suc, ◌+◌, ◌-◌, ◌≤◌, ◌<◌}
use native.Mathlib.Nat.{add-zero, le_of_suc-le-suc, not-suc-le-zero}
use native.Mathlib.Omega.{arith}
use mathlib.Core.Bool.{Bool, true, false, ◌&&◌, and-false, or-true, false≢true}
use mathlib.Core.List.{List, [], ◌∷◌, ◌++◌}
use mathlib.Core.Logic.{⊎_elim}
use lib.Dec.{eqb}
use lib.ListN.{length, get_or, take, drop, length-append, length-drop, take-append-drop, drop_of_length-le}
use lib.Seq.{drop-cons, drop_at, drop-drop}
use borrow.Author.Tests.{eq-eqb, ne_eqb, eqb-true}
use Rattle.std.specs.List.{list_all, list_any, range_with_len}
use Rattle.base.specs.Lists.{equal}
use Rattle.base.proofs.Tests.{and_left, and_right, or_either, decided}
use Rattle.base.proofs.Lists.{drop-next, cons_same, equal-same, equal_refl, equal_not}
use Rattle.base.specs.Affixes.{has_prefix, has_suffix, has_infix}

-- ---- prefixes

pub prefix_differ : (xs ys : List ℕ) (i j : ℕ) → i < length xs → j < length ys → (get_or xs i 0 ≡ get_or ys j 0 → ⊥) → has_prefix (drop i xs) (drop j ys) ≡ false
unfolding has_prefix
prefix_differ xs ys i j hi hj e = rw (drop-cons xs i 0, drop-cons ys j 0, ne_eqb _ _ e)

-- every list begins with the empty one
pub prefix_past : (xs ys : List ℕ) (j : ℕ) → length ys ≤ j → has_prefix xs (drop j ys) ≡ true
unfolding has_prefix
prefix_past xs ys j h = rw (drop_of_length-le ys h)

pub prefix_short : (xs ys : List ℕ) → length xs < length ys → has_prefix xs ys ≡ false
unfolding has_prefix
prefix_short xs [] h = absurd (not-suc-le-zero h)
prefix_short [] (y ∷ ys) h = refl
prefix_short (x ∷ xs) (y ∷ ys) h = rw (prefix_short xs ys (le_of_suc-le-suc h)) (and-false (eqb x y))

pub prefix_equal : (xs ys : List ℕ) → length xs ≡ length ys → has_prefix xs ys ≡ equal xs ys
unfolding has_prefix equal
prefix_equal [] [] h = refl
prefix_equal [] (y ∷ ys) h = refl
prefix_equal (x ∷ xs) [] h = absurd (omega arith)
prefix_equal (x ∷ xs) (y ∷ ys) h = ap (λ (t : Bool). eqb x y && t) (prefix_equal xs ys (omega arith))

-- as a comparison with the first elements
pub prefix_take : (xs ys : List ℕ) → length ys ≤ length xs → has_prefix xs ys ≡ equal (take (length ys) xs) ys
unfolding has_prefix equal
prefix_take xs [] h = refl
prefix_take [] (y ∷ ys) h = absurd (not-suc-le-zero h)
prefix_take (x ∷ xs) (y ∷ ys) h = ap (λ (t : Bool). eqb x y && t) (prefix_take xs ys (le_of_suc-le-suc h))

pub prefix_rest : (xs ys : List ℕ) → has_prefix xs ys ≡ true → (q : List ℕ) × (xs ≡ ys ++ q)
unfolding has_prefix
prefix_rest xs [] h = (xs, refl)
prefix_rest [] (y ∷ ys) h = absurd (false≢true h)
prefix_rest (x ∷ xs) (y ∷ ys) h =
    let r = prefix_rest xs ys (and_right (eqb x y) (has_prefix xs ys) h) in
    (r.0, cons_same (eqb-true x y (and_left (eqb x y) (has_prefix xs ys) h)) r.1)

pub prefix_append : (ys q : List ℕ) → has_prefix (ys ++ q) ys ≡ true
unfolding has_prefix
prefix_append [] q = refl
prefix_append (y ∷ ys) q = rw (eq-eqb y y refl) (prefix_append ys q)

-- as `all` over the indices compares them: from the j-th element on
module _ (xs ys : List ℕ) (at : ℕ) (fits : at + length ys ≤ length xs) where
  all_from : (n j : ℕ) → j + n ≡ length ys → list_all (λ (i : ℕ). eqb (get_or xs (at + i) 0) (get_or ys i 0)) (range_with_len j n) ≡ has_prefix (drop (at + j) xs) (drop j ys)
  unfolding has_prefix
  all_from zero j e = sym (prefix_past (drop (at + j) xs) ys j (omega arith))
  all_from (suc n) j e =
      let left : at + j < length xs = omega arith in
      let right : j < length ys = omega arith in
      let next : at + j + 1 ≡ at + (j + 1) = omega arith in
      rw (drop-next xs (at + j) left, drop-next ys j right, next) (ap (λ (t : Bool). eqb (get_or xs (at + j) 0) (get_or ys j 0) && t) (all_from n (j + 1) (omega arith)))

  pub prefix_all : list_all (λ (i : ℕ). eqb (get_or xs (at + i) 0) (get_or ys i 0)) (range_with_len 0 (length ys)) ≡ has_prefix (drop at xs) ys
  prefix_all = rw add-zero at (all_from (length ys) 0 (omega arith))

-- ---- suffixes

pub suffix_short : (xs ys : List ℕ) → length xs < length ys → has_suffix xs ys ≡ false
unfolding has_suffix
suffix_short xs ys h =
    let n = length xs - length ys in
    equal_not (drop n xs) ys (λ e. omega (arith, ap length e, length-drop n xs))

-- where ys is the shorter, the last part is compared like a prefix
pub suffix_prefix : (xs ys : List ℕ) → length ys ≤ length xs → has_prefix (drop (length xs - length ys) xs) ys ≡ has_suffix xs ys
unfolding has_suffix
suffix_prefix xs ys h =
    let n = length xs - length ys in
    prefix_equal (drop n xs) ys (omega (arith, length-drop n xs))

pub suffix_rest : (xs ys : List ℕ) → has_suffix xs ys ≡ true → (p : List ℕ) × (xs ≡ p ++ ys)
unfolding has_suffix
suffix_rest xs ys h =
    let n = length xs - length ys in
    (take n xs, sym (take-append-drop n xs) ∙ ap (λ (t : List ℕ). take n xs ++ t) (equal-same (drop n xs) ys h))

pub suffix_append : (p ys : List ℕ) → has_suffix (p ++ ys) ys ≡ true
unfolding has_suffix
suffix_append p ys =
    rw (drop_at p ys (length (p ++ ys) - length ys) (omega (arith, length-append p ys))) (equal_refl ys)

-- ---- infixes

pub infix_found : (xs ys : List ℕ) → has_prefix xs ys ≡ true → has_infix xs ys ≡ true
unfolding has_infix
infix_found [] ys h = h
infix_found (x ∷ xs) ys h = rw h

pub infix_next : (xs ys : List ℕ) → has_prefix xs ys ≡ false → has_infix xs ys ≡ has_infix (drop 1 xs) ys
unfolding has_infix
infix_next [] ys h = refl
infix_next (x ∷ xs) ys h = rw h

pub infix_short : (xs ys : List ℕ) → length xs < length ys → has_infix xs ys ≡ false
unfolding has_infix
infix_short [] ys h = prefix_short [] ys h
infix_short (x ∷ xs) ys h = rw (prefix_short (x ∷ xs) ys h) (infix_short xs ys (omega arith))

-- as `any` over the places where ys has room tries them: from the place i on
module _ (xs ys : List ℕ) (some : 0 < length ys) where
  any_from : (n i : ℕ) → i + n + length ys ≡ length xs + 1 → list_any (λ (at : ℕ). has_prefix (drop at xs) ys) (range_with_len i n) ≡ has_infix (drop i xs) ys
  any_from zero i e = sym (infix_short (drop i xs) ys (omega (arith, length-drop i xs)))
  any_from (suc n) i e =
      ⊎_elim
      (λ (t : has_prefix (drop i xs) ys ≡ true). rw (t, infix_found (drop i xs) ys t))
      (λ (f : has_prefix (drop i xs) ys ≡ false). rw (f, infix_next (drop i xs) ys f, drop-drop 1 i xs) (any_from n (i + 1) (omega arith)))
      (decided (has_prefix (drop i xs) ys))

  pub infix_any : length ys ≤ length xs → list_any (λ (at : ℕ). has_prefix (drop at xs) ys) (range_with_len 0 (length xs - length ys + 1)) ≡ has_infix xs ys
  infix_any h = any_from (length xs - length ys + 1) 0 (omega arith)

pub infix_rest : (xs ys : List ℕ) → has_infix xs ys ≡ true → (p : List ℕ) × (q : List ℕ) × (xs ≡ p ++ (ys ++ q))
unfolding has_infix
infix_rest [] ys h = let r = prefix_rest [] ys h in ([], r.0, r.1)
infix_rest (x ∷ xs) ys h =
    ⊎_elim
    (λ l. let r = prefix_rest (x ∷ xs) ys l in ([], r.0, r.1))
    (λ l. let r = infix_rest xs ys l in (x ∷ r.0, r.1, cons_same refl r.2))
    (or_either (has_prefix (x ∷ xs) ys) (has_infix xs ys) h)

pub infix_append : (p ys q : List ℕ) → has_infix (p ++ (ys ++ q)) ys ≡ true
unfolding has_infix
infix_append [] ys q = infix_found (ys ++ q) ys (prefix_append ys q)
infix_append (x ∷ p) ys q = rw (infix_append p ys q) (or-true (has_prefix (x ∷ (p ++ (ys ++ q))) ys))
