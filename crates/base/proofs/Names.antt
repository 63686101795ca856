-- Laws of names: what the code's tests decide, and the rule's words.
-- Assumes nothing.
use Prim.Native.Nat.{ℕ, ◌-◌, ◌≤◌}
use native.Mathlib.Omega.{arith}
use mathlib.Core.Path.{◌≡◌, refl, ap, sym, ◌∙◌, subst}
use mathlib.Core.Bool.{Bool, true, false, not, ◌&&◌, ◌||◌, false≢true}
use mathlib.Core.Logic.{◌↔◌, ⊎_elim}
use mathlib.Core.List.{List, [], ◌∷◌}
use lib.Dec.{eqb}
use lib.ListN.{length, take, drop, get_or}
use borrow.Author.Tests.{not-true, eqb-true}
use Rattle.base.specs.Ascii.{ascii}
use Rattle.base.specs.Bytes.{Byte, Bytes}
use Rattle.base.specs.Digits.{is_digit}
use Rattle.base.specs.Lists.{all_cons, every, equal}
use Rattle.base.specs.Between.{between}
use Rattle.base.specs.Names.{is_letter, is_name_start, is_name_part, is_reserved, is_name, Name}
use Rattle.base.proofs.Between.{between_high}
use Rattle.base.proofs.Tests.{and_left, and_right, or_either, both_ways}
use Rattle.base.proofs.All.{all_map}
use Rattle.base.proofs.Digits.{digit_high}
use Rattle.base.proofs.Lists.{rest, every_all, all_every, equal_not}

-- ---- what the tests of a name decide

pub name_empty : (n : List ℕ) → length n ≡ 0 → false ≡ is_name n
unfolding is_name
name_empty [] h = refl
name_empty (x ∷ xs) h = absurd (omega arith)

-- the tests on bytes that are not empty
pub name_tests : (n : List ℕ) → 1 ≤ length n
    → is_name n ≡ (is_name_start (get_or n 0 0) && (every is_name_part (take (length n - 1) (drop 1 n)) && not (is_reserved n)))
unfolding is_name
name_tests [] h = absurd (omega arith)
name_tests (x ∷ xs) h = rw (rest (x ∷ xs) 1)

module _ (n : List ℕ) (h : length n ≡ 0 → ⊥) (r : Bool) (e : r ≡ is_name_start (get_or n 0 0)) where
  longer : 1 ≤ length n
  longer = omega (arith, h)

  pub name-start_not : r ≡ false → false ≡ is_name n
  name-start_not f = rw (name_tests n longer, sym e ∙ f)

  pub name_not_reserved : r ≡ true → (s : Bool) → s ≡ every is_name_part (take (length n - 1) (drop 1 n)) → s ≡ true → (w : Bool) → w ≡ is_reserved n → not w ≡ is_name n
  name_not_reserved t s d p w k = rw (name_tests n longer, sym e ∙ t, sym d ∙ p, k)

-- ---- the rule's words

-- the bytes are not the word w, which is reserved
not_word : (n w : List ℕ) → is_reserved w ≡ true → not (is_reserved n) ≡ true → n ≡ w → ⊥
not_word n w r h e = both_ways (ap is_reserved e ∙ r) (not-true (is_reserved n) h)

-- the test is the rule
name_there : (n : List ℕ) → is_name n ≡ true → Name n
unfolding is_name
name_there [] h = absurd (false≢true h)
name_there (x ∷ xs) h =
    let t = and_right (is_name_start x) (every is_name_part xs && not (is_reserved (x ∷ xs))) h in
    let r = and_right (every is_name_part xs) (not (is_reserved (x ∷ xs))) t in
    record {
      first = x;
      rest = xs;
      spelt = refl;
      starts = and_left (is_name_start x) (every is_name_part xs && not (is_reserved (x ∷ xs))) h;
      goes_on = every_all is_name_part xs (and_left (every is_name_part xs) (not (is_reserved (x ∷ xs))) t);
      not_and = not_word (x ∷ xs) (ascii "and") (unfold is_reserved equal in refl) r;
      not_or = not_word (x ∷ xs) (ascii "or") (unfold is_reserved equal in refl) r;
      not_not = not_word (x ∷ xs) (ascii "not") (unfold is_reserved equal in refl) r;
    }

not_reserved : (n : List ℕ) → (n ≡ ascii "and" → ⊥) → (n ≡ ascii "or" → ⊥) → (n ≡ ascii "not" → ⊥) → not (is_reserved n) ≡ true
unfolding is_reserved
not_reserved n a o t =
    rw (equal_not n (ascii "and") a, equal_not n (ascii "or") o, equal_not n (ascii "not") t)

name_back : (n : List ℕ) → Name n → is_name n ≡ true
unfolding is_name
name_back n h =
    let r : not (is_reserved (h.first ∷ h.rest)) ≡ true = ap (λ (l : List ℕ). not (is_reserved l)) (sym h.spelt) ∙ not_reserved n h.not_and h.not_or h.not_not in
    ap is_name h.spelt ∙ rw (h.starts, all_every is_name_part h.rest h.goes_on, r)

pub name_iff : (n : List ℕ) → (is_name n ≡ true) ↔ Name n
name_iff n = (name_there n, name_back n)

-- ---- the bytes of a name

letter-byte : (b : ℕ) → is_letter b ≡ true → Byte b
unfolding is_letter
letter-byte b h =
    ⊎_elim (λ k. omega (arith, between_high 65 90 b k)) (λ k. omega (arith, between_high 97 122 b k)) (or_either (between 65 90 b) (between 97 122 b) h)

start-byte : (b : ℕ) → is_name_start b ≡ true → Byte b
unfolding is_name_start
start-byte b h = ⊎_elim (λ k. omega (arith, eqb-true b 95 k)) (letter-byte b) (or_either (eqb b 95) (is_letter b) h)

part-byte : (b : ℕ) → is_name_part b ≡ true → Byte b
unfolding is_name_part
part-byte b h =
    ⊎_elim (start-byte b)
    (λ k. ⊎_elim (λ e. omega (arith, eqb-true b 45 e)) (λ d. omega (arith, digit_high b d)) (or_either (eqb b 45) (is_digit b) k))
    (or_either (is_name_start b) (eqb b 45 || is_digit b) h)

pub name-bytes : (n : List ℕ) → Name n → Bytes n
name-bytes n h = subst Bytes (sym h.spelt) (all_cons (start-byte h.first h.starts) (all_map part-byte h.goes_on))

-- a name is not empty
pub name-length : (n : List ℕ) → Name n → 1 ≤ length n
name-length n h = omega (arith, ap length h.spelt)
