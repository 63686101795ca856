-- Laws of readable tokens, as the code tests them.
-- Assumes nothing.
use mathlib.Core.Path.{◌≡◌, refl, sym, ap, subst, ◌∙◌}
use Prim.Native.Nat.{ℕ, ◌+◌, ◌-◌, ◌≤◌, ◌<◌}
use native.Mathlib.Omega.{arith}
use mathlib.Core.Bool.{Bool, true, false, not}
use mathlib.Core.List.{List, [], ◌∷◌}
use mathlib.Core.Logic.{inl, inr, ⊎_elim}
use lib.Dec.{eqb, ltb}
use lib.ListN.{length, get_or, take, drop, length-drop}
use lib.Seq.{length-take-le}
use borrow.Author.Tests.{lt-ltb, ltb-true, ltb-false, eq-eqb, eqb-true, eqb-false}
use Rattle.base.specs.Options.{is_some}
use Rattle.base.proofs.Tests.{decided, same_test, both_ways}
use Rattle.base.specs.Runs.{run, differs}
use Rattle.base.proofs.Lists.{rest}
use Rattle.text.specs.Bar.{bar}
use Rattle.base.specs.Split.{first_of, whole, parts}
use Rattle.base.proofs.Split.{split_none, split_parts}
use Rattle.token.specs.Card.{token_of, split_token, card_token, card_readable}
use Rattle.token.specs.Filter.{split_form, form_at, readable_at, filter_readable}
use Rattle.token.proofs.Split.{split_at_none, split_at_parts}
use Rattle.token.proofs.Readings.{filter_unreadable_iff}

-- ---- cards

token_of-readable : (s c : List ℕ) → is_some (token_of s c) ≡ ltb 0 (length c)
unfolding token_of
token_of-readable s [] = refl
token_of-readable s (x ∷ c) = sym (lt-ltb 0 (length (x ∷ c)) (omega arith))

-- one number is below another exactly when something is left
ltb-left : (m n : ℕ) → ltb m n ≡ ltb 0 (n - m)
ltb-left m n =
    same_test (ltb m n) (ltb 0 (n - m)) (λ p. lt-ltb 0 (n - m) (omega (arith, ltb-true m n p))) (λ p. lt-ltb m n (omega (arith, ltb-true 0 (n - m) p)))

module _ (t : List ℕ) (i : ℕ) (e : i ≡ first_of bar t) where
  pub card-readable_no_bar : length t ≤ i → ltb 0 (length t) ≡ card_readable t
  unfolding card_readable card_token split_token
  card-readable_no_bar h = rw (split_none bar t i e h) (sym (token_of-readable [] t))

  pub card-readable-at-bar : i < length t → ltb (i + 1) (length t) ≡ card_readable t
  unfolding card_readable card_token split_token
  card-readable-at-bar h =
      rw (split_parts bar t i e h, rest t (i + 1), token_of-readable (take i t) (drop (i + 1) t), length-drop (i + 1) t)
      (ltb-left (i + 1) (length t))

-- where the first bar is found there is one
bar_stands : (t : List ℕ) → first_of bar t < length t → get_or t (first_of bar t) 0 ≡ bar
unfolding run
bar_stands [] h = absurd (omega (arith, h))
bar_stands (x ∷ t) h = by_byte (bar_stands t) (eqb x bar) refl
  where
    by_byte : (first_of bar t < length t → get_or t (first_of bar t) 0 ≡ bar) → (w : Bool) → eqb x bar ≡ w → get_or (x ∷ t) (run (differs bar) (x ∷ t)) 0 ≡ bar
    by_byte later true e = rw e (eqb-true x bar e)
    by_byte later false e = let k = rw e at h in rw e (later (omega (arith, k)))

-- a text that is not empty and whose last byte is no bar
module _ (t : List ℕ) (l : (length t ≡ 0) → ⊥) (last : ℕ) (e : last ≡ length t - 1) (n : get_or t last 0 ≡ bar → ⊥) where
  pub card-ends_in_code : true ≡ card_readable t
  card-ends_in_code = by_place (ltb (first_of bar t) (length t)) refl
    where
      by_place : (w : Bool) → ltb (first_of bar t) (length t) ≡ w → true ≡ card_readable t
      by_place true p =
          let inside : first_of bar t < length t = ltb-true (first_of bar t) (length t) p in
          let other : first_of bar t ≡ last → ⊥ = λ q. n (subst (λ (k : ℕ). get_or t k 0 ≡ bar) q (bar_stands t inside)) in
          sym (lt-ltb (first_of bar t + 1) (length t) (omega (arith, inside, other, e))) ∙ card-readable-at-bar t (first_of bar t) refl inside
      by_place false p =
          let past : length t ≤ first_of bar t = ltb-false (first_of bar t) (length t) p in
          let some : 0 < length t = omega (arith, l) in
          sym (lt-ltb 0 (length t) some) ∙ card-readable_no_bar t (first_of bar t) refl past

pub ends_empty : (t : List ℕ) → false ≡ true → true ≡ card_readable t
ends_empty t h = both_ways h refl

pub ends_code : (t : List ℕ) → (length t ≡ 0 → ⊥) → (r : Bool) → r ≡ not (eqb (get_or t (length t - 1) 0) bar) → r ≡ true → true ≡ card_readable t
ends_code t l r g h =
    card-ends_in_code t l (length t - 1) refl (λ z. absurd (both_ways h (g ∙ ap not (eq-eqb (get_or t (length t - 1) 0) bar z))))

pub code_readable : (t : List ℕ) (r : Bool) → (r ≡ true → true ≡ card_readable t) → r ≡ true → true ≡ card_readable t
code_readable t r h y = h y

-- ---- filters

readable_otherwise : (t : List ℕ) → (t ≡ [] → ⊥) → (t ≡ bar ∷ [] → ⊥) → true ≡ filter_readable t
readable_otherwise t a b =
    ⊎_elim (λ h. sym h) (λ h. absurd (⊎_elim a b ((filter_unreadable_iff t).0 h))) (decided (filter_readable t))

pub filter_readable_empty : (t : List ℕ) → length t ≡ 0 → false ≡ filter_readable t
filter_readable_empty [] h = sym ((filter_unreadable_iff []).1 (inl refl))
filter_readable_empty (x ∷ t) h = absurd (omega arith)

pub filter_readable_long : (t : List ℕ) → 1 < length t → true ≡ filter_readable t
filter_readable_long t h = readable_otherwise t (λ e. omega (arith, ap length e)) (λ e. omega (arith, ap length e))

filter_readable-byte : (x : ℕ) → not (eqb x bar) ≡ filter_readable (x ∷ [])
filter_readable-byte x =
    ⊎_elim
    (λ h. rw h (sym ((filter_unreadable_iff (x ∷ [])).1 (inr (rw (eqb-true x bar h))))))
    (λ h. rw h (readable_otherwise (x ∷ []) (λ e. omega (arith, ap length e)) (λ e. eqb-false x bar h (ap (λ (l : List ℕ). get_or l 0 0) e))))
    (decided (eqb x bar))

pub filter_readable_single : (t : List ℕ) → (length t ≡ 0 → ⊥) → length t ≤ 1 → not (eqb (get_or t 0 0) bar) ≡ filter_readable t
filter_readable_single [] h k = absurd (h refl)
filter_readable_single (x ∷ []) h k = filter_readable-byte x
filter_readable_single (x ∷ y ∷ t) h k = absurd (omega arith)

-- ---- split at an index

parts_readable : (s c : List ℕ) → is_some (split_form (parts s c)) ≡ ltb 0 (length s + length c)
unfolding split_form
parts_readable [] [] = refl
parts_readable [] (x ∷ c) = sym (lt-ltb 0 (0 + length (x ∷ c)) (omega arith))
parts_readable (y ∷ s) [] = sym (lt-ltb 0 (length (y ∷ s) + 0) (omega arith))
parts_readable (y ∷ s) (x ∷ c) = sym (lt-ltb 0 (length (y ∷ s) + length (x ∷ c)) (omega arith))

whole-readable : (c : List ℕ) → is_some (split_form (whole c)) ≡ ltb 0 (length c)
unfolding split_form
whole-readable [] = refl
whole-readable (x ∷ c) = sym (lt-ltb 0 (length (x ∷ c)) (omega arith))

module _ (t : List ℕ) (i : ℕ) where
  pub readable-at-bar : i < length t → ltb 1 (length t) ≡ readable_at i t
  unfolding readable_at form_at
  readable-at-bar h =
      let size : length (take i t) + (length t - (i + 1)) ≡ length t - 1 = omega (arith, length-take-le i t (omega arith)) in
      rw (split_at_parts t i h, rest t (i + 1), parts_readable (take i t) (drop (i + 1) t), length-drop (i + 1) t, size) (ltb-left 1 (length t))

  pub readable-at_none : length t ≤ i → ltb 0 (length t) ≡ readable_at i t
  unfolding readable_at form_at
  readable-at_none h = rw (split_at_none t i h) (sym (whole-readable t))
