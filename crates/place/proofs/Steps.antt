-- The machine's step, phase by phase, where it stays live.
-- One law for each phase and each byte that may come there: the machine's step, rewritten by what its tests say of that byte. Walks over a
-- filter (Walking) and the completion of one (Good) are put together from these.
-- Assumes nothing.
use Prim.Native.Nat.{ℕ, suc, ◌<◌}
use Prim.Native.Char.{code}
use mathlib.Core.Path.{◌≡◌, refl}
use mathlib.Core.Bool.{true, false, ◌&&◌, not}
use mathlib.Core.List.{List, [], ◌∷◌, ◌++◌}
use lib.Dec.{eqb, leb}
use lib.ListN.{length}
use borrow.Author.Tests.{eq-eqb, ne_eqb, lt-ltb, not-true}
use Rattle.base.specs.Ascii.{ascii}
use Rattle.base.specs.Lists.{every, equal}
use Rattle.base.specs.Digits.{is_digit}
use Rattle.base.specs.Between.{between}
use Rattle.base.specs.Names.{is_letter, is_name_start, is_name_part, is_reserved, is_name}
use Rattle.base.proofs.Tests.{and_left, and_right, apart}
use Rattle.syntax.specs.Strings.{quote, backslash, is_bare, is_plain, is_escape}
use Rattle.syntax.specs.Scan.{step_of}
use Rattle.place.specs.Machine.{Phase, at_item, in_name, after_not, after-name, in_operator, after_operator, at_value, in_bare, in-string, after_item, after-space, in_connective, after_square, at_member, in_member, Bracket, round_open, square-open, close_of, closed_phase, state, live, begins_operator, is_operator, connective_left, step}

-- a byte that a bare word may have is no space
pub bare_no_space : (b : ℕ) → is_bare b ≡ true → eqb b 0x20 ≡ false
unfolding is_bare
bare_no_space b h = apart is_bare b 0x20 h refl

-- an item has ended
pub data Ended : Phase → Type 0 where
  ended_bare : Ended in_bare
  ended_item : Ended after_item

module _ (d m : ℕ) (k : List Bracket) (n : ℕ) where
  -- ---- items and names

  pub item_space : step d m (state at_item k n) 0x20 ≡ live (state at_item k n)
  unfolding step
  item_space = refl

  pub item_opens : length k < d → step d m (state at_item k n) (code "(") ≡ live (state at_item (round_open ∷ k) n)
  unfolding step
  item_opens h = rw (lt-ltb (length k) d h)

  pub name-starts : (b : ℕ) → is_name_start b ≡ true → step d m (state at_item k n) b ≡ live (state (in_name (b ∷ [])) k n)
  unfolding step is_name_start is_letter between
  name-starts b h = rw (apart is_name_start b 0x20 h refl, apart is_name_start b (code "(") h refl, h)

  pub name-part : (w : List ℕ) (b : ℕ) → is_name_part b ≡ true → step d m (state (in_name w) k n) b ≡ live (state (in_name (w ++ (b ∷ []))) k n)
  unfolding step
  name-part w b h = rw h

  pub name_space : (w : List ℕ) → is_name w ≡ true → step d m (state (in_name w) k n) 0x20 ≡ live (state after-name k n)
  unfolding step is_name_part is_name_start is_letter between is_digit
  name_space w h = rw h

  pub name_chooses : (w : List ℕ) → is_name w ≡ true → length k < d → n < m → step d m (state (in_name w) k n) (code "[") ≡ live (state at_item (square-open ∷ k) (suc n))
  unfolding step is_name_part is_name_start is_letter between is_digit
  name_chooses w h l c = rw (h, lt-ltb (length k) d l, lt-ltb n m c)

  pub not_space : length k < d → step d m (state (in_name (ascii "not")) k n) 0x20 ≡ live (state after_not k n)
  unfolding step is_name_part is_name_start is_letter between is_digit is_name every is_reserved equal
  not_space h = rw (lt-ltb (length k) d h)

  pub not_opens : length k < d → step d m (state (in_name (ascii "not")) k n) (code "(") ≡ live (state at_item (round_open ∷ k) n)
  unfolding step is_name_part is_name_start is_letter between is_digit is_name every is_reserved equal
  not_opens h = rw (lt-ltb (length k) d h)

  pub after_not_space : length k < d → step d m (state after_not k n) 0x20 ≡ live (state after_not k n)
  unfolding step
  after_not_space h = rw (lt-ltb (length k) d h)

  pub after_not_opens : length k < d → step d m (state after_not k n) (code "(") ≡ live (state at_item (round_open ∷ k) n)
  unfolding step
  after_not_opens h = rw (lt-ltb (length k) d h)

  -- ---- operators

  pub after-name_space : step d m (state after-name k n) 0x20 ≡ live (state after-name k n)
  unfolding step
  after-name_space = refl

  pub first-letter : (x : ℕ) → eqb x 0x20 ≡ false → begins_operator x ≡ true → step d m (state after-name k n) x ≡ live (state (in_operator x) k n)
  unfolding step
  first-letter x s h = rw (s, h)

  pub second-letter : (x y : ℕ) → is_operator (x ∷ y ∷ []) ≡ true → step d m (state (in_operator x) k n) y ≡ live (state after_operator k n)
  unfolding step
  second-letter x y h = rw h

  pub operator_space : step d m (state after_operator k n) 0x20 ≡ live (state at_value k n)
  unfolding step
  operator_space = refl

  -- ---- values

  pub value_space : step d m (state at_value k n) 0x20 ≡ live (state at_value k n)
  unfolding step
  value_space = refl

  pub bare_starts : (b : ℕ) → is_bare b ≡ true → (b ≡ quote → ⊥) → step d m (state at_value k n) b ≡ live (state in_bare k n)
  unfolding step
  bare_starts b h q = rw (bare_no_space b h, ne_eqb b quote q, h)

  pub bare_part : (b : ℕ) → is_bare b ≡ true → step d m (state in_bare k n) b ≡ live (state in_bare k n)
  unfolding step
  bare_part b h = rw h

  pub quote_opens : step d m (state at_value k n) quote ≡ live (state (in-string false) k n)
  unfolding step
  quote_opens = refl

  pub plain-part : (b : ℕ) → is_plain b ≡ true → step d m (state (in-string false) k n) b ≡ live (state (in-string false) k n)
  unfolding step step_of is_plain
  plain-part b h =
      let l : leb 0x20 b ≡ true = and_left (leb 0x20 b) _ h in
      let r = and_right (leb 0x20 b) (not (eqb b quote) && not (eqb b backslash)) h in
      let q : eqb b quote ≡ false = not-true _ (and_left (not (eqb b quote)) _ r) in
      let s : eqb b backslash ≡ false = not-true _ (and_right (not (eqb b quote)) _ r) in
      rw (q, s, l)

  pub backslash-part : step d m (state (in-string false) k n) backslash ≡ live (state (in-string true) k n)
  unfolding step step_of
  backslash-part = refl

  pub escape_part : (b : ℕ) → is_escape b ≡ true → step d m (state (in-string true) k n) b ≡ live (state (in-string false) k n)
  unfolding step step_of
  escape_part b h = rw h

  pub quote_closes : step d m (state (in-string false) k n) quote ≡ live (state after_item k n)
  unfolding step step_of
  quote_closes = refl

  -- ---- after an item

  pub ended_space : {e : Phase} → Ended e → step d m (state e k n) 0x20 ≡ live (state after-space k n)
  unfolding step is_bare
  ended_space ended_bare = refl
  ended_space ended_item = refl

  pub ended_closes : {e : Phase} → Ended e → (s : Bracket) → step d m (state e (s ∷ k) n) (close_of s) ≡ live (state (closed_phase s) k n)
  unfolding step is_bare
  ended_closes ended_bare round_open = refl
  ended_closes ended_bare square-open = refl
  ended_closes ended_item round_open = refl
  ended_closes ended_item square-open = refl

  pub spaced_space : step d m (state after-space k n) 0x20 ≡ live (state after-space k n)
  unfolding step
  spaced_space = refl

  pub spaced_closes : (s : Bracket) → step d m (state after-space (s ∷ k) n) (close_of s) ≡ live (state (closed_phase s) k n)
  unfolding step
  spaced_closes round_open = refl
  spaced_closes square-open = refl

  pub spaced_and : n < m → step d m (state after-space k n) (code "a") ≡ live (state (in_connective (ascii "nd ")) k (suc n))
  unfolding step
  spaced_and h = rw (lt-ltb n m h)

  pub spaced_or : n < m → step d m (state after-space k n) (code "o") ≡ live (state (in_connective (ascii "r ")) k (suc n))
  unfolding step
  spaced_or h = rw (lt-ltb n m h)

  pub connective_part : (x : ℕ) (w : List ℕ) → step d m (state (in_connective (x ∷ w)) k n) x ≡ live (state (connective_left w) k n)
  unfolding step
  connective_part x w = rw (eq-eqb x x refl)

  -- ---- members

  pub square_dot : step d m (state after_square k n) (code ".") ≡ live (state at_member k n)
  unfolding step
  square_dot = refl

  pub member-starts : (b : ℕ) → is_name_start b ≡ true → step d m (state at_member k n) b ≡ live (state (in_member (b ∷ [])) k n)
  unfolding step
  member-starts b h = rw h

  pub member-part : (w : List ℕ) (b : ℕ) → is_name_part b ≡ true → step d m (state (in_member w) k n) b ≡ live (state (in_member (w ++ (b ∷ []))) k n)
  unfolding step
  member-part w b h = rw h

  pub member_space : (w : List ℕ) → is_name w ≡ true → step d m (state (in_member w) k n) 0x20 ≡ live (state after-name k n)
  unfolding step is_name_part is_name_start is_letter between is_digit
  member_space w h = rw h
