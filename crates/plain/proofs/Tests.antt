-- A test's text, as its writer puts it: the name, the operator between its spaces, the value.
-- Assumes nothing.
use Prim.Native.Nat.{ℕ, ◌+◌, ◌*◌, ◌≤◌, ◌<◌}
use native.Mathlib.Omega.{arith}
use mathlib.Core.Path.{◌≡◌, refl, sym, ap}
use mathlib.Core.List.{List, [], ◌∷◌, ◌++◌, append_assoc, flatten}
use lib.ListN.{length, get_or}
use Rattle.base.specs.Ascii.{ascii}
use Rattle.base.specs.Lists.{equal}
use Rattle.base.specs.Operators.{operator_words}
use Rattle.base.proofs.Below.{passes_at}
use Rattle.base.proofs.Lists.{equal-same}
use Rattle.syntax.specs.Tree.{Test, name}
use Rattle.syntax.proofs.Operators.{operator_letters}
use Rattle.plain.specs.Plain.{operator_word, plain_value, plain_test}
use Rattle.base.specs.Writing.{Room, Puts}
use Rattle.plain.specs.Writing.{operator_text}
use Rattle.base.proofs.Writing.{room_same, puts_same, lent, back, Wrote, wrote_end, first_room, first-within, second_room, second_wrote, third_room, third_wrote}

-- ---- the operator: its letters stand in one text, from 2 * k on

abbrev pub spaced : List ℕ → ℕ → List ℕ
spaced words k = 0x20 ∷ get_or words (2 * k) 0 ∷ get_or words (2 * k + 1) 0 ∷ 0x20 ∷ []

operator_spelt : (k : ℕ) → k < 19 → spaced operator_letters k ≡ operator_text k
unfolding operator_letters flatten operator_text operator_words equal
operator_spelt k h = equal-same (spaced operator_letters k) (operator_text k) (passes_at (λ (i : ℕ). equal (spaced operator_letters i) (operator_text i)) 19 refl k h)

module _ (words : List ℕ) (k : ℕ) (e : words ≡ operator_letters) (h : k < 19) where
  letters_are : spaced words k ≡ operator_text k
  letters_are = rw e (operator_spelt k h)

  pub operator_room : {out : List ℕ} → Room (operator_text k) out → Room (spaced words k) out
  operator_room = room_same (sym letters_are)

  pub operator_puts : {out exit : List ℕ} {n : ℕ} → Puts (spaced words k) out exit n → Puts (operator_text k) out exit n
  operator_puts = puts_same letters_are

-- ---- a test

module _ (t : Test) (out : List ℕ) (h : Room (plain_test t) out) (word : List ℕ) (named : t.path ≡ name word) (o : ℕ) (is : o ≡ t.operator) where
  test_parts : plain_test t ≡ word ++ (operator_text o ++ plain_value t.value)
  unfolding plain_test operator_text
  test_parts = rw (named, ← is) (ap (λ (x : List ℕ). word ++ (0x20 ∷ x)) (sym (append_assoc (operator_word o) (ascii " ") (plain_value t.value))))

  parts : Room (word ++ (operator_text o ++ plain_value t.value)) out
  parts = room_same test_parts h

  pub name_room : Room word out
  name_room = first_room word (operator_text o ++ plain_value t.value) out parts

  module _ {out₁ : List ℕ} {n : ℕ} (p : Puts word out out₁ n) where
    pub name_within : n ≤ length out₁
    name_within = first-within word (operator_text o ++ plain_value t.value) out parts p

    pub middle_room : Room (operator_text o) (lent out₁ n)
    middle_room = second_room word (operator_text o) (plain_value t.value) out parts p

    module _ {exit : List ℕ} {k : ℕ} (q : Puts (operator_text o) (lent out₁ n) exit k) where
      pub middle_within : n + k ≤ length (back out₁ n exit)
      middle_within = omega (arith, (second_wrote word (operator_text o) (plain_value t.value) out parts p q).within)

      pub value_room : Room (plain_value t.value) (lent (back out₁ n exit) (n + k))
      value_room = third_room word (operator_text o) (plain_value t.value) out parts p q

      module _ {exit₂ : List ℕ} {m : ℕ} (r : Puts (plain_value t.value) (lent (back out₁ n exit) (n + k)) exit₂ m) where
        test_wrote : Wrote (word ++ (operator_text o ++ plain_value t.value)) [] out (back (back out₁ n exit) (n + k) exit₂) (n + k + m)
        test_wrote = third_wrote word (operator_text o) (plain_value t.value) out parts p q r

        pub test_long : length (back (back out₁ n exit) (n + k) exit₂) ≡ length out
        test_long = test_wrote.long

        pub test_within : n + k + m ≤ length out
        test_within = omega (arith, test_wrote.long, test_wrote.within)

        pub test_puts : Puts (plain_test t) out (back (back out₁ n exit) (n + k) exit₂) (n + k + m)
        test_puts = puts_same (sym test_parts) (wrote_end test_wrote refl)
