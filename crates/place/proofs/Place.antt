-- Statements: the place and the number of a text, at document 01's limits; a text has one of each.
-- Assumes nothing.
use Prim.Native.Nat.{ℕ, ◌≤◌}
use native.Mathlib.Omega.{arith}
use mathlib.Core.Path.{◌≡◌, refl}
use mathlib.Core.Bool.{Bool, true, false, ◌&&◌}
use mathlib.Core.List.{List, [], ◌∷◌}
use lib.Dec.{eqb, ltb}
use borrow.Author.Tests.{ltb-true, ltb-false}
use Rattle.base.specs.Ascii.{ascii}
use Rattle.base.specs.Lists.{every, equal, member}
use Rattle.base.specs.Digits.{is_digit}
use Rattle.base.specs.Between.{between}
use Rattle.base.specs.Names.{is_letter, is_name_start, is_name_part, is_reserved, is_name}
use Rattle.base.specs.Operators.{operator_words}
use Rattle.syntax.specs.Strings.{is_bare, is_escape}
use Rattle.syntax.specs.Grammar.{deepest, most_tests}
use Rattle.syntax.specs.Scan.{step_of}
use Rattle.place.specs.Begins.{Begins, Longest, Number, number_11, number_12, number_13}
use Rattle.place.specs.Machine.{some_word, begins_operator, is_operator, step, failure_from, failure}
use Rattle.refusal.specs.Answers.{number_of}
use Rattle.place.proofs.Longest.{failure_longest, failure-number}

-- ---- a text's place and number

pub text_place : (xs : List ℕ) → Longest (Begins deepest most_tests) xs (failure deepest most_tests xs).place
text_place xs = failure_longest deepest most_tests xs (omega arith)

pub text_number : (xs : List ℕ) → Number deepest most_tests xs (failure deepest most_tests xs).place (number_of (failure deepest most_tests xs).reason)
text_number xs = failure-number deepest most_tests xs (omega arith)

-- ---- there is one of each

pub longest_unique : {P : List ℕ → Type 0} {xs : List ℕ} {p q : ℕ} → Longest P xs p → Longest P xs q → p ≡ q
longest_unique {P} {xs} {p} {q} a b = go (ltb p q) refl (ltb q p) refl
  where
    go : (c : Bool) → ltb p q ≡ c → (e : Bool) → ltb q p ≡ e → p ≡ q
    go true h e i = absurd (a.none_longer q (ltb-true p q h) b.within b.begins)
    go false h true i = absurd (b.none_longer p (ltb-true q p i) a.within a.begins)
    go false h false i = let u = ltb-false p q h in let v = ltb-false q p i in omega arith

pub number_unique : {d m : ℕ} {xs : List ℕ} {p a b : ℕ} → Number d m xs p a → Number d m xs p b → a ≡ b
number_unique (number_12 x) (number_12 y) = refl
number_unique (number_12 x) (number_13 y n) = absurd (n x)
number_unique (number_12 x) (number_11 y z) = absurd (y x)
number_unique (number_13 x n) (number_12 y) = absurd (n y)
number_unique (number_13 x n) (number_13 y z) = refl
number_unique (number_13 x n) (number_11 y z) = absurd (z x)
number_unique (number_11 x n) (number_12 y) = absurd (x y)
number_unique (number_11 x n) (number_13 y z) = absurd (n y)
number_unique (number_11 x n) (number_11 y z) = refl

pub number_bound : {d m : ℕ} {xs : List ℕ} {p n : ℕ} → Number d m xs p n → n ≤ 13
number_bound (number_12 x) = omega arith
number_bound (number_13 x n) = omega arith
number_bound (number_11 x n) = omega arith

-- ---- vectors

record Row : Type 0 where
  text : List ℕ
  number : ℕ
  place : ℕ

row : List ℕ → ℕ → ℕ → Row
row t n p = record { text = t; number = n; place = p }

agrees : Row → Bool
agrees r = eqb (number_of (failure deepest most_tests r.text).reason) r.number && eqb (failure deepest most_tests r.text).place r.place

all_agree : List Row → Bool
all_agree [] = true
all_agree (r ∷ rs) = agrees r && all_agree rs

vectors : List Row
vectors =
    row (ascii "    ") 11 4 ∷ row (ascii "1") 11 0 ∷ row (ascii "a x") 11 2 ∷ row (ascii "a e") 11 3 ∷ row (ascii "a eqq") 11 4 ∷ row (ascii "a eq ]") 11 5 ∷
    row (ascii "a eq 1]") 11 6 ∷ row (ascii "a eq \"x\"b") 11 8 ∷ row (ascii "a eq \"\\u0041\"") 11 7 ∷ row (ascii "a eq 1 an") 11 9 ∷ row (ascii "a eq 1 ax") 11 8 ∷
    row (ascii "a eq 1)") 11 6 ∷ row (ascii "not a eq 1") 11 4 ∷ row (ascii "and eq 1") 11 3 ∷ row (ascii "((((((((not") 11 11 ∷ row (ascii "((((((((not ") 12 11 ∷
    row (ascii "((((((((not(") 12 11 ∷ row (ascii "((((((((notx eq 1") 11 17 ∷ row (ascii "(((((((((") 12 8 ∷
    row (ascii "b[]") 11 2 ∷ row (ascii "b [") 11 2 ∷ row (ascii "not[") 11 3 ∷ row (ascii "b[a eq 1)") 11 8 ∷ row (ascii "(a eq 1]") 11 7 ∷
    row (ascii "b[a eq 1] ") 11 9 ∷ row (ascii "b[a eq 1].") 11 10 ∷ row (ascii "b[a eq 1].not ") 11 13 ∷ row (ascii "((((((((b[") 12 9 ∷ []

vectors_agree : all_agree vectors ≡ true
unfolding row agrees all_agree vectors failure failure_from step step_of is_bare is_escape member some_word begins_operator is_operator operator_words equal every is_name is_reserved is_name_part is_name_start is_letter between is_digit
vectors_agree = refl
