-- What the scans find lies inside the text, in order, and ahead of where they began.
-- Each scan's answer is taken apart by the tests that the scan made: a run ends between its start and the end of the text
-- (`run_end_within`), and what is derived ends inside the text and ahead of where it begins (`test_rise`, `opens_rise`, `connects_rise`,
-- `closes_rise`). The private laws `-placed` say so of what a scan answers; the public ones say so of an answer that the code was given
-- (`value-at-placed`, `head_test_placed` and the laws `-ahead`).
-- Assumes nothing.
use Rattle.std.specs.Prelude.{Option, Some, None}
use Prim.Native.Nat.{ℕ, ◌+◌, ◌≤◌, ◌<◌}
use native.Mathlib.Omega.{arith}
use mathlib.Core.Path.{◌≡◌, refl, sym, ap, ◌∙◌}
use mathlib.Core.Bool.{Bool, true, false, cond}
use mathlib.Core.List.{List, []}
use lib.Dec.{eqb, ltb}
use lib.ListN.{length, get_or, drop, length-drop}
use borrow.Author.Tests.{ltb-true}
use Rattle.base.specs.Names.{is_name_part, is_name}
use Rattle.base.specs.Parts.{part}
use Rattle.base.specs.Runs.{run_end}
use Rattle.base.proofs.Tests.{cond-elim, both_ways}
use Rattle.base.proofs.Names.{name_empty}
use Rattle.base.proofs.Runs.{run-within}
use Rattle.syntax.specs.Strings.{quote, is_bare}
use Rattle.syntax.specs.Placed.{PlacedValue, Placed}
use Rattle.syntax.specs.Scan.{skip_at, has, member_at, after_close, member_after, choice_at, choice_or, string_at, string_value, value_at, follows, operator_at, with_operator, with_value, test_value, test_operator, name_end, test_at, open_at, test_or, head_at, connective_at, close_at}
use Rattle.syntax.specs.declared.StringEnd.{StringEnd}
use Rattle.syntax.specs.declared.RawValue.{RawValue}
use Rattle.syntax.specs.declared.RawTest.{RawTest}
use Rattle.syntax.specs.declared.Head.{Head}
use Rattle.syntax.specs.declared.Link.{Link}
use Rattle.syntax.proofs.Values.{string-within, string_ahead}
use Rattle.syntax.proofs.Tests.{TestDerived, test_derived, test_rise, name_end_part}
use Prim.Native.Char.{code}
use Rattle.base.specs.Ascii.{ascii}
use Rattle.syntax.proofs.Words.{has_stands, stands_within}
use Rattle.syntax.proofs.Structure.{OpenDerived, open_derived, opens_rise, connective_derived, connects_rise, CloseDerived, close_derived, closes_rise}
use Rattle.syntax.specs.Grammar.{square}

-- ---- values

abbrev ValuePlaced : List ℕ → Option RawValue → Type 0
ValuePlaced xs (Some v) = PlacedValue xs v
ValuePlaced xs None = Unit {0}

run_end_within : (p : ℕ → Bool) (xs : List ℕ) (at : ℕ) → at ≤ length xs → (at ≤ run_end p xs at) × (run_end p xs at ≤ length xs)
unfolding run_end
run_end_within p xs at h = (omega arith, omega (arith, run-within p (drop at xs), length-drop at xs))

string-placed : (xs : List ℕ) (p : ℕ) (f : Option StringEnd) → string_at xs false false (p + 1) ≡ f → p + 1 ≤ length xs → ValuePlaced xs (string_value p f)
string-placed xs p (Some s) i h =
    let k = string-within xs (p + 1) s _ refl i h in
    record { order = string_ahead xs (p + 1) s _ refl i; within = omega arith }
string-placed xs p None i h = tt

value-placed : (xs : List ℕ) (p : ℕ) → ValuePlaced xs (value_at xs p)
unfolding value_at
value-placed xs p =
    cond-elim (ValuePlaced xs) (ltb p (length xs))
    (λ i. let h : p < length xs = ltb-true p (length xs) i in
    let k : p ≤ length xs = omega arith in
    let s : p + 1 ≤ length xs = omega arith in
    cond-elim (ValuePlaced xs) (eqb (get_or xs p 0) quote) (λ q. string-placed xs p (string_at xs false false (p + 1)) refl s)
    (λ q. cond-elim (ValuePlaced xs) (is_bare (get_or xs p 0)) (λ b. let r = run_end_within is_bare xs p k in record { order = r.0; within = r.1 }) (λ b. tt)))
    (λ i. tt)

pub value-at-placed : (xs : List ℕ) (p : ℕ) (f : Option RawValue) (v : RawValue) → f ≡ value_at xs p → f ≡ Some v → PlacedValue xs v
value-at-placed xs p f v e h = rw (sym e ∙ h) at (value-placed xs p)

-- ---- tests

abbrev TestPlaced : List ℕ → Option RawTest → Type 0
TestPlaced xs (Some r) = Placed xs r
TestPlaced xs None = Unit {0}

module _ (xs : List ℕ) (close p e : ℕ) (h : p ≤ e) (i : e ≤ length xs) where
  with_value_lem : (k : ℕ) (f : Option RawValue) → ValuePlaced xs f
      → TestPlaced xs (with_value f λ v. cond (follows close (drop v.next xs)) (Some (record { at = p; until = e; operator = k; value = v })) None)
  with_value_lem k (Some v) q =
      cond-elim (TestPlaced xs) (follows close (drop v.next xs)) (λ f. record { name_order = h; name_within = i; value = q }) (λ f. tt)
  with_value_lem k None q = tt

  value-follows : (k o : ℕ) → TestPlaced xs (test_value xs close p e k o)
  unfolding test_value
  value-follows k o =
      cond-elim (TestPlaced xs) (eqb (skip_at xs o) o) (λ f. tt) (λ f. with_value_lem k (value_at xs (skip_at xs o)) (value-placed xs (skip_at xs o)))

  with_operator_lem : (a : ℕ) (f : Option ℕ) → TestPlaced xs (with_operator f λ k. test_value xs close p e k (a + 2))
  with_operator_lem a (Some k) = value-follows k (a + 2)
  with_operator_lem a None = tt

  operator-follows : TestPlaced xs (test_operator xs close p e)
  unfolding test_operator
  operator-follows =
      cond-elim (TestPlaced xs) (eqb (skip_at xs e) e) (λ f. tt) (λ f. with_operator_lem (skip_at xs e) (operator_at xs (skip_at xs e)))

test_placed : (xs : List ℕ) (close p : ℕ) → p ≤ length xs → TestPlaced xs (test_at xs close p)
unfolding test_at
test_placed xs close p h =
    let r = run_end_within is_name_part xs p h in
    cond-elim (TestPlaced xs) (is_name (part xs p (name_end xs p))) (λ n. operator-follows xs close p (name_end xs p) r.0 r.1) (λ n. tt)

-- ---- what an item begins with, connectives and closing bytes, as the code finds them

abbrev HeadPlaced : List ℕ → ℕ → Option Head → Type 0
HeadPlaced xs p (Some (Head.Test r)) = Placed xs r × (p + 1 ≤ r.value.next) × (r.value.next ≤ length xs)
HeadPlaced xs p (Some (Head.Open q b)) = (p + 1 ≤ q) × (q ≤ length xs)
HeadPlaced xs p (Some (Head.Choice e)) = (p + 1 ≤ e) × (e + 1 ≤ length xs)
HeadPlaced xs p None = Unit {0}

open_placed : (xs : List ℕ) (p : ℕ) (h : Option Head) → OpenDerived xs p h → HeadPlaced xs p h
open_placed xs p (Some (Head.Test r)) o = absurd o
open_placed xs p (Some (Head.Open q b)) o = opens_rise o
open_placed xs p (Some (Head.Choice e)) o = absurd o
open_placed xs p None o = tt

head_or : (xs : List ℕ) (close p : ℕ) (t : Option RawTest) (h : Option Head) → TestPlaced xs t → TestDerived xs close p t → HeadPlaced xs p h → HeadPlaced xs p (test_or t h)
head_or xs close p (Some r) h a b c = let u = test_rise b in (a, u.0, u.1)
head_or xs close p None h a b c = c

name_not_empty : (n : List ℕ) → is_name n ≡ true → length n ≡ 0 → ⊥
name_not_empty n h z = both_ways h (sym (name_empty n z))

abbrev ChoicePlaced : List ℕ → ℕ → Option ℕ → Type 0
ChoicePlaced xs p (Some e) = (p + 1 ≤ e) × (e + 1 ≤ length xs)
ChoicePlaced xs p None = Unit {0}

choice_placed : (xs : List ℕ) (p : ℕ) → p ≤ length xs → ChoicePlaced xs p (choice_at xs p)
unfolding choice_at
choice_placed xs p i =
    let e : ℕ = name_end xs p in
    let r = run_end_within is_name_part xs p i in
    let l : e ≡ p + length (part xs p e) = name_end_part xs p in
    cond-elim (ChoicePlaced xs p) (is_name (part xs p e))
    (λ n. let full = name_not_empty (part xs p e) n in
    cond-elim (ChoicePlaced xs p) (has xs e (ascii "["))
    (λ h. (omega arith, stands_within xs e (code "[") [] (has_stands xs e (ascii "[") h))) (λ h. tt)) (λ n. tt)

choice_or_lem : (xs : List ℕ) (p : ℕ) (c : Option ℕ) (h : Option Head) → ChoicePlaced xs p c → HeadPlaced xs p h → HeadPlaced xs p (choice_or c h)
choice_or_lem xs p (Some e) h a b = a
choice_or_lem xs p None h a b = b

head_placed : (xs : List ℕ) (close p : ℕ) → p ≤ length xs → HeadPlaced xs p (head_at xs close p)
unfolding head_at
head_placed xs close p i =
    head_or xs close p (test_at xs close p) (choice_or (choice_at xs p) (open_at xs p)) (test_placed xs close p i) (test_derived xs close p)
    (choice_or_lem xs p (choice_at xs p) (open_at xs p) (choice_placed xs p i) (open_placed xs p (open_at xs p) (open_derived xs p)))

module _ (xs : List ℕ) (close p : ℕ) (h : Option Head) (e : h ≡ head_at xs close p) (i : p ≤ length xs) (g : Head) (s : h ≡ Some g) where
  pub head_test_placed : (r : RawTest) → g ≡ Head.Test r → Placed xs r × (p + 1 ≤ r.value.next) × (r.value.next ≤ length xs)
  head_test_placed r f = rw (sym e ∙ s ∙ ap Some f) at (head_placed xs close p i)

  pub head_open_ahead : (q : ℕ) (b : Bool) → g ≡ Head.Open q b → (p + 1 ≤ q) × (q ≤ length xs)
  head_open_ahead q b f = rw (sym e ∙ s ∙ ap Some f) at (head_placed xs close p i)

  pub head_choice_ahead : (q : ℕ) → g ≡ Head.Choice q → (p + 1 ≤ q) × (q + 1 ≤ length xs)
  head_choice_ahead q f = rw (sym e ∙ s ∙ ap Some f) at (head_placed xs close p i)

-- the member's test after a bracket
abbrev MemberPlaced : List ℕ → ℕ → Option RawTest → Type 0
MemberPlaced xs p (Some r) = Placed xs r × (p + 1 ≤ r.value.next) × (r.value.next ≤ length xs)
MemberPlaced xs p None = Unit {0}

member_or : (xs : List ℕ) (close p : ℕ) (t : Option RawTest) → TestPlaced xs t → TestDerived xs close (p + 1) t → MemberPlaced xs p t
member_or xs close p (Some r) a b = let u = test_rise b in (a, omega arith, u.1)
member_or xs close p None a b = tt

member-placed : (xs : List ℕ) (close p : ℕ) → MemberPlaced xs p (member_at xs close p)
unfolding member_at
member-placed xs close p =
    cond-elim (MemberPlaced xs p) (has xs p (ascii "."))
    (λ h. member_or xs close p (test_at xs close (p + 1)) (test_placed xs close (p + 1) (stands_within xs p (code ".") [] (has_stands xs p (ascii ".") h))) (test_derived xs close (p + 1))) (λ h. tt)

after_by : (xs : List ℕ) (close p : ℕ) (c : Option ℕ) → CloseDerived xs square p c → MemberPlaced xs p (after_close xs close c)
after_by xs close p (Some m) d = further (member_at xs close m) (member-placed xs close m)
  where
    further : (t : Option RawTest) → MemberPlaced xs m t → MemberPlaced xs p t
    further (Some r) h = (h.0, omega (arith, h.1, closes_rise d), h.2)
    further None h = tt
after_by xs close p None d = tt

after-placed : (xs : List ℕ) (close p : ℕ) → MemberPlaced xs p (member_after xs close p)
unfolding member_after
after-placed xs close p = after_by xs close p (close_at xs square p) (close_derived xs square p)

pub member_ahead : (xs : List ℕ) (close p : ℕ) (f : Option RawTest) → f ≡ member_after xs close p → (r : RawTest) → f ≡ Some r → Placed xs r × (p + 1 ≤ r.value.next) × (r.value.next ≤ length xs)
member_ahead xs close p f e r h = rw (sym e ∙ h) at (after-placed xs close p)

pub connective_ahead : (xs : List ℕ) (p : ℕ) (l : Link) (f : Option Link) → f ≡ connective_at xs p → f ≡ Some l → (p + 1 ≤ l.next) × (l.next ≤ length xs)
connective_ahead xs p l f e h = connects_rise (rw (sym e ∙ h) at (connective_derived xs p))

pub close_ahead : (xs : List ℕ) (close p q : ℕ) (f : Option ℕ) → f ≡ close_at xs close p → f ≡ Some q → (p + 1 ≤ q) × (q ≤ length xs)
close_ahead xs close p q f e h = closes_rise (rw (sym e ∙ h) at (close_derived xs close p))

pub close_within : (xs : List ℕ) (close p q : ℕ) (f : Option ℕ) → f ≡ close_at xs close p → f ≡ Some q → q ≤ length xs
close_within xs close p q f e h = (close_ahead xs close p q f e h).1

-- ---- one fact each, as a search asks for it

pub member_in_place : (xs : List ℕ) (close p : ℕ) (f : Option RawTest) → f ≡ member_after xs close p → (r : RawTest) → f ≡ Some r → Placed xs r
member_in_place xs close p f e r h = (member_ahead xs close p f e r h).0

module _ (xs : List ℕ) (close p : ℕ) (h : Option Head) (e : h ≡ head_at xs close p) (i : p ≤ length xs) (g : Head) (s : h ≡ Some g) where
  pub test_in_place : (r : RawTest) → g ≡ Head.Test r → Placed xs r
  test_in_place r f = (head_test_placed xs close p h e i g s r f).0

  module _ (q : ℕ) (f : g ≡ Head.Choice q) where
    pub head_choice_order : p ≤ q
    head_choice_order = omega (arith, head_choice_ahead xs close p h e i g s q f)

    pub head_choice_within : q < length xs
    head_choice_within = omega (arith, head_choice_ahead xs close p h e i g s q f)
