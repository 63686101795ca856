-- Tests: the scans find what the grammar asks for, and all of it.
-- Both directions go through the parts of a test: name, gap, operator, gap, value, and what follows. Where a test is derived each scan
-- stops where the part ends (`test_found`): a space ends the run of a name (`gap_name_end`, `name_end_lem`), the operator and the value begin
-- with no space, so skipping spaces stops there, and what follows a value is no part of a bare word (`value_found` of file Values). Where a
-- test is found, each scan has given its part of the derivation (`test_derived`). Then a law for each way through the code.
-- Assumes nothing.
use Rattle.std.specs.Prelude.{Option, Some, None}
use Prim.Native.Nat.{ℕ, ◌+◌, ◌-◌, ◌≤◌, ◌<◌}
use native.Mathlib.Omega.{arith}
use mathlib.Core.Path.{◌≡◌, refl, sym, ap, subst, ◌∙◌}
use mathlib.Core.Bool.{Bool, true, false, cond, not, or-true}
use mathlib.Core.List.{List, [], ◌∷◌}
use mathlib.Core.Logic.{⊎_elim}
use lib.Dec.{eqb}
use lib.ListN.{length, get_or, take, drop}
use lib.Seq.{drop-cons, drop-length, length-take-le}
use borrow.Author.Tests.{eqb-true, eq-eqb, ne_eqb}
use Rattle.base.specs.Lists.{All, all_cons, every}
use Rattle.base.specs.Digits.{is_digit}
use Rattle.base.specs.Between.{between}
use Rattle.base.specs.Names.{is_letter, is_name_start, is_name_part, is_reserved, is_name, Name}
use Rattle.base.specs.Parts.{part}
use Rattle.base.specs.Runs.{run, run_end, RunEnd}
use Rattle.base.proofs.Tests.{and_right, or_either, or_left, apart, cond-elim}
use Rattle.base.proofs.Lists.{rest}
use Rattle.base.proofs.Names.{name_iff, name_empty, name-start_not, name_not_reserved}
use Rattle.base.proofs.Parts.{part_length, part_cons}
use Rattle.base.proofs.Runs.{run-within, run_take, run_then}
use Rattle.syntax.specs.Strings.{is_bare}
use Rattle.syntax.specs.Tree.{Test}
use Rattle.syntax.specs.Grammar.{Stands, Gap, gap, Follows, the_end, a_space, a_close, Operator, TestAt, a_test}
use Rattle.syntax.specs.Scan.{is_space, skip_at, value_at, follows, operator_at, with_operator, with_value, test_value, test_operator, name_end, test_at, test_of}
use Rattle.syntax.specs.declared.RawValue.{RawValue}
use Rattle.syntax.specs.declared.RawTest.{RawTest}
use Rattle.syntax.proofs.Words.{NoSpaceAt, stands_after, stands_no_space, taken_stands, skip_gap, gap_skip, gap_rise}
use Rattle.syntax.proofs.Operators.{operator_derives, operator-found, operator_no_space, operator_rise}
use Rattle.syntax.proofs.Values.{part_at, value_derives, value_found, value_no_space, value_rise}

-- ---- what follows a value

pub follows_derives : (close : ℕ) (t : List ℕ) → follows close t ≡ true → Follows close t
unfolding follows
follows_derives close [] h = the_end
follows_derives close (x ∷ t) h =
    ⊎_elim (λ (e : eqb x 0x20 ≡ true). rw (eqb-true x 0x20 e) a_space) (λ (e : eqb x close ≡ true). rw (eqb-true x close e) a_close)
    (or_either (eqb x 0x20) (eqb x close) h)

pub follows-found : {close : ℕ} {t : List ℕ} → Follows close t → follows close t ≡ true
unfolding follows
follows-found the_end = refl
follows-found a_space = refl
follows-found {close} (a_close {xs = xs}) = rw (eq-eqb close close refl) (or-true (eqb close 0x20))

-- ---- a test that is found is one

abbrev pub TestDerived : List ℕ → ℕ → ℕ → Option RawTest → Type 0
TestDerived xs close p (Some r) = TestAt xs close p r.value.next (test_of xs r)
TestDerived xs close p None = Unit {0}

module _ (xs : List ℕ) (close p e : ℕ) (l : e ≡ p + length (part xs p e)) (s : Stands xs p (part xs p e)) (n : Name (part xs p e)) where
  value-follows : (a k : ℕ) → Gap xs e a → Operator xs a k → (b : ℕ) → Gap xs (a + 2) b → (f : Option RawValue) → value_at xs b ≡ f
      → TestDerived xs close p (with_value f λ v. cond (follows close (drop v.next xs)) (Some (record { at = p; until = e; operator = k; value = v })) None)
  value-follows a k g o b h (Some v) i =
      cond-elim (TestDerived xs close p) (follows close (drop v.next xs))
      (λ f. a_test s n (subst (λ (m : ℕ). Gap xs m a) l g) o h (value_derives xs b v i) (follows_derives close (drop v.next xs) f))
      (λ f. tt)
  value-follows a k g o b h None i = tt

  operator-follows : (a : ℕ) → Gap xs e a → (f : Option ℕ) → operator_at xs a ≡ f → TestDerived xs close p (with_operator f λ k. test_value xs close p e k (a + 2))
  unfolding test_value
  operator-follows a g (Some k) i =
      cond-elim (TestDerived xs close p) (eqb (skip_at xs (a + 2)) (a + 2)) (λ f. tt)
      (λ f. value-follows a k g (operator_derives xs a k i) (skip_at xs (a + 2)) (skip_gap xs (a + 2) f) (value_at xs (skip_at xs (a + 2))) refl)
  operator-follows a g None i = tt

  name-follows : TestDerived xs close p (test_operator xs close p e)
  unfolding test_operator
  name-follows =
      cond-elim (TestDerived xs close p) (eqb (skip_at xs e) e) (λ f. tt)
      (λ f. operator-follows (skip_at xs e) (skip_gap xs e f) (operator_at xs (skip_at xs e)) refl)

pub name_end_part : (xs : List ℕ) (p : ℕ) → name_end xs p ≡ p + length (part xs p (name_end xs p))
unfolding run_end
name_end_part xs p =
    let k : p + run is_name_part (drop p xs) - p ≡ run is_name_part (drop p xs) = omega arith in
    rw k (ap (λ (m : ℕ). p + m) (sym (length-take-le (run is_name_part (drop p xs)) (drop p xs) (run-within is_name_part (drop p xs)))))

pub test_derived : (xs : List ℕ) (close p : ℕ) → TestDerived xs close p (test_at xs close p)
unfolding test_at
test_derived xs close p =
    cond-elim (TestDerived xs close p) (is_name (part xs p (name_end xs p)))
    (λ n. name-follows xs close p (name_end xs p) (name_end_part xs p) (taken_stands xs p (name_end xs p - p)) ((name_iff (part xs p (name_end xs p))).0 n))
    (λ n. tt)

-- ---- a test is found, up to its end

pub record TestFound (xs : List ℕ) (close p q : ℕ) (t : Test) : Type 0 where
  pub raw : RawTest
  pub found : test_at xs close p ≡ Some raw
  pub ends : raw.value.next ≡ q
  pub is : test_of xs raw ≡ t

name_parts : (n : List ℕ) → Name n → All (λ (x : ℕ). is_name_part x ≡ true) n
unfolding is_name_part
name_parts n h =
    subst (All (λ (x : ℕ). is_name_part x ≡ true)) (sym h.spelt) (all_cons (or_left (is_name_start h.first) _ h.starts) h.goes_on)

-- a name ends where a space stands
gap_name_end : {xs : List ℕ} {p a : ℕ} → Gap xs p a → run is_name_part (drop p xs) ≡ 0
unfolding run is_name_part is_name_start is_letter between is_digit
gap_name_end (gap s r) = rw s.1

pub name_end_lem : (xs : List ℕ) (p : ℕ) (n : List ℕ) (s : Stands xs p n) → Name n → run is_name_part (drop (p + length n) xs) ≡ 0 → name_end xs p ≡ p + length n
unfolding run_end
name_end_lem xs p n s h g =
    ap (λ (m : ℕ). p + m) (ap (run is_name_part) s.1
    ∙ run_then is_name_part n s.0 (name_parts n h) (ap (run is_name_part) (sym (stands_after xs p n s)) ∙ g))

pub gap_moves : {xs : List ℕ} {p q : ℕ} → Gap xs p q → eqb q p ≡ false
gap_moves {xs} {p} {q} g = ne_eqb q p (λ e. omega (arith, gap_rise g))

pub test_found : {xs : List ℕ} {close p q : ℕ} {t : Test} → TestAt xs close p q t → is_bare close ≡ false → TestFound xs close p q t
unfolding test_at test_operator test_value
test_found {xs} {close} (a_test {p = p} {a = a} {b = b} {q = q} {k = k} {n = n} {v = v} s h g o i w f) c =
    let e : name_end xs p ≡ p + length n = name_end_lem xs p n s h (gap_name_end g) in
    let m : part xs p (p + length n) ≡ n = part_at xs p (p + length n) n s.0 s.1 refl in
    let r = value_found w c f in
    record {
      raw = record { at = p; until = p + length n; operator = k; value = r.raw };
      found =
          rw (e, m, (name_iff n).1 h, gap_skip g (operator_no_space o), gap_moves g, operator-found o, gap_skip i (value_no_space w), gap_moves i, r.found, r.ends, follows-found f);
      ends = r.ends;
      is = rw (m, r.decodes);
    }

-- ---- where a test begins and ends

pub name_no_space : (xs : List ℕ) (p : ℕ) (n : List ℕ) → Stands xs p n → Name n → NoSpaceAt xs p
unfolding is_name_start is_letter between
name_no_space xs p n s h = stands_no_space xs p h.first h.rest (rw h.spelt at s) (apart is_name_start h.first 0x20 h.starts refl)

pub test_no_space : {xs : List ℕ} {close p q : ℕ} {t : Test} → TestAt xs close p q t → NoSpaceAt xs p
test_no_space {xs} (a_test {p = p} {n = n} s h g o i w f) = name_no_space xs p n s h

pub test_rise : {xs : List ℕ} {close p q : ℕ} {t : Test} → TestAt xs close p q t → (p + 1 ≤ q) × (q ≤ length xs)
test_rise (a_test s h g o i w f) = let u = gap_rise g in let v = gap_rise i in let z = value_rise w in (omega arith, z.1)

-- ---- as the code finds a test

module _ (xs : List ℕ) (close at : ℕ) where
  pub follows_end : at ≡ length xs → true ≡ follows close (drop at xs)
  unfolding follows
  follows_end h = rw (h, drop-length xs)

  module _ (i : at ≤ length xs) (n : at ≡ length xs → ⊥) where
    inside : at < length xs
    inside = omega arith

    pub follows_space : get_or xs at 0 ≡ 0x20 → true ≡ follows close (drop at xs)
    unfolding follows
    follows_space h = rw (drop-cons xs at 0 inside, eq-eqb _ _ h)

    pub follows_close : (get_or xs at 0 ≡ 0x20 → ⊥) → eqb (get_or xs at 0) close ≡ follows close (drop at xs)
    unfolding follows
    follows_close h = rw (drop-cons xs at 0 inside, ne_eqb _ _ h)

module _ (xs : List ℕ) (close p e k o : ℕ) (b : ℕ) (s : RunEnd is_space xs o b) where
  pub test_no_gap : b ≡ o → None ≡ test_value xs close p e k o
  unfolding test_value
  test_no_gap h = rw (← s.is, eq-eqb b o h)

  module _ (n : b ≡ o → ⊥) (f : Option RawValue) (i : f ≡ value_at xs b) where
    pub test_no_value : f ≡ None → None ≡ test_value xs close p e k o
    unfolding test_value
    test_no_value h = rw (← s.is, ne_eqb b o n, sym i ∙ h)

    module _ (v : RawValue) (h : f ≡ Some v) (r : Bool) (j : r ≡ follows close (drop v.next xs)) where
      pub test_value_lem : r ≡ true → Some (record { at = p; until = e; operator = k; value = v }) ≡ test_value xs close p e k o
      unfolding test_value
      test_value_lem t = rw (← s.is, ne_eqb b o n, sym i ∙ h, sym j ∙ t)

      pub test_not_followed : r ≡ false → None ≡ test_value xs close p e k o
      unfolding test_value
      test_not_followed t = rw (← s.is, ne_eqb b o n, sym i ∙ h, sym j ∙ t)

module _ (xs : List ℕ) (close p e a : ℕ) (s : RunEnd is_space xs e a) where
  pub operator_no_gap : a ≡ e → None ≡ test_operator xs close p e
  unfolding test_operator
  operator_no_gap h = rw (← s.is, eq-eqb a e h)

  module _ (n : a ≡ e → ⊥) (f : Option ℕ) (i : f ≡ operator_at xs a) where
    pub test_no_operator : f ≡ None → None ≡ test_operator xs close p e
    unfolding test_operator
    test_no_operator h = rw (← s.is, ne_eqb a e n, sym i ∙ h)

    pub test_operator_lem : (k : ℕ) (r : Option RawTest) → f ≡ Some k → r ≡ test_value xs close p e k (a + 2) → r ≡ test_operator xs close p e
    unfolding test_operator
    test_operator_lem k r h t = rw (← s.is, ne_eqb a e n, sym i ∙ h) t

-- a run of bytes with which a name may go on is a name where it begins as one and is not reserved
module _ (xs : List ℕ) (p e : ℕ) (s : RunEnd is_name_part xs p e) where
  pub run_empty : e ≡ p → false ≡ is_name (part xs p e)
  run_empty h = name_empty (part xs p e) (part_length xs p e s.within ∙ omega arith)

  pub run_inside : (e ≡ p → ⊥) → p < length xs
  run_inside n = omega (arith, s.from, s.within)

  run_parts : every is_name_part (part xs p e) ≡ true
  unfolding run_end
  run_parts =
      let w : e - p ≡ run is_name_part (drop p xs) = omega (arith, s.is) in
      rw w (run_take is_name_part (drop p xs))

  module _ (n : e ≡ p → ⊥) (r : Bool) (i : r ≡ is_name_start (get_or xs p 0)) where
    run_cons : part xs p e ≡ get_or xs p 0 ∷ part xs (p + 1) e
    run_cons = part_cons xs p e (omega (arith, s.from)) s.within

    run-full : length (part xs p e) ≡ 0 → ⊥
    run-full h = omega (arith, s.from, part_length xs p e s.within)

    run-starts : r ≡ is_name_start (get_or (part xs p e) 0 0)
    run-starts = i ∙ ap is_name_start (sym (ap (λ (l : List ℕ). get_or l 0 0) run_cons))

    pub run-start_not : r ≡ false → false ≡ is_name (part xs p e)
    run-start_not f = name-start_not (part xs p e) run-full r run-starts f

    run_goes_on : true ≡ every is_name_part (take (length (part xs p e) - 1) (drop 1 (part xs p e)))
    unfolding every
    run_goes_on =
        sym
        (ap (every is_name_part) (rest (part xs p e) 1 ∙ ap (drop 1) run_cons)
        ∙ and_right (is_name_part (get_or xs p 0)) (every is_name_part (part xs (p + 1) e)) (sym (ap (every is_name_part) run_cons) ∙ run_parts))

    pub run-name : r ≡ true → (w : Bool) → w ≡ is_reserved (part xs p e) → not w ≡ is_name (part xs p e)
    run-name t w k = name_not_reserved (part xs p e) run-full r run-starts t true run_goes_on refl w k

module _ (xs : List ℕ) (close p e : ℕ) (s : RunEnd is_name_part xs p e) (r : Bool) (i : r ≡ is_name (part xs p e)) where
  pub test_no_name : r ≡ false → None ≡ test_at xs close p
  unfolding test_at
  test_no_name h = rw (← s.is, sym i ∙ h)

  pub test_name : (t : Option RawTest) → r ≡ true → t ≡ test_operator xs close p e → t ≡ test_at xs close p
  unfolding test_at
  test_name t h j = rw (← s.is, sym i ∙ h) j

-- a value that is found ends inside the text
pub value-within : (xs : List ℕ) (p : ℕ) (f : Option RawValue) (v : RawValue) → f ≡ value_at xs p → f ≡ Some v → v.next ≤ length xs
value-within xs p f v e h = (value_rise (value_derives xs p v (sym e ∙ h))).1

-- an operator that is found ends inside the text
pub operator-within : (xs : List ℕ) (p k : ℕ) (f : Option ℕ) → f ≡ operator_at xs p → f ≡ Some k → p + 2 ≤ length xs
operator-within xs p k f e h = operator_rise (operator_derives xs p k (sym e ∙ h))
