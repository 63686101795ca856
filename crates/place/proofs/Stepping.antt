-- The code's machine is the machine.
-- The code keeps the open brackets as binary digits behind a leading 1, and a name as the position where it begins; `To` says which answer of
-- the machine an answer of the code stands for. Mode by mode both make the same tests, and `both` carries `To` through each choice
-- (`advances`). That fewer than j brackets are open is that the number is below 2 to the j (`fewer`, by induction on j). The loop keeps
-- `Reaching`: what the machine answers from the state reached over the bytes that are left is its answer to the whole text.
-- Assumes nothing.
use Rattle.std.specs.Prelude.{Err, Ok, Result, ⊤, Option, Some, is_some, MatchResult}
use Rattle.std.specs.Result.{IsErrAnd}
use Prim.Native.Nat.{ℕ, zero, suc, ◌+◌, ◌-◌, ◌*◌, ◌/◌, ◌%◌, ◌≤◌, ◌<◌}
use Prim.Native.Char.{code}
use native.Mathlib.Omega.{arith}
use native.Mathlib.Numerals.{add-one}
use native.Mathlib.Nat.{add-zero, zero-add}
use mathlib.Core.Path.{◌≡◌, refl, sym, ap, subst, ◌∙◌}
use mathlib.Core.Bool.{Bool, true, false, cond, ◌&&◌, ◌||◌, and-true, and-false}
use mathlib.Core.List.{List, [], ◌∷◌, ◌++◌}
use lib.Dec.{eqb, ltb}
use lib.ListN.{length, get_or, take, drop, drop_of_length-le}
use lib.Seq.{drop-cons, drop-drop}
use borrow.Author.Tests.{eq-eqb, ne_eqb, lt-ltb, ltb-true}
use Rattle.base.specs.Ascii.{ascii}
use Rattle.base.specs.Lists.{equal}
use Rattle.base.specs.Names.{is_name_start, is_name_part, is_name}
use Rattle.base.specs.Parts.{part}
use Rattle.base.specs.Operators.{operator_words}
use Rattle.base.proofs.Tests.{same_test, cond-elim, cond-first, both_ways}
use Rattle.syntax.specs.Strings.{quote, is_bare}
use Rattle.syntax.specs.Grammar.{round, square, deepest, most_tests}
use Rattle.syntax.specs.Scan.{is_space, step_of, find_operator, operator_at}
use Rattle.syntax.specs.declared.StringStep.{StringStep}
use Rattle.place.specs.declared.Mode.{Mode}
use Rattle.place.specs.declared.Reached.{Reached}
use Rattle.refusal.specs.declared.Reason.{Reason}
use Rattle.refusal.specs.declared.Refusal.{Refusal}
use Rattle.place.specs.Machine.{Phase, Bracket, round_open, square-open, State, state, Progress, live, deep, many, wrong, some_word, begins_operator, is_operator, step, on_step, failure_from, start, failure, item_over, over, on_live, ends_from, is_filter, found}
use Rattle.place.specs.Machine as machine
use Rattle.place.specs.Code as coded
use Rattle.place.specs.Code.{Outcome, digits, full, on, opened, chosen, closed, joined, ended, not_step, name_ends, on_quoted, quoted, by_mode, advance, name_from, phase_of}

-- ---- leaves

found_some : (j : ℕ) (us : List (List ℕ)) (w : List ℕ) → is_some (find_operator j us w) ≡ some_word (λ u. equal w u) us
unfolding find_operator some_word
found_some j [] w = refl
found_some j (u ∷ us) w = go (equal w u) (found_some (suc j) us w)
  where
    go : (b : Bool) → is_some (find_operator (suc j) us w) ≡ some_word (λ v. equal w v) us
        → is_some (cond b (Some j) (find_operator (suc j) us w)) ≡ (b || some_word (λ v. equal w v) us)
    go true e = refl
    go false e = e

module _ (x y : ℕ) (f : Option ℕ) (e : f ≡ operator_at (x ∷ y ∷ []) 0) where
  pub operator_is : is_some f ≡ is_operator (x ∷ y ∷ [])
  unfolding operator_at is_operator
  operator_is = ap is_some e ∙ found_some 0 operator_words (x ∷ y ∷ [])

module _ (pending : Bool) (b k n : ℕ) (f : StringStep) (e : f ≡ step_of pending b) (z : Outcome) where
  pub quoted_more : (q : Bool) → f ≡ StringStep.More q → z ≡ on (Mode.Quoted q) k n → z ≡ quoted pending b k n
  quoted_more q h i = rw (sym e ∙ h) i

  pub quoted_close : f ≡ StringStep.Close → z ≡ on Mode.AfterItem k n → z ≡ quoted pending b k n
  quoted_close h i = rw (sym e ∙ h) i

  pub quoted_wrong : f ≡ StringStep.Wrong → z ≡ Err Reason.NoFilter → z ≡ quoted pending b k n
  quoted_wrong h i = rw (sym e ∙ h) i

pub by_mode_lem : (xs : List ℕ) (p : ℕ) (r : Reached) (z : Outcome) (m : Mode) → r.mode ≡ m → z ≡ by_mode xs p m r.brackets r.tests → z ≡ advance xs p r
unfolding advance
by_mode_lem xs p r z m e h = rw e h

pub from-within : (p from : ℕ) (m : Mode) → name_from m ≤ p → m ≡ Mode.Name from → from ≤ p
from-within p from m h e = subst (λ (x : Mode). name_from x ≤ p) e h

pub member-within : (p from : ℕ) (m : Mode) → name_from m ≤ p → m ≡ Mode.MemberName from → from ≤ p
member-within p from m h e = subst (λ (x : Mode). name_from x ≤ p) e h

-- ---- names grow by a byte

part_grows : (xs : List ℕ) (from p : ℕ) → from ≤ p → p < length xs → part xs from (p + 1) ≡ part xs from p ++ (get_or xs p 0 ∷ [])
part_grows xs from p h l =
    let n : p + 1 - from ≡ suc (p - from) = omega arith in
    let z : from + (p - from) ≡ p = omega arith in
    let d : drop (p - from) (drop from xs) ≡ get_or xs p 0 ∷ drop (suc p) xs = drop-drop (p - from) from xs ∙ ap (λ (q : ℕ). drop q xs) z ∙ drop-cons xs p 0 l in
    ap (λ (q : ℕ). take q (drop from xs)) n ∙ take_snoc (p - from) (drop from xs) (get_or xs p 0) (drop (suc p) xs) d
  where
    take_snoc : (n : ℕ) (l : List ℕ) (x : ℕ) (t : List ℕ) → drop n l ≡ x ∷ t → take (suc n) l ≡ take n l ++ (x ∷ [])
    take_snoc zero l x t e = ap (take 1) e
    take_snoc (suc n) [] x t e = let z : ◌≡◌ {A = ℕ} 0 1 = cc in absurd (omega arith)
    take_snoc (suc n) (y ∷ l) x t e = ap (λ (r : List ℕ). y ∷ r) (take_snoc n l x t e)

-- ---- the digits of the open brackets

power : ℕ → ℕ
power zero = 1
power (suc j) = 2 * power j

power_some : (j : ℕ) → 1 ≤ power j
unfolding power
power_some zero = omega arith
power_some (suc j) = omega (arith, power_some j)

digits_some : (k : List Bracket) → 1 ≤ digits k
unfolding digits
digits_some [] = omega arith
digits_some (round_open ∷ k) = omega (arith, digits_some k)
digits_some (square-open ∷ k) = omega (arith, digits_some k)

less-same : (a b c e : ℕ) → (a < b → c < e) → (c < e → a < b) → ltb a b ≡ ltb c e
less-same a b c e f g = same_test (ltb a b) (ltb c e) (λ h. lt-ltb c e (f (ltb-true a b h))) (λ h. lt-ltb a b (g (ltb-true c e h)))

-- fewer than j brackets are open
fewer : (j : ℕ) (k : List Bracket) → ltb (digits k) (power j) ≡ ltb (length k) j
unfolding digits power
fewer zero k = less-same (digits k) 1 (length k) 0 (λ h. omega (arith, digits_some k)) (λ h. omega arith)
fewer (suc j) [] = less-same 1 (2 * power j) 0 (suc j) (λ h. omega arith) (λ h. omega (arith, power_some j))
fewer (suc j) (round_open ∷ k) =
    less-same (2 * digits k) (2 * power j) (digits k) (power j) (λ h. omega arith) (λ h. omega arith) ∙ fewer j k
    ∙ less-same (length k) j (suc (length k)) (suc j) (λ h. omega arith) (λ h. omega arith)
fewer (suc j) (square-open ∷ k) =
    less-same (2 * digits k + 1) (2 * power j) (digits k) (power j) (λ h. omega arith) (λ h. omega arith) ∙ fewer j k
    ∙ less-same (length k) j (suc (length k)) (suc j) (λ h. omega arith) (λ h. omega arith)

-- ---- the code's step is the machine's

-- the answer at p stands for the machine's
data To (xs : List ℕ) (p : ℕ) : Outcome → Progress → Type 0 where
  to_live : {r : Reached} {f : Phase} {k : List Bracket} {n : ℕ} → phase_of xs (p + 1) r.mode ≡ f → r.brackets ≡ digits k → r.tests ≡ n
      → To xs p (Ok r) (live (state f k n))
  to_deep : To xs p (Err Reason.TooDeep) deep
  to_many : To xs p (Err Reason.TooMany) many
  to_wrong : To xs p (Err Reason.NoFilter) wrong

-- a refusal is the machine's, and no filter ends there
stopped_place : {xs : List ℕ} {p : ℕ} {n : Reason} {s : Progress} (next : State → Refusal) (ends : State → Bool) → To xs p (Err n) s
    → (on_step s next p ≡ record { reason = n; place = p }) × (on_live s ends ≡ false)
stopped_place next ends to_deep = (refl, refl)
stopped_place next ends to_many = (refl, refl)
stopped_place next ends to_wrong = (refl, refl)

both : {xs : List ℕ} {p : ℕ} (a : Bool) {b : Bool} → a ≡ b → {o q : Outcome} {u v : Progress} → To xs p o u → To xs p q v → To xs p (cond a o q) (cond b u v)
both true h s t = rw (← h) s
both false h s t = rw (← h) t

to_closed : (xs : List ℕ) (p x : ℕ) (k : List Bracket) → x ≡ digits k → (n b : ℕ) → To xs p (closed b x n) (machine.closed k n b)
unfolding digits
to_closed xs p x [] e n b = rw (eq-eqb x 1 e) to_wrong
to_closed xs p x (round_open ∷ k) e n b =
    let some = digits_some k in
    let two : x ≡ 1 → ⊥ = λ h. omega arith in
    let even : x % 2 ≡ 0 = omega arith in
    let half : x / 2 ≡ digits k = omega arith in
    rw (ne_eqb x 1 two, eq-eqb (x % 2) 0 even) (both (eqb b round) refl (to_live refl half refl) to_wrong)
to_closed xs p x (square-open ∷ k) e n b =
    let some = digits_some k in
    let two : x ≡ 1 → ⊥ = λ h. omega arith in
    let odd : x % 2 ≡ 0 → ⊥ = λ h. omega arith in
    let half : x / 2 ≡ digits k = omega arith in
    rw (ne_eqb x 1 two, ne_eqb (x % 2) 0 odd) (both (eqb b square) refl (to_live refl half refl) to_wrong)

module _ (xs : List ℕ) (p : ℕ) (i : p < length xs) (x : ℕ) (k : List Bracket) (e : x ≡ digits k) (n : ℕ) where
  abbrev byte : ℕ
  byte = get_or xs p 0

  same : (f : Mode) → To xs p (on f x n) (live (state (phase_of xs (p + 1) f) k n))
  same f = to_live refl e refl

  room : ltb x full ≡ ltb (length k) deepest
  unfolding power
  room = ap (λ (y : ℕ). ltb y full) e ∙ fewer 8 k

  to_opened : To xs p (opened x n) (machine.opened deepest k n)
  unfolding digits
  to_opened = both (ltb x full) room (to_live refl (ap (λ (y : ℕ). 2 * y) e) refl) to_deep

  to_chosen : To xs p (chosen x n) (machine.chosen deepest most_tests k n)
  unfolding digits
  to_chosen =
      both (ltb x full) room (both (ltb n 32) refl (to_live refl (ap (λ (y : ℕ). 2 * y + 1) e) (add-one n)) to_many) (both (ltb n 32) refl to_deep to_wrong)

  to_joined : (f : Mode) (w : List ℕ) → phase_of xs (p + 1) f ≡ machine.in_connective w → To xs p (joined f x n) (machine.joined most_tests w k n)
  to_joined f w h = both (ltb n 32) refl (to_live h e (add-one n)) to_many

  to_ended : To xs p (ended byte x n) (machine.ended k n byte)
  to_ended = both (is_space byte) refl (same Mode.AfterSpace) (to_closed xs p x k e n byte)

  to_not : To xs p (not_step byte x n) (machine.not_ends deepest k n byte)
  to_not = both (is_space byte) refl (both (ltb x full) room (same Mode.AfterNot) to_deep) (both (eqb byte (code "(")) refl to_opened to_wrong)

  to_quoted : (s : StringStep) → To xs p (on_quoted x n s) (machine.in_string k n s)
  to_quoted (StringStep.More pending) = same (Mode.Quoted pending)
  to_quoted StringStep.Close = same Mode.AfterItem
  to_quoted StringStep.Wrong = to_wrong

  to_name_end : To xs p (name_ends byte x n) (machine.name_ends deepest most_tests k n byte)
  to_name_end = both (is_space byte) refl (same Mode.AfterName) (both (eqb byte (code "[")) refl to_chosen to_wrong)

  -- the one byte that may come
  to_one : (c : Bool) (f : Mode) → To xs p (cond c (on f x n) (Err Reason.NoFilter)) (cond c (live (state (phase_of xs (p + 1) f) k n)) wrong)
  to_one c f = both c refl (same f) to_wrong

  name_one : part xs p (p + 1) ≡ byte ∷ []
  name_one =
      let z : p + 1 - p ≡ 1 = omega arith in
      ap (λ (q : ℕ). take q (drop p xs)) z ∙ ap (take 1) (drop-cons xs p 0 i)

  advances : (m : Mode) → name_from m ≤ p → To xs p (by_mode xs p m x n) (step deepest most_tests (state (phase_of xs p m) k n) byte)
  unfolding step
  advances Mode.Item h =
      both (is_space byte) refl (same Mode.Item)
      (both (eqb byte (code "(")) refl to_opened (both (is_name_start byte) refl (to_live (ap machine.in_name name_one) e refl) to_wrong))
  advances (Mode.Name from) h =
      both (is_name_part byte) refl (to_live (ap machine.in_name (part_grows xs from p h i)) e refl)
      (both (is_name (part xs from p)) refl to_name_end (both (equal (part xs from p) (ascii "not")) refl to_not to_wrong))
  advances Mode.AfterNot h = to_not
  advances Mode.AfterName h = both (is_space byte) refl (same Mode.AfterName) (both (begins_operator byte) refl (same (Mode.Letter byte)) to_wrong)
  advances (Mode.Letter y) h = to_one (is_operator (y ∷ byte ∷ [])) Mode.AfterOperator
  advances Mode.AfterOperator h = to_one (is_space byte) Mode.Value
  advances Mode.Value h =
      both (is_space byte) refl (same Mode.Value) (both (eqb byte quote) refl (same (Mode.Quoted false)) (both (is_bare byte) refl (same Mode.Bare) to_wrong))
  advances Mode.Bare h = both (is_bare byte) refl (same Mode.Bare) to_ended
  advances (Mode.Quoted pending) h = to_quoted (step_of pending byte)
  advances Mode.AfterItem h = to_ended
  advances Mode.AfterSpace h =
      both (is_space byte) refl (same Mode.AfterSpace)
      (both (eqb byte (code "a")) refl (to_joined Mode.AfterA (ascii "nd ") refl)
      (both (eqb byte (code "o")) refl (to_joined Mode.AfterO (ascii "r ") refl) (to_closed xs p x k e n byte)))
  advances Mode.AfterA h = to_one (eqb byte (code "n")) Mode.AfterAn
  advances Mode.AfterAn h = to_one (eqb byte (code "d")) Mode.WantsSpace
  advances Mode.AfterO h = to_one (eqb byte (code "r")) Mode.WantsSpace
  advances Mode.WantsSpace h = to_one (eqb byte 0x20) Mode.Item
  advances Mode.AfterSquare h = to_one (eqb byte (code ".")) Mode.Member
  advances Mode.Member h = both (is_name_start byte) refl (to_live (ap machine.in_member name_one) e refl) to_wrong
  advances (Mode.MemberName from) h =
      both (is_name_part byte) refl (to_live (ap machine.in_member (part_grows xs from p h i)) e refl)
      (both (is_name (part xs from p)) refl (to_one (is_space byte) Mode.AfterName) to_wrong)

-- ---- a name begins before the next position too

abbrev Onward : ℕ → Outcome → Type 0
Onward p (Ok r) = name_from r.mode ≤ p + 1
Onward p (Err reason) = Unit {0}

module _ (p k n : ℕ) where
  none : 0 ≤ p + 1
  none = omega arith

  on-opened : Onward p (opened k n)
  on-opened = cond-elim (Onward p) (ltb k full) (λ h. none) (λ h. tt)

  on-chosen : Onward p (chosen k n)
  on-chosen =
      cond-elim (Onward p) (ltb k full) (λ h. cond-elim (Onward p) (ltb n 32) (λ h. none) (λ h. tt)) (λ h. cond-elim (Onward p) (ltb n 32) (λ h. tt) (λ h. tt))

  on_one : (c : Bool) (r : Reached) → name_from r.mode ≤ p + 1 → Onward p (cond c (Ok r) (Err Reason.NoFilter))
  on_one c r h = cond-elim (Onward p) c (λ e. h) (λ e. tt)

  on-closed : (b : ℕ) → Onward p (closed b k n)
  on-closed b =
      cond-elim (Onward p) (eqb k 1) (λ h. tt)
      (λ h. cond-elim (Onward p) (eqb (k % 2) 0) (λ h. on_one (eqb b round) _ none) (λ h. on_one (eqb b square) _ none))

  on-ended : (b : ℕ) → Onward p (ended b k n)
  on-ended b = cond-elim (Onward p) (is_space b) (λ h. none) (λ h. on-closed b)

  on_not : (b : ℕ) → Onward p (not_step b k n)
  on_not b =
      cond-elim (Onward p) (is_space b) (λ h. cond-elim (Onward p) (ltb k full) (λ h. none) (λ h. tt)) (λ h. cond-elim (Onward p) (eqb b (code "(")) (λ h. on-opened) (λ h. tt))

  on-name_end : (b : ℕ) → Onward p (name_ends b k n)
  on-name_end b = cond-elim (Onward p) (is_space b) (λ h. none) (λ h. cond-elim (Onward p) (eqb b (code "[")) (λ h. on-chosen) (λ h. tt))

  on-quoted : (s : StringStep) → Onward p (on_quoted k n s)
  on-quoted (StringStep.More pending) = none
  on-quoted StringStep.Close = none
  on-quoted StringStep.Wrong = tt

  on-joined : (f : Mode) → name_from f ≤ p + 1 → Onward p (joined f k n)
  on-joined f h = cond-elim (Onward p) (ltb n 32) (λ e. h) (λ e. tt)

  onward : (xs : List ℕ) (m : Mode) → name_from m ≤ p → Onward p (by_mode xs p m k n)
  onward xs Mode.Item h =
      cond-elim (Onward p) (is_space (get_or xs p 0)) (λ e. none)
      (λ e. cond-elim (Onward p) (eqb (get_or xs p 0) (code "(")) (λ e. on-opened) (λ e. on_one (is_name_start (get_or xs p 0)) _ (omega arith)))
  onward xs (Mode.Name from) h =
      cond-elim (Onward p) (is_name_part (get_or xs p 0)) (λ e. omega arith)
      (λ e. cond-elim (Onward p) (is_name (part xs from p)) (λ e. on-name_end (get_or xs p 0))
      (λ e. cond-elim (Onward p) (equal (part xs from p) (ascii "not")) (λ e. on_not (get_or xs p 0)) (λ e. tt)))
  onward xs Mode.AfterNot h = on_not (get_or xs p 0)
  onward xs Mode.AfterName h = cond-elim (Onward p) (is_space (get_or xs p 0)) (λ e. none) (λ e. on_one (begins_operator (get_or xs p 0)) _ none)
  onward xs (Mode.Letter x) h = on_one (is_operator (x ∷ get_or xs p 0 ∷ [])) _ none
  onward xs Mode.AfterOperator h = on_one (eqb (get_or xs p 0) 0x20) _ none
  onward xs Mode.Value h =
      cond-elim (Onward p) (is_space (get_or xs p 0)) (λ e. none) (λ e. cond-elim (Onward p) (eqb (get_or xs p 0) quote) (λ e. none) (λ e. on_one (is_bare (get_or xs p 0)) _ none))
  onward xs Mode.Bare h = cond-elim (Onward p) (is_bare (get_or xs p 0)) (λ e. none) (λ e. on-ended (get_or xs p 0))
  onward xs (Mode.Quoted pending) h = on-quoted (step_of pending (get_or xs p 0))
  onward xs Mode.AfterItem h = on-ended (get_or xs p 0)
  onward xs Mode.AfterSpace h =
      cond-elim (Onward p) (is_space (get_or xs p 0)) (λ e. none)
      (λ e. cond-elim (Onward p) (eqb (get_or xs p 0) (code "a")) (λ e. on-joined Mode.AfterA none)
      (λ e. cond-elim (Onward p) (eqb (get_or xs p 0) (code "o")) (λ e. on-joined Mode.AfterO none) (λ e. on-closed (get_or xs p 0))))
  onward xs Mode.AfterA h = on_one (eqb (get_or xs p 0) (code "n")) _ none
  onward xs Mode.AfterAn h = on_one (eqb (get_or xs p 0) (code "d")) _ none
  onward xs Mode.AfterO h = on_one (eqb (get_or xs p 0) (code "r")) _ none
  onward xs Mode.WantsSpace h = on_one (eqb (get_or xs p 0) 0x20) _ none
  onward xs Mode.AfterSquare h = on_one (eqb (get_or xs p 0) (code ".")) _ none
  onward xs Mode.Member h = on_one (is_name_start (get_or xs p 0)) _ (omega arith)
  onward xs (Mode.MemberName from) h =
      cond-elim (Onward p) (is_name_part (get_or xs p 0)) (λ e. omega arith)
      (λ e. cond-elim (Onward p) (is_name (part xs from p)) (λ e. on_one (is_space (get_or xs p 0)) _ none) (λ e. tt))

-- ---- the loop, which has come to `at`: what is left decides

pub record Reaching (xs : List ℕ) (at : ℕ) (r : Reached) : Type 0 where
  pub within : at ≤ length xs
  pub begun : name_from r.mode ≤ at
  pub open_brackets : List Bracket
  pub written : r.brackets ≡ digits open_brackets
  pub left : failure deepest most_tests xs ≡ failure_from deepest most_tests (state (phase_of xs at r.mode) open_brackets r.tests) (drop at xs) at
  pub ends : is_filter deepest most_tests xs ≡ ends_from deepest most_tests (state (phase_of xs at r.mode) open_brackets r.tests) (drop at xs)

pub reaching_starts : (xs : List ℕ) → Reaching xs 0 (record { mode = Mode.Item; brackets = 1; tests = 1 })
unfolding failure is_filter digits
reaching_starts xs = record { within = omega arith; begun = omega arith; open_brackets = []; written = refl; left = refl; ends = refl }

-- where a filter may end, in the machine and in the code
over_mode : (xs : List ℕ) (at : ℕ) (m : Mode) → item_over (phase_of xs at m) ≡ coded.item_over m
over_mode xs at Mode.Item = refl
over_mode xs at (Mode.Name from) = refl
over_mode xs at Mode.AfterNot = refl
over_mode xs at Mode.AfterName = refl
over_mode xs at (Mode.Letter x) = refl
over_mode xs at Mode.AfterOperator = refl
over_mode xs at Mode.Value = refl
over_mode xs at Mode.Bare = refl
over_mode xs at (Mode.Quoted pending) = refl
over_mode xs at Mode.AfterItem = refl
over_mode xs at Mode.AfterSpace = refl
over_mode xs at Mode.AfterA = refl
over_mode xs at Mode.AfterAn = refl
over_mode xs at Mode.AfterO = refl
over_mode xs at Mode.WantsSpace = refl
over_mode xs at Mode.AfterSquare = refl
over_mode xs at Mode.Member = refl
over_mode xs at (Mode.MemberName from) = refl

over-digits : (k : List Bracket) (n : ℕ) (f : Phase) → over (state f k n) ≡ (item_over f && eqb (digits k) 1)
unfolding digits
over-digits [] n f = sym (and-true (item_over f))
over-digits (round_open ∷ k) n f = sym (ap (λ (b : Bool). item_over f && b) (ne_eqb (2 * digits k) 1 (λ e. omega (arith, digits_some k))) ∙ and-false (item_over f))
over-digits (square-open ∷ k) n f = sym (ap (λ (b : Bool). item_over f && b) (ne_eqb (2 * digits k + 1) 1 (λ e. omega (arith, digits_some k))) ∙ and-false (item_over f))

failed : (xs : List ℕ) (f : Refusal) → is_filter deepest most_tests xs ≡ false → f ≡ failure deepest most_tests xs → Err f ≡ found deepest most_tests xs
unfolding found
failed xs f n e = rw n (ap (λ (x : Refusal). Err x) e)

module _ (xs : List ℕ) (at : ℕ) (r : Reached) (a : Reaching xs at r) where
  module _ (h : length xs ≤ at) (t : Bool) (e : t ≡ coded.over r) where
    ends-here : is_filter deepest most_tests xs ≡ t
    unfolding ends_from coded.over
    ends-here =
        a.ends ∙ rw (drop_of_length-le xs h) (over-digits a.open_brackets r.tests (phase_of xs at r.mode))
        ∙ ap (λ (b : Bool). b && eqb (digits a.open_brackets) 1) (over_mode xs at r.mode) ∙ ap (λ (n : ℕ). coded.item_over r.mode && eqb n 1) (sym a.written) ∙ sym e

    pub reaching_filter : t ≡ true → Ok tt ≡ found deepest most_tests xs
    unfolding found
    reaching_filter i = rw (ends-here ∙ i)

    pub reaching_ends : t ≡ false → Err (record { reason = Reason.NoFilter; place = length xs }) ≡ found deepest most_tests xs
    unfolding failure_from
    reaching_ends i =
        let whole : length xs ≡ at = omega (arith, a.within, h) in
        rw whole (failed xs (record { reason = Reason.NoFilter; place = at }) (ends-here ∙ i) (sym (a.left ∙ rw (drop_of_length-le xs h))))

  module _ (o : Outcome) (e : o ≡ advance xs at r) (h : at < length xs) where
    abbrev stepped : Progress
    stepped = step deepest most_tests (state (phase_of xs at r.mode) a.open_brackets r.tests) (get_or xs at 0)

    abbrev next_from : State → Refusal
    next_from t = failure_from deepest most_tests t (drop (at + 1) xs) (at + 1)

    abbrev next_ends : State → Bool
    next_ends t = ends_from deepest most_tests t (drop (at + 1) xs)

    to_step : To xs at o stepped
    unfolding advance
    to_step = rw e (advances xs at h r.brackets a.open_brackets a.written r.tests r.mode a.begun)

    one_on : failure deepest most_tests xs ≡ on_step stepped next_from at
    unfolding failure_from
    one_on = a.left
        ∙ ap (λ (l : List ℕ). failure_from deepest most_tests (state (phase_of xs at r.mode) a.open_brackets r.tests) l at)
        (drop-cons xs at 0 h ∙ ap (λ (q : ℕ). get_or xs at 0 ∷ drop q xs) (sym (add-one at)))

    one_on-ends : is_filter deepest most_tests xs ≡ on_live stepped next_ends
    unfolding ends_from
    one_on-ends = a.ends
        ∙ ap (λ (l : List ℕ). ends_from deepest most_tests (state (phase_of xs at r.mode) a.open_brackets r.tests) l)
        (drop-cons xs at 0 h ∙ ap (λ (q : ℕ). get_or xs at 0 ∷ drop q xs) (sym (add-one at)))

    pub reaching_on : (next : Reached) → o ≡ Ok next → Reaching xs (at + 1) next
    unfolding advance
    reaching_on next f = go stepped (subst (λ (z : Outcome). To xs at z stepped) f to_step) one_on one_on-ends
      where
        go : (s : Progress) → To xs at (Ok next) s → failure deepest most_tests xs ≡ on_step s next_from at → is_filter deepest most_tests xs ≡ on_live s next_ends → Reaching xs (at + 1) next
        go deep x3 z y = elim x3 [ ]
        go many x4 z y = elim x4 [ ]
        go wrong x5 z y = elim x5 [ ]
        go (live (state g k n)) (to_live u v w) z y =
            record {
              within = omega arith;
              begun = subst (Onward at) (sym e ∙ f) (onward at r.brackets r.tests xs r.mode a.begun);
              open_brackets = k;
              written = v;
              left = z ∙ rw (u, w);
              ends = y ∙ rw (u, w);
            }

    pub reaching_stops : (reason : Reason) → o ≡ Err reason → Err (record { reason = reason; place = at }) ≡ found deepest most_tests xs
    reaching_stops reason f =
        let q : (on_step stepped next_from at ≡ record { reason = reason; place = at }) × (on_live stepped next_ends ≡ false)
        = stopped_place next_from next_ends (subst (λ (z : Outcome). To xs at z stepped) f to_step) in
        failed xs (record { reason = reason; place = at }) (one_on-ends ∙ q.1) (sym (one_on ∙ q.0))

-- ---- where a text that is a filter would fail: at its end

ends-failure : (d m : ℕ) (s : State) (ys : List ℕ) (p : ℕ) → ends_from d m s ys ≡ true → record { reason = Reason.NoFilter; place = p + length ys } ≡ failure_from d m s ys p
unfolding ends_from failure_from
ends-failure d m s [] p e = ap (λ (n : ℕ). record { reason = Reason.NoFilter; place = n }) (add-zero p)
ends-failure d m s (y ∷ ys) p e = go (step d m s y) e (λ t. ends-failure d m t ys (p + 1))
  where
    go : (x : Progress) → on_live x (λ t. ends_from d m t ys) ≡ true → ((t : State) → ends_from d m t ys ≡ true → record { reason = Reason.NoFilter; place = p + 1 + length ys } ≡ failure_from d m t ys (p + 1))
        → record { reason = Reason.NoFilter; place = p + length (y ∷ ys) } ≡ on_step x (λ t. failure_from d m t ys (p + 1)) p
    go (live t) h on = let z : p + length (y ∷ ys) ≡ p + 1 + length ys = omega arith in ap (λ (n : ℕ). record { reason = Reason.NoFilter; place = n }) z ∙ on t h
    go deep h on = both_ways h refl
    go many h on = both_ways h refl
    go wrong h on = both_ways h refl

module _ (xs : List ℕ) (r : Result ⊤ Refusal) (e : r ≡ found deepest most_tests xs) where
  pub failure_filter : r ≡ Ok tt → record { reason = Reason.NoFilter; place = length xs } ≡ failure deepest most_tests xs
  unfolding found failure is_filter
  failure_filter h =
      let t : is_filter deepest most_tests xs ≡ true = (cond-first (is_filter deepest most_tests xs) (Ok tt) (Err (failure deepest most_tests xs)) (λ z. let y : ◌≡◌ {A = ℕ} 0 1 = cc in omega arith) (sym e ∙ h)).0 in
      ap (λ (n : ℕ). record { reason = Reason.NoFilter; place = n }) (sym (zero-add (length xs))) ∙ ends-failure deepest most_tests start xs 0 t

  pub failure_failed : (f : Refusal) → r ≡ Err f → f ≡ failure deepest most_tests xs
  unfolding found
  failure_failed f h = go (is_filter deepest most_tests xs) (sym e ∙ h)
    where
      go : (t : Bool) → cond t (Ok (tt {0})) (Err (failure deepest most_tests xs)) ≡ Err f → f ≡ failure deepest most_tests xs
      go true z = absurd (let y : ◌≡◌ {A = ℕ} 0 1 = cc in omega arith)
      go false z = cc

-- a refusal that was made of a reason
pub refused_by : (Q : Reason → Refusal → Type 0) (o : Outcome) (m : Result Reached Refusal) → MatchResult o (λ y. m ≡ Ok y) (λ e. IsErrAnd m (Q e)) → (x : Refusal) → m ≡ Err x → (e : Reason) × ((o ≡ Err e) × Q e x)
refused_by Q (Ok y) m h x i = let z : ◌≡◌ {A = ℕ} 0 1 = cc in absurd (omega arith)
refused_by Q (Err e) (Ok y) h x i = let z : ◌≡◌ {A = ℕ} 0 1 = cc in absurd (omega arith)
refused_by Q (Err e) (Err y) h x i =
    let same : y ≡ x = cc in
    (e, (refl, subst (Q e) same h))
