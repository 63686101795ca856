-- What holds of every state that the machine comes to, and how a filter is completed from it.
-- That states stay good is by the cases of the phase (`good-step`), and then by induction on the run (`runs_good`). To complete a filter,
-- bytes that fit the phase, as `x`, `eq 1` or a closing quote, are written up to the end of the item (`completes`, by the cases of the
-- phase), and then each open bracket is closed (`closes_all`, by induction on the brackets; after a square one the member's test is written,
-- too). No more room is asked of the limits: the tests to be written are counted as due already, and after `not` there is room for its
-- bracket, which `Good` says.
-- Assumes nothing.
use Prim.Native.Nat.{ℕ, suc, ◌≤◌, ◌<◌}
use Prim.Native.Char.{code}
use native.Mathlib.Omega.{arith}
use mathlib.Core.Path.{◌≡◌, refl, sym, ap, subst, ◌∙◌}
use mathlib.Core.Bool.{Bool, true, false}
use mathlib.Core.List.{List, [], ◌∷◌, ◌++◌}
use mathlib.Core.Logic.{⊎_elim}
use lib.Dec.{eqb, ltb}
use lib.ListN.{length, get_or}
use borrow.Author.Tests.{eqb-true, ltb-true}
use Rattle.base.specs.Ascii.{ascii}
use Rattle.base.specs.Lists.{All, all_empty, all_cons, every, equal, member}
use Rattle.base.specs.Bytes.{Byte, Bytes}
use Rattle.base.specs.Digits.{is_digit}
use Rattle.base.specs.Affixes.{has_prefix}
use Rattle.base.specs.Between.{between}
use Rattle.base.specs.Names.{is_letter, is_name_start, is_name_part, is_name, is_reserved, Name}
use Rattle.base.specs.Operators.{operator_words}
use Rattle.base.proofs.Tests.{and_left, and_right, or_either, cond-elim}
use Rattle.base.proofs.All.{all_append}
use Rattle.base.proofs.Lists.{every-member}
use Rattle.base.proofs.Names.{name_iff}
use Rattle.syntax.specs.Strings.{quote, is_bare, is_escape}
use Rattle.syntax.specs.Grammar.{round, square}
use Rattle.syntax.specs.Scan.{is_space, step_of}
use Rattle.syntax.specs.declared.StringStep.{StringStep}
use Rattle.place.specs.Machine.{Phase, at_item, in_name, after_not, after-name, in_operator, after_operator, at_value, in_bare, in-string, after_item, after-space, in_connective, after_square, at_member, in_member, Bracket, round_open, square-open, close_of, closed_phase, State, state, Progress, live, deep, many, wrong, some_word, begins_operator, is_operator, opened, chosen, closed, joined, ended, in_string, connective_left, step}
use Rattle.place.proofs.Steps.{Ended, ended_bare, ended_item, name-starts, name-part, name_space, after_not_opens, first-letter, second-letter, operator_space, bare_starts, escape_part, quote_closes, ended_closes, spaced_closes, connective_part, square_dot, member-starts, member-part, member_space}
use Rattle.place.proofs.Walks.{Runs, rests, goes, then_runs}
use Rattle.place.proofs.Walking.{operator_letters_lem}

-- the bytes with which a name, or not, has begun
pub record Begun (w : List ℕ) : Type 0 where
  pub first : ℕ
  pub rest : List ℕ
  pub spelt : w ≡ first ∷ rest
  pub starts : is_name_start first ≡ true
  pub goes_on : All (λ (b : ℕ). is_name_part b ≡ true) rest

abbrev Fine : ℕ → List Bracket → Phase → Type 0
Fine d k at_item = Unit {0}
Fine d k (in_name w) = Begun w
Fine d k after_not = length k < d
Fine d k after-name = Unit {0}
Fine d k (in_operator x) = begins_operator x ≡ true
Fine d k after_operator = Unit {0}
Fine d k at_value = Unit {0}
Fine d k in_bare = Unit {0}
Fine d k (in-string pending) = Unit {0}
Fine d k after_item = Unit {0}
Fine d k after-space = Unit {0}
Fine d k (in_connective []) = ⊥
Fine d k (in_connective (x ∷ w)) = Bytes (x ∷ w)
Fine d k after_square = Unit {0}
Fine d k at_member = Unit {0}
Fine d k (in_member w) = Begun w

-- within the limits
abbrev pub Good : (d m : ℕ) → State → Type 0
Good d m (state f k n) = (length k ≤ d) × (n ≤ m) × Fine d k f

-- ---- the machine keeps to it

abbrev GoodStep : (d m : ℕ) → Progress → Type 0
GoodStep d m (live s) = Good d m s
GoodStep d m deep = Unit {0}
GoodStep d m many = Unit {0}
GoodStep d m wrong = Unit {0}

begun_on : (w : List ℕ) (b : ℕ) → Begun w → is_name_part b ≡ true → Begun (w ++ (b ∷ []))
begun_on w b g h =
    record {
      first = g.first;
      rest = g.rest ++ (b ∷ []);
      spelt = ap (λ (v : List ℕ). v ++ (b ∷ [])) g.spelt;
      starts = g.starts;
      goes_on = all_append (λ (b : ℕ). is_name_part b ≡ true) g.goes_on (all_cons h all_empty);
    }

good-closed : (d m : ℕ) (k : List Bracket) (n b : ℕ) → length k ≤ d → n ≤ m → GoodStep d m (closed k n b)
good-closed d m [] n b l c = tt
good-closed d m (s ∷ k) n b l c = cond-elim (GoodStep d m) (eqb b (close_of s)) (λ h. (omega arith, c, fine s)) (λ h. tt)
  where
    fine : (s : Bracket) → Fine d k (closed_phase s)
    fine round_open = tt
    fine square-open = tt

module _ (d m : ℕ) (k : List Bracket) (n : ℕ) (l : length k ≤ d) (c : n ≤ m) where
  good-opened : GoodStep d m (opened d k n)
  good-opened = cond-elim (GoodStep d m) (ltb (length k) d) (λ h. (ltb-true (length k) d h, c, tt)) (λ h. tt)

  good-chosen : GoodStep d m (chosen d m k n)
  good-chosen =
      cond-elim (GoodStep d m) (ltb (length k) d)
      (λ h. cond-elim (GoodStep d m) (ltb n m) (λ i. (ltb-true (length k) d h, ltb-true n m i, tt)) (λ i. tt)) (λ h. cond-elim (GoodStep d m) (ltb n m) (λ i. tt) (λ i. tt))

  good-joined : (x : ℕ) (w : List ℕ) → Bytes (x ∷ w) → GoodStep d m (joined m (x ∷ w) k n)
  good-joined x w s = cond-elim (GoodStep d m) (ltb n m) (λ h. (l, ltb-true n m h, s)) (λ h. tt)

  good-ended : (b : ℕ) → GoodStep d m (ended k n b)
  good-ended b = cond-elim (GoodStep d m) (is_space b) (λ h. (l, c, tt)) (λ h. good-closed d m k n b l c)

  good-string : (s : StringStep) → GoodStep d m (in_string k n s)
  good-string (StringStep.More pending) = (l, c, tt)
  good-string StringStep.Close = (l, c, tt)
  good-string StringStep.Wrong = tt

  good_connective : (x : ℕ) (w : List ℕ) → Bytes (x ∷ w) → Good d m (state (connective_left w) k n)
  good_connective x [] s = (l, c, tt)
  good_connective x (y ∷ w) (all_cons h s) = (l, c, s)

  good-step : (f : Phase) (b : ℕ) → Fine d k f → GoodStep d m (step d m (state f k n) b)
  unfolding step
  good-step at_item b g =
      cond-elim (GoodStep d m) (is_space b) (λ h. (l, c, tt))
      (λ s. cond-elim (GoodStep d m) (eqb b (code "(")) (λ h. good-opened)
      (λ o. cond-elim (GoodStep d m) (is_name_start b) (λ h. (l, c, record { first = b; rest = []; spelt = refl; starts = h; goes_on = all_empty })) (λ h. tt)))
  good-step (in_name w) b g =
      cond-elim (GoodStep d m) (is_name_part b) (λ h. (l, c, begun_on w b g h))
      (λ s. cond-elim (GoodStep d m) (is_name w) (λ h. cond-elim (GoodStep d m) (is_space b) (λ h. (l, c, tt)) (λ h. cond-elim (GoodStep d m) (eqb b (code "[")) (λ h. good-chosen) (λ h. tt)))
      (λ s. cond-elim (GoodStep d m) (equal w (ascii "not"))
      (λ h. cond-elim (GoodStep d m) (is_space b) (λ h. cond-elim (GoodStep d m) (ltb (length k) d) (λ h. (l, c, ltb-true (length k) d h)) (λ h. tt))
      (λ h. cond-elim (GoodStep d m) (eqb b (code "(")) (λ h. good-opened) (λ h. tt)))
      (λ h. tt)))
  good-step after_not b g =
      cond-elim (GoodStep d m) (is_space b) (λ h. cond-elim (GoodStep d m) (ltb (length k) d) (λ t. (l, c, g)) (λ t. tt)) (λ h. cond-elim (GoodStep d m) (eqb b (code "(")) (λ h. good-opened) (λ h. tt))
  good-step after-name b g =
      cond-elim (GoodStep d m) (is_space b) (λ h. (l, c, tt)) (λ h. cond-elim (GoodStep d m) (begins_operator b) (λ h. (l, c, h)) (λ h. tt))
  good-step (in_operator x) b g = cond-elim (GoodStep d m) (is_operator (x ∷ b ∷ [])) (λ h. (l, c, tt)) (λ h. tt)
  good-step after_operator b g = cond-elim (GoodStep d m) (is_space b) (λ h. (l, c, tt)) (λ h. tt)
  good-step at_value b g =
      cond-elim (GoodStep d m) (is_space b) (λ h. (l, c, tt))
      (λ h. cond-elim (GoodStep d m) (eqb b quote) (λ h. (l, c, tt)) (λ h. cond-elim (GoodStep d m) (is_bare b) (λ h. (l, c, tt)) (λ h. tt)))
  good-step in_bare b g = cond-elim (GoodStep d m) (is_bare b) (λ h. (l, c, tt)) (λ h. good-ended b)
  good-step (in-string pending) b g = good-string (step_of pending b)
  good-step after_item b g = good-ended b
  good-step after-space b g =
      cond-elim (GoodStep d m) (is_space b) (λ h. (l, c, tt))
      (λ h. cond-elim (GoodStep d m) (eqb b (code "a")) (λ h. good-joined _ _ (all_cons {x = code "n"} (omega arith) (all_cons {x = code "d"} (omega arith) (all_cons {x = 0x20} (omega arith) all_empty))))
      (λ h. cond-elim (GoodStep d m) (eqb b (code "o")) (λ h. good-joined _ _ (all_cons {x = code "r"} (omega arith) (all_cons {x = 0x20} (omega arith) all_empty))) (λ h. good-closed d m k n b l c)))
  good-step (in_connective []) b g = tt
  good-step (in_connective (x ∷ w)) b g = cond-elim (GoodStep d m) (eqb b x) (λ h. good_connective x w g) (λ h. tt)
  good-step after_square b g = cond-elim (GoodStep d m) (eqb b (code ".")) (λ h. (l, c, tt)) (λ h. tt)
  good-step at_member b g = cond-elim (GoodStep d m) (is_name_start b) (λ h. (l, c, record { first = b; rest = []; spelt = refl; starts = h; goes_on = all_empty })) (λ h. tt)
  good-step (in_member w) b g =
      cond-elim (GoodStep d m) (is_name_part b) (λ h. (l, c, begun_on w b g h))
      (λ s. cond-elim (GoodStep d m) (is_name w) (λ h. cond-elim (GoodStep d m) (is_space b) (λ h. (l, c, tt)) (λ h. tt)) (λ h. tt))

pub runs_good : {d m : ℕ} {ws : List ℕ} {s t : State} → Runs d m s ws t → Good d m s → Good d m t
runs_good rests g = g
runs_good {d} {m} (goes {b = b} {s = state f k n} {t = state f' k' n'} e r) g =
    runs_good r (subst (GoodStep d m) e (good-step d m k n g.0 g.1 f b g.2))

-- ---- a filter is completed

one_byte : (x : ℕ) → x < 256 → Bytes (x ∷ [])
one_byte x h = all_cons h all_empty

plain-bytes : (w : List ℕ) → every (λ b. ltb b 256) w ≡ true → Bytes w
unfolding every
plain-bytes [] h = all_empty
plain-bytes (b ∷ w) h = all_cons (ltb-true b 256 (and_left (ltb b 256) _ h)) (plain-bytes w (and_right (ltb b 256) _ h))

-- an item has ended, perhaps with a space
pub data Over : Phase → Type 0 where
  over_ended : {f : Phase} → Ended f → Over f
  over_space : Over after-space

-- the bytes after which an item has ended with no bracket open
pub record Completed (d m : ℕ) (s : State) (n : ℕ) : Type 0 where
  pub bytes : List ℕ
  pub clean : Bytes bytes
  pub phase : Phase
  pub over : Over phase
  pub runs : Runs d m s bytes (state phase [] n)

module _ {d m : ℕ} where
  then_completed : {s t : State} {n : ℕ} {ws : List ℕ} → Bytes ws → Runs d m s ws t → Completed d m t n → Completed d m s n
  then_completed {ws = ws} b r c = record { bytes = ws ++ c.bytes; clean = all_append Byte b c.clean; phase = c.phase; over = c.over; runs = then_runs r c.runs }

  -- a test up to its bare word: from the space after its name on, from the member's name on, and from its dot on
  rest_of_test : (k : List Bracket) (n : ℕ) → Runs d m (state after-name k n) (ascii "eq 1") (state in_bare k n)
  unfolding begins_operator is_operator some_word operator_words member equal is_bare
  rest_of_test k n =
      goes (first-letter d m k n (code "e") refl refl)
      (goes (second-letter d m k n (code "e") (code "q") refl)
      (goes (operator_space d m k n) (goes (bare_starts d m k n (code "1") refl (λ e. omega arith)) rests)))

  member_test : (k : List Bracket) (n : ℕ) → Runs d m (state at_member k n) (ascii "a eq 1") (state in_bare k n)
  unfolding is_name is_name_start is_letter between every is_reserved equal
  member_test k n = goes (member-starts d m k n (code "a") refl) (goes (member_space d m k n (ascii "a") refl) (rest_of_test k n))

  dotted_test : (k : List Bracket) (n : ℕ) → Runs d m (state after_square k n) (ascii ".a eq 1") (state in_bare k n)
  dotted_test k n = goes (square_dot d m k n) (member_test k n)

  -- each open bracket closes
  closes_one : (s : Bracket) (k : List Bracket) (n : ℕ) {f : Phase} → Over f → Runs d m (state f (s ∷ k) n) (close_of s ∷ []) (state (closed_phase s) k n)
  closes_one s k n (over_ended e) = goes (ended_closes d m k n e s) rests
  closes_one s k n over_space = goes (spaced_closes d m k n s) rests

  closes_all : (k : List Bracket) (n : ℕ) {f : Phase} → Over f → Completed d m (state f k n) n
  unfolding every
  closes_all [] n {f} o = record { bytes = []; clean = all_empty; phase = f; over = o; runs = rests }
  closes_all (round_open ∷ k) n o = then_completed (one_byte round (omega arith)) (closes_one round_open k n o) (closes_all k n (over_ended ended_item))
  closes_all (square-open ∷ k) n o =
      then_completed (one_byte square (omega arith)) (closes_one square-open k n o)
      (then_completed (plain-bytes (ascii ".a eq 1") refl) (dotted_test k n) (closes_all k n (over_ended ended_bare)))

  complete_bare : (k : List Bracket) (n : ℕ) → Completed d m (state in_bare k n) n
  complete_bare k n = closes_all k n (over_ended ended_bare)

  complete_value : (k : List Bracket) (n : ℕ) → Completed d m (state at_value k n) n
  unfolding is_bare
  complete_value k n = then_completed (one_byte (code "1") (omega arith)) (goes (bare_starts d m k n (code "1") refl (λ e. omega arith)) rests) (complete_bare k n)

  complete_after-operator : (k : List Bracket) (n : ℕ) → Completed d m (state after_operator k n) n
  complete_after-operator k n = then_completed (one_byte 0x20 (omega arith)) (goes (operator_space d m k n) rests) (complete_value k n)

  complete_after-name : (k : List Bracket) (n : ℕ) → Completed d m (state after-name k n) n
  unfolding every
  complete_after-name k n = then_completed (plain-bytes (ascii "eq 1") refl) (rest_of_test k n) (complete_bare k n)

  complete_name : (k : List Bracket) (n : ℕ) (w : List ℕ) → is_name w ≡ true → Completed d m (state (in_name w) k n) n
  complete_name k n w h = then_completed (one_byte 0x20 (omega arith)) (goes (name_space d m k n w h) rests) (complete_after-name k n)

  complete_item : (k : List Bracket) (n : ℕ) → Completed d m (state at_item k n) n
  unfolding is_name is_name_start is_letter between every is_reserved equal
  complete_item k n = then_completed (one_byte (code "a") (omega arith)) (goes (name-starts d m k n (code "a") refl) rests) (complete_name k n (ascii "a") refl)

  connective_goes : (k : List Bracket) (n x : ℕ) (w : List ℕ) → Runs d m (state (in_connective (x ∷ w)) k n) (x ∷ w) (state at_item k n)
  connective_goes k n x [] = goes (connective_part d m k n x []) rests
  connective_goes k n x (y ∷ w) = goes (connective_part d m k n x (y ∷ w)) (connective_goes k n y w)

-- some word of the list passes
word_where : (p : List ℕ → Bool) (ws : List (List ℕ)) → some_word p ws ≡ true → (o : ℕ) × (o < length ws) × (p (get_or ws o []) ≡ true)
unfolding some_word
word_where p [] h = let z : ◌≡◌ {A = ℕ} 0 1 = cc in absurd (omega arith)
word_where p (u ∷ us) h =
    ⊎_elim (λ e. (0, omega arith, e)) (λ e. let r = word_where p us e in (suc r.0, omega (arith, r.1), r.2)) (or_either (p u) (some_word p us) h)

-- the letter with which an operator goes on
begins_word : (x : ℕ) → begins_operator x ≡ true → some_word (λ w. has_prefix w (x ∷ [])) operator_words ≡ true
unfolding begins_operator has_prefix some_word operator_words every
begins_word x h =
    ⊎_elim (λ e. every-member (λ (b : ℕ). some_word (λ w. has_prefix w (b ∷ [])) operator_words) (ascii "cegns") x refl e)
    (λ e. every-member (λ (b : ℕ). some_word (λ w. has_prefix w (b ∷ [])) operator_words) (ascii "ailpr") x refl e)
    (or_either (member x (ascii "cegns")) (member x (ascii "ailpr")) h)

second_of : (x : ℕ) → begins_operator x ≡ true → (y : ℕ) × (y < 256) × (is_operator (x ∷ y ∷ []) ≡ true)
unfolding has_prefix
second_of x h =
    let r = word_where (λ w. has_prefix w (x ∷ [])) operator_words (begins_word x h) in
    let l = operator_letters_lem r.0 r.1 in
    let z : l.one ≡ x = eqb-true l.one x (and_left _ true (subst (λ (w : List ℕ). has_prefix w (x ∷ []) ≡ true) l.spelt r.2)) in
    (l.two, l.byte, subst (λ (u : ℕ). is_operator (u ∷ l.two ∷ []) ≡ true) z l.whole)

-- a name that has begun goes on
last_of : ℕ → List ℕ → ℕ
last_of x [] = x
last_of x (y ∷ w) = last_of y w

last_is : (x : ℕ) (w : List ℕ) (b : ℕ) → last_of x (w ++ (b ∷ [])) ≡ b
unfolding last_of
last_is x [] b = refl
last_is x (y ∷ w) b = last_is y w b

begun_name : (w : List ℕ) → Begun w → Name (w ++ ascii "x")
unfolding is_name_part is_name_start is_letter between is_digit last_of
begun_name w g =
    let e : w ++ ascii "x" ≡ g.first ∷ (g.rest ++ ascii "x") = ap (λ (v : List ℕ). v ++ ascii "x") g.spelt in
    let last : last_of 0 (w ++ ascii "x") ≡ code "x" = last_is 0 w (code "x") in
    record {
      first = g.first;
      rest = g.rest ++ ascii "x";
      spelt = e;
      starts = g.starts;
      goes_on = all_append (λ (b : ℕ). is_name_part b ≡ true) g.goes_on (all_cons refl all_empty);
      not_and = λ z. let y : code "d" ≡ code "x" = sym (ap (last_of 0) z) ∙ last in omega arith;
      not_or = λ z. let y : code "r" ≡ code "x" = sym (ap (last_of 0) z) ∙ last in omega arith;
      not_not = λ z. let y : code "t" ≡ code "x" = sym (ap (last_of 0) z) ∙ last in omega arith;
    }

pub completes : (d m : ℕ) (f : Phase) (k : List Bracket) (n : ℕ) → Good d m (state f k n) → Completed d m (state f k n) n
unfolding is_name_part is_name_start is_letter between is_digit is_escape member every
completes d m at_item k n g = complete_item k n
completes d m (in_name w) k n g =
    then_completed (one_byte (code "x") (omega arith)) (goes (name-part d m k n w (code "x") refl) rests) (complete_name k n (w ++ ascii "x") ((name_iff (w ++ ascii "x")).1 (begun_name w g.2)))
completes d m after_not k n g = then_completed (one_byte (code "(") (omega arith)) (goes (after_not_opens d m k n g.2) rests) (complete_item (round_open ∷ k) n)
completes d m after-name k n g = complete_after-name k n
completes d m (in_operator x) k n g =
    let y = second_of x g.2 in
    then_completed (one_byte y.0 y.1) (goes (second-letter d m k n x y.0 y.2) rests) (complete_after-operator k n)
completes d m after_operator k n g = complete_after-operator k n
completes d m at_value k n g = complete_value k n
completes d m in_bare k n g = complete_bare k n
completes d m (in-string true) k n g =
    then_completed (plain-bytes (ascii "n\"") refl) (goes (escape_part d m k n (code "n") refl) (goes (quote_closes d m k n) rests)) (closes_all k n (over_ended ended_item))
completes d m (in-string false) k n g = then_completed (one_byte quote (omega arith)) (goes (quote_closes d m k n) rests) (closes_all k n (over_ended ended_item))
completes d m after_item k n g = closes_all k n (over_ended ended_item)
completes d m after-space k n g = closes_all k n over_space
completes d m (in_connective []) k n g = absurd g.2
completes d m (in_connective (x ∷ w)) k n g = then_completed g.2 (connective_goes k n x w) (complete_item k n)
completes d m after_square k n g = then_completed (plain-bytes (ascii ".a eq 1") refl) (dotted_test k n) (complete_bare k n)
completes d m at_member k n g = then_completed (plain-bytes (ascii "a eq 1") refl) (member_test k n) (complete_bare k n)
completes d m (in_member w) k n g =
    then_completed (plain-bytes (ascii "x ") refl)
    (goes (member-part d m k n w (code "x") refl) (goes (member_space d m k n (w ++ ascii "x") ((name_iff (w ++ ascii "x")).1 (begun_name w g.2))) rests)) (complete_after-name k n)
