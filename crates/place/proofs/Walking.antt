-- The machine goes over every filter within the limits.
-- By induction on the derivation of an item or a filter (`item_walks`, `filter_walks`), for any brackets k that are open and any number of
-- tests done: the machine goes from the first byte of the item or filter to its end, where an item has ended, and has then counted the tree's
-- tests. A terminal of the grammar is a run over its bytes (`name_runs`, `string_runs` ..). The nesting left and the brackets open make up
-- the limit, so where the grammar opens a bracket the machine may.
-- Assumes nothing.
use Prim.Native.Nat.{ℕ, suc, ◌+◌, ◌≤◌, ◌<◌}
use Prim.Native.Char.{code}
use native.Mathlib.Omega.{arith}
use native.Mathlib.Nat.{add-zero}
use mathlib.Core.Path.{◌≡◌, refl, sym, ap, subst}
use mathlib.Core.Bool.{Bool, true, false, ◌&&◌, not}
use mathlib.Core.List.{List, [], ◌∷◌, ◌++◌, append_assoc, append-nil}
use lib.Dec.{eqb, ltb}
use lib.ListN.{length, get_or, length-append, length-map}
use borrow.Author.Tests.{not-true, ltb-true}
use Rattle.base.specs.Ascii.{ascii}
use Rattle.base.specs.Lists.{All, all_empty, all_cons, equal, member}
use Rattle.base.specs.Between.{between}
use Rattle.base.specs.Names.{is_letter, is_name_start, is_name_part, is_name, Name}
use Rattle.base.specs.Operators.{operator_words}
use Rattle.base.proofs.Tests.{and_left, and_right}
use Rattle.base.proofs.Below.{passes_at}
use Rattle.base.proofs.Names.{name_iff}
use Rattle.syntax.specs.Tree.{Test, moved, under, Tree, test, bracketed, join, negation, tests_of}
use Rattle.syntax.specs.declared.Connective.{Connective}
use Rattle.syntax.proofs.Bytes.{escape_stands}
use Rattle.syntax.specs.Strings.{quote, is_bare, Quoted, nothing_more, plain, escaped}
use Rattle.syntax.specs.Grammar.{Spaces, no_space, space, Value, bare, string, TestAt, a_test, connective_word, Connects, connects, Opens, opens, opens_not, Closes, closes, Chooses, chooses, Item, item_test, item_bracket, item_not, item_bracketed, Filter, one_item, one_more, Within}
use Rattle.place.specs.Begins.{Begins}
use Rattle.place.specs.Machine.{Phase, at_item, in_name, after-name, after_operator, at_value, in_bare, in-string, after_item, after-space, at_member, in_member, Bracket, round_open, square-open, close_of, closed_phase, State, state, some_word, live, begins_operator, is_operator, step, start, item_over, over}
use Rattle.place.proofs.Steps.{Ended, ended_bare, ended_item, item_space, item_opens, name-starts, name-part, name_space, name_chooses, not_space, not_opens, after_not_space, after_not_opens, after-name_space, first-letter, second-letter, operator_space, value_space, bare_starts, bare_part, quote_opens, plain-part, backslash-part, escape_part, quote_closes, ended_space, ended_closes, spaced_space, spaced_closes, spaced_and, spaced_or, connective_part, square_dot, member-starts, member-part, member_space}
use Rattle.place.proofs.Walks.{Walk, stay, go, Runs, rests, goes, stands_first, then_walk, one_step, over_spaces, over_gap, runs_walk, walk_runs, then_runs, runs_fewer}

-- ---- names

module _ (d m : ℕ) (k : List Bracket) (n : ℕ) where
  pub name_goes_on : (w r : List ℕ) → All (λ (x : ℕ). is_name_part x ≡ true) r → Runs d m (state (in_name w) k n) r (state (in_name (w ++ r)) k n)
  name_goes_on w [] all_empty = rw (append-nil w) rests
  name_goes_on w (b ∷ r) (all_cons h all) =
      goes (name-part d m k n w b h)
      (subst (λ (v : List ℕ). Runs d m (state (in_name (w ++ (b ∷ []))) k n) r (state (in_name v) k n)) (append_assoc w (b ∷ []) r) (name_goes_on (w ++ (b ∷ [])) r all))

  name_runs : (w : List ℕ) → Name w → Runs d m (state at_item k n) w (state (in_name w) k n)
  name_runs w h =
      subst (λ (v : List ℕ). Runs d m (state at_item k n) v (state (in_name v) k n)) (sym h.spelt)
      (goes (name-starts d m k n h.first h.starts) (name_goes_on (h.first ∷ []) h.rest h.goes_on))

  pub member_goes_on : (w r : List ℕ) → All (λ (x : ℕ). is_name_part x ≡ true) r → Runs d m (state (in_member w) k n) r (state (in_member (w ++ r)) k n)
  member_goes_on w [] all_empty = rw (append-nil w) rests
  member_goes_on w (b ∷ r) (all_cons h all) =
      goes (member-part d m k n w b h)
      (subst (λ (v : List ℕ). Runs d m (state (in_member (w ++ (b ∷ []))) k n) r (state (in_member v) k n)) (append_assoc w (b ∷ []) r) (member_goes_on (w ++ (b ∷ [])) r all))

  member_runs : (w : List ℕ) → Name w → Runs d m (state at_member k n) w (state (in_member w) k n)
  member_runs w h =
      subst (λ (v : List ℕ). Runs d m (state at_member k n) v (state (in_member v) k n)) (sym h.spelt)
      (goes (member-starts d m k n h.first h.starts) (member_goes_on (h.first ∷ []) h.rest h.goes_on))

-- ---- operators

letters : List ℕ → Bool
letters [] = false
letters (x ∷ []) = false
letters (x ∷ y ∷ []) = not (eqb x 0x20) && (begins_operator x && (is_operator (x ∷ y ∷ []) && ltb y 256))
letters (x ∷ y ∷ z ∷ w) = false

pub record Letters (w : List ℕ) : Type 0 where
  pub one : ℕ
  pub two : ℕ
  pub spelt : w ≡ one ∷ two ∷ []
  pub no_space : eqb one 0x20 ≡ false
  pub begins : begins_operator one ≡ true
  pub whole : is_operator (one ∷ two ∷ []) ≡ true
  pub byte : two < 256

never : {X : Type 0} → false ≡ true → X
never h = let z : ◌≡◌ {A = ℕ} 0 1 = cc in absurd (omega arith)

letters_of_lem : (w : List ℕ) → letters w ≡ true → Letters w
unfolding letters
letters_of_lem [] h = never h
letters_of_lem (x ∷ []) h = never h
letters_of_lem (x ∷ y ∷ []) h =
    let r = and_right (not (eqb x 0x20)) _ h in
    record {
      one = x;
      two = y;
      spelt = refl;
      no_space = not-true _ (and_left (not (eqb x 0x20)) _ h);
      begins = and_left (begins_operator x) _ r;
      whole = and_left (is_operator (x ∷ y ∷ [])) _ (and_right (begins_operator x) _ r);
      byte = ltb-true y 256 (and_right (is_operator (x ∷ y ∷ [])) _ (and_right (begins_operator x) _ r));
    }
letters_of_lem (x ∷ y ∷ z ∷ w) h = never h

pub operator_letters_lem : (o : ℕ) → o < length operator_words → Letters (get_or operator_words o [])
unfolding operator_words letters begins_operator is_operator some_word member equal
operator_letters_lem o h = letters_of_lem (get_or operator_words o []) (passes_at (λ (i : ℕ). letters (get_or operator_words i [])) 19 refl o h)

operator_runs : (d m : ℕ) (k : List Bracket) (n : ℕ) (w : List ℕ) → Letters w → Runs d m (state after-name k n) w (state after_operator k n)
operator_runs d m k n w l =
    subst (λ (v : List ℕ). Runs d m (state after-name k n) v (state after_operator k n)) (sym l.spelt)
    (goes (first-letter d m k n l.one l.no_space l.begins) (goes (second-letter d m k n l.one l.two l.whole) rests))

-- ---- values

module _ (d m : ℕ) (k : List Bracket) (n : ℕ) where
  bare_goes_on : (w : List ℕ) → All (λ (x : ℕ). is_bare x ≡ true) w → Runs d m (state in_bare k n) w (state in_bare k n)
  bare_goes_on [] all_empty = rests
  bare_goes_on (b ∷ w) (all_cons h all) = goes (bare_part d m k n b h) (bare_goes_on w all)

  bare_runs : (b : ℕ) (w : List ℕ) → All (λ (x : ℕ). is_bare x ≡ true) (b ∷ w) → (b ≡ quote → ⊥) → Runs d m (state at_value k n) (b ∷ w) (state in_bare k n)
  bare_runs b w (all_cons h all) q = goes (bare_starts d m k n b h q) (bare_goes_on w all)

  quoted_runs : {s v : List ℕ} → Quoted s v → Runs d m (state (in-string false) k n) s (state (in-string false) k n)
  quoted_runs nothing_more = rests
  quoted_runs (plain {b = b} h q) = goes (plain-part d m k n b h) (quoted_runs q)
  quoted_runs (escaped {b = b} h q) = goes (backslash-part d m k n) (goes (escape_part d m k n b (escape_stands h).0) (quoted_runs q))

  string_runs : {s v : List ℕ} → Quoted s v → Runs d m (state at_value k n) (quote ∷ (s ++ (quote ∷ []))) (state after_item k n)
  string_runs q = goes (quote_opens d m k n) (then_runs (quoted_runs q) (goes (quote_closes d m k n) rests))

module _ (d m : ℕ) (k : List Bracket) (n : ℕ) where
  connective_runs : n < m → (c : Connective) → Runs d m (state after-space k n) (connective_word c) (state at_item k (suc n))
  connective_runs h Connective.And = goes (spaced_and d m k n h) (goes (connective_part d m k (suc n) _ _) (goes (connective_part d m k (suc n) _ _) (goes (connective_part d m k (suc n) _ _) rests)))
  connective_runs h Connective.Or = goes (spaced_or d m k n h) (goes (connective_part d m k (suc n) _ _) (goes (connective_part d m k (suc n) _ _) rests))

  not_runs : Runs d m (state at_item k n) (ascii "not") (state (in_name (ascii "not")) k n)
  unfolding is_name_part is_name_start is_letter between
  not_runs = goes (name-starts d m k n (code "n") refl) (name_goes_on d m k n (ascii "n") (ascii "ot") (all_cons refl (all_cons refl all_empty)))

module _ {d m : ℕ} {xs : List ℕ} where
  value_walks : (k : List Bracket) (n : ℕ) {p q : ℕ} {v : List ℕ} → Value xs p q v → (e : Phase) × Ended e × Walk d m xs p (state at_value k n) q (state e k n)
  value_walks k n (bare {p = p} {b = b} {w = w} s all h) = (in_bare, ended_bare, runs_walk (bare_runs d m k n b w all h) s)
  value_walks k n (string {p = p} {s = t} {v = v} s h) =
      let z : p + length (quote ∷ (t ++ (quote ∷ []))) ≡ p + (length t + 2) = omega (arith, length-append t (quote ∷ [])) in
      (after_item, ended_item, subst (λ (q : ℕ). Walk d m xs p (state at_value k n) q (state after_item k n)) z (runs_walk (string_runs d m k n h) s))

  -- ---- tests, connectives, brackets

  -- a test whose name is run over from the state s to the state t, which a space may follow
  test_walks : (k : List Bracket) (n : ℕ) (s : State) (t : List ℕ → State) → ((w : List ℕ) → Name w → Runs d m s w (t w))
      → ((w : List ℕ) → is_name w ≡ true → step d m (t w) 0x20 ≡ live (state after-name k n)) → {close p q : ℕ} {x : Test} → TestAt xs close p q x
      → (e : Phase) × Ended e × Walk d m xs p s q (state e k n)
  test_walks k n s t runs ends (a_test {a = a} {k = o} {n = w} stands h g l i v f) =
      let r = value_walks k n v in
      let ls = operator_letters_lem o l.one_of in
      let z : a + length (get_or operator_words o []) ≡ a + 2 = ap (λ (u : List ℕ). a + length u) ls.spelt in (
        r.0,
        r.1,
        then_walk (runs_walk (runs w h) stands)
            (then_walk (over_gap (ends w ((name_iff w).1 h)) (after-name_space d m k n) g)
            (then_walk (subst (λ (x : ℕ). Walk d m xs a (state after-name k n) x (state after_operator k n)) z (runs_walk (operator_runs d m k n _ ls) l.stands))
            (then_walk (over_gap (operator_space d m k n) (value_space d m k n) i) r.2))),
      )

  item_test_walks : (k : List Bracket) (n : ℕ) {close p q : ℕ} {x : Test} → TestAt xs close p q x → (e : Phase) × Ended e × Walk d m xs p (state at_item k n) q (state e k n)
  item_test_walks k n = test_walks k n (state at_item k n) (λ w. state (in_name w) k n) (name_runs d m k n) (name_space d m k n)

  member_test_walks : (k : List Bracket) (n : ℕ) {close p q : ℕ} {x : Test} → TestAt xs close p q x → (e : Phase) × Ended e × Walk d m xs p (state at_member k n) q (state e k n)
  member_test_walks k n = test_walks k n (state at_member k n) (λ w. state (in_member w) k n) (member_runs d m k n) (member_space d m k n)

  connects_walks : (k : List Bracket) (n : ℕ) → n < m → {e : Phase} → Ended e → {p q : ℕ} {c : Connective} → Connects xs p q c → Walk d m xs p (state e k n) q (state at_item k (suc n))
  connects_walks k n h e (connects {c = c} g s r) =
      then_walk (over_gap (ended_space d m k n e) (spaced_space d m k n) g) (then_walk (runs_walk (connective_runs d m k n h c) s) (over_spaces (item_space d m k (suc n)) r))

  closes_walks : (s : Bracket) (k : List Bracket) (n : ℕ) {e : Phase} → Ended e → {p q : ℕ} → Closes xs (close_of s) p q → Walk d m xs p (state e (s ∷ k) n) q (state (closed_phase s) k n)
  closes_walks s k n e (closes no_space h) = one_step (stands_first xs _ (close_of s) [] h) (ended_closes d m k n e s)
  closes_walks s k n e (closes (space g r) h) =
      go (stands_first xs _ 0x20 [] g) (ended_space d m (s ∷ k) n e)
      (then_walk (over_spaces (spaced_space d m (s ∷ k) n) r) (one_step (stands_first xs _ (close_of s) [] h) (spaced_closes d m k n s)))

  opens_walks : (k : List Bracket) (n : ℕ) → length k < d → {p q : ℕ} {b : Bool} → Opens xs p q b → Walk d m xs p (state at_item k n) q (state at_item (round_open ∷ k) n)
  opens_walks k n h (opens s r) = go (stands_first xs _ _ [] s) (item_opens d m k n h) (over_spaces (item_space d m (round_open ∷ k) n) r)
  opens_walks k n h (opens_not s no_space o r) =
      then_walk (runs_walk (not_runs d m k n) s) (go (stands_first xs _ _ [] o) (not_opens d m k n h) (over_spaces (item_space d m (round_open ∷ k) n) r))
  opens_walks k n h (opens_not s (space g i) o r) =
      then_walk (runs_walk (not_runs d m k n) s)
      (go (stands_first xs _ 0x20 [] g) (not_space d m k n h)
      (then_walk (over_spaces (after_not_space d m k n h) i) (go (stands_first xs _ _ [] o) (after_not_opens d m k n h) (over_spaces (item_space d m (round_open ∷ k) n) r))))

  chooses_walks : (k : List Bracket) (n : ℕ) → length k < d → n < m → {p q : ℕ} {w : List ℕ} → Chooses xs p q w → Walk d m xs p (state at_item k n) q (state at_item (square-open ∷ k) (suc n))
  chooses_walks k n h c (chooses {n = w} s i o r) =
      then_walk (runs_walk (name_runs d m k n w i) s)
      (go (stands_first xs _ _ [] o) (name_chooses d m k n w ((name_iff w).1 i) h c) (over_spaces (item_space d m (square-open ∷ k) (suc n)) r))

-- ---- items and filters

pub bracketed_count : (p : ℕ) (n : List ℕ) (f : Tree) (t : Test) → length (tests_of (bracketed p n f t)) ≡ suc (length (tests_of f))
unfolding tests_of
bracketed_count p n f t = length-map (moved p t ∷ tests_of f) (under n)

pub tests_some : (f : Tree) → 1 ≤ length (tests_of f)
unfolding tests_of
tests_some (test t) = omega arith
tests_some (bracketed p n f t) = omega arith
tests_some (join c f g) = omega (arith, tests_some f, length-append (tests_of f) (tests_of g))
tests_some (negation f) = tests_some f

ended-over : {e : Phase} → Ended e → item_over e ≡ true
ended-over ended_bare = refl
ended-over ended_item = refl

-- from where i tests are done, and one is due, to where f's are done too
abbrev Passes : (d m : ℕ) → List ℕ → List Bracket → (i p q : ℕ) → Tree → Type 0
Passes d m xs k i p q f = (e : Phase) × Ended e × Walk d m xs p (state at_item k (suc i)) q (state e k (i + length (tests_of f)))

module _ {d m : ℕ} {xs : List ℕ} where
  counted : {k : List Bracket} {i j p q : ℕ} {s : State} → i ≡ j → (e : Phase) × Ended e × Walk d m xs p s q (state e k i) → (e : Phase) × Ended e × Walk d m xs p s q (state e k j)
  counted {k} {i} {j} {p} {q} {s} z w = (w.0, w.1, subst (λ (n : ℕ). Walk d m xs p s q (state w.0 k n)) z w.2)

  mutual
    unfolding tests_of

    item_walks : {c l p q : ℕ} {f : Tree} → Item xs c l p q f → (k : List Bracket) (i : ℕ) → l + length k ≡ d → i + length (tests_of f) ≤ m → Passes d m xs k i p q f
    item_walks (item_test h) k i e c = counted (omega arith) (item_test_walks k (suc i) h)
    item_walks (item_bracket {d = l} o f c) k i e h =
        let lt : length k < d = omega arith in
        let up : l + suc (length k) ≡ d = omega arith in
        let r = filter_walks f (round_open ∷ k) i up h in
        (after_item, ended_item, then_walk (opens_walks k (suc i) lt o) (then_walk r.2 (closes_walks round_open k _ r.1 c)))
    item_walks (item_not {d = l} o f c) k i e h =
        let lt : length k < d = omega arith in
        let up : l + suc (length k) ≡ d = omega arith in
        let r = filter_walks f (round_open ∷ k) i up h in
        (after_item, ended_item, then_walk (opens_walks k (suc i) lt o) (then_walk r.2 (closes_walks round_open k _ r.1 c)))
    item_walks (item_bracketed {d = l} {p = p} {n = n} {f = f} {t = t} o h c s v) k i e few =
        let all = bracketed_count p n f t in
        let some = tests_some f in
        let lt : length k < d = omega arith in
        let up : l + suc (length k) ≡ d = omega arith in
        let room : suc i < m = omega arith in
        let inner : suc i + length (tests_of f) ≤ m = omega arith in
        let sum : suc i + length (tests_of f) ≡ i + length (tests_of (bracketed p n f t)) = omega arith in
        let r = filter_walks h (square-open ∷ k) (suc i) up inner in
        let w = member_test_walks k (suc i + length (tests_of f)) v in
        counted sum (
          w.0,
          w.1,
          then_walk (chooses_walks k (suc i) lt room o)
              (then_walk r.2
              (then_walk (closes_walks square-open k (suc i + length (tests_of f)) r.1 c)
              (go (stands_first xs _ _ [] s) (square_dot d m k (suc i + length (tests_of f))) w.2))),
        )

    filter_walks : {c l p q : ℕ} {f : Tree} → Filter xs c l p q f → (k : List Bracket) (i : ℕ) → l + length k ≡ d → i + length (tests_of f) ≤ m → Passes d m xs k i p q f
    filter_walks (one_item h) k i e c = item_walks h k i e c
    filter_walks (one_more {f = f} {g = g} l j h) k i e c =
        let n = length-append (tests_of f) (tests_of g) in
        let some = tests_some g in
        let first : i + length (tests_of f) ≤ m = omega arith in
        let room : i + length (tests_of f) < m = omega arith in
        let second : i + length (tests_of f) + length (tests_of g) ≤ m = omega arith in
        let sum : i + length (tests_of f) + length (tests_of g) ≡ i + length (tests_of f ++ tests_of g) = omega arith in
        let r = filter_walks l k i e first in
        let t = item_walks h k (i + length (tests_of f)) e second in
        counted sum (t.0, t.1, then_walk r.2 (then_walk (connects_walks k _ room r.1 j) t.2))

  -- where a text that is a filter ends, an item has ended and no bracket is open
  over_end : (n : ℕ) {e : Phase} → Ended e → {p q : ℕ} → Spaces xs p q → (f : Phase) × (item_over f ≡ true) × Walk d m xs p (state e [] n) q (state f [] n)
  over_end n {e} h no_space = (e, ended-over h, stay)
  over_end n h (space s r) = (after-space, refl, go (stands_first xs _ 0x20 [] s) (ended_space d m [] n h) (over_spaces (spaced_space d m [] n) r))

  pub within_walks : {f : Tree} → Within d m xs f → (t : State) × (over t ≡ true) × Walk d m xs 0 start (length xs) t
  within_walks {f} w =
      let few : 0 + length (tests_of f) ≤ m = omega (arith, w.few) in
      let r = filter_walks w.filter [] 0 (add-zero d) few in
      let z = over_end (0 + length (tests_of f)) r.1 w.after in
      (state z.0 [] (0 + length (tests_of f)), z.1, then_walk (over_spaces (item_space d m [] 1) w.before) (then_walk r.2 z.2))

-- the machine goes over every beginning of a filter
pub begins_runs : {d m : ℕ} {xs : List ℕ} → Begins d m xs → (t : State) × Runs d m start xs t
begins_runs {d} {m} {xs} b =
    let w = within_walks b.is in
    let r = runs_fewer xs b.rest (walk_runs w.2 refl) in
    (r.0, r.1)
