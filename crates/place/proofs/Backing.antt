-- From what is left behind a byte to what is left from the byte on.
-- The converse of file Walking: what the machine has gone over can be read back as a derivation. For each phase, where a byte keeps the
-- machine live and what is left behind it is right for the phase that follows (`Left`), what is left from the byte on is right for this
-- phase; the cases are those of the machine's step (`back`). `walk_back` is the induction on the walk, from its end to its beginning. The
-- tests done or due and those that are left keep their sum, so that the whole has as many as the machine has counted.
-- Assumes nothing.
use Prim.Native.Nat.{ℕ, suc, ◌+◌, ◌-◌, ◌≤◌, ◌<◌}
use Prim.Native.Char.{code}
use native.Mathlib.Omega.{arith}
use native.Mathlib.Nat.{add-zero}
use mathlib.Core.Path.{◌≡◌, refl, sym, ap, subst, ◌∙◌}
use mathlib.Core.Bool.{Bool, true, false, cond}
use mathlib.Core.List.{List, [], ◌∷◌, ◌++◌, append_assoc, append-nil}
use mathlib.Core.Logic.{⊎_elim}
use lib.Dec.{eqb, leb, ltb}
use lib.ListN.{length, get_or, drop}
use lib.Seq.{drop-length}
use borrow.Author.Tests.{eqb-true, eqb-false, ltb-true}
use Rattle.base.specs.Ascii.{ascii}
use Rattle.base.specs.Lists.{all_empty, all_cons, equal}
use Rattle.base.specs.Names.{is_name_start, is_name_part, is_name, Name}
use Rattle.base.specs.Operators.{operator_words}
use Rattle.base.proofs.Tests.{or_either, cond-elim}
use Rattle.base.proofs.Lists.{equal-same}
use Rattle.base.proofs.Names.{name_iff}
use Rattle.syntax.specs.Tree.{name, Test, test, tests_of}
use Rattle.syntax.specs.declared.Connective.{Connective}
use Rattle.syntax.proofs.Bytes.{stands_escape}
use Rattle.syntax.specs.Strings.{quote, backslash, is_bare, is_plain, is_escape, nothing_more, plain, escaped}
use Rattle.syntax.specs.Grammar.{Stands, Spaces, no_space, space, gap, bare, string, Follows, the_end, a_space, a_close, a_test, connective_word, connects, opens, opens_not, closes, round, square, chooses, item_test}
use Rattle.syntax.specs.Scan.{is_space, step_of}
use Rattle.syntax.specs.declared.StringStep.{StringStep}
use Rattle.place.specs.Machine.{Phase, at_item, in_name, after_not, after-name, in_operator, after_operator, at_value, in_bare, in-string, after_item, after-space, in_connective, after_square, at_member, in_member, Bracket, round_open, square-open, close_of, closed_phase, State, state, Progress, live, deep, many, wrong, some_word, begins_operator, is_operator, opened, chosen, closed, joined, ended, in_string, step}
use Rattle.place.proofs.Walks.{At, at_stands, at_only, Walk, stay, go}
use Rattle.place.proofs.Rests.{closing, AfterLeft, end_left, close_left, choice_left, join_left, ItemLeft, item_left, left_opens, left_chooses, ValueLeft, OperatorLeft, NotLeft, NameLeft, name_left, chosen_left, not_left, MemberLeft, TestLeft, ConnectiveLeft, SpacesLeft, Left}

never : {X : Type 0} → false ≡ true → X
never h = let z : ◌≡◌ {A = ℕ} 0 1 = cc in absurd (omega arith)

-- ---- what is left after an item begins with a space, a closing byte or the end

spaces_follow : {c : ℕ} {xs : List ℕ} {p q : ℕ} → Spaces xs p q → Follows c (drop q xs) → Follows c (drop p xs)
spaces_follow no_space f = f
spaces_follow (space s r) f = rw s.1 a_space

pub after-follows : {d : ℕ} {xs : List ℕ} {k : List Bracket} {p i : ℕ} → AfterLeft d xs k p i → Follows (closing k) (drop p xs)
after-follows {xs = xs} (end_left r) = spaces_follow r (rw (drop-length xs) the_end)
after-follows (close_left (closes r s) a) = spaces_follow r (rw s.1 a_close)
after-follows (choice_left (closes r s) v t a) = spaces_follow r (rw s.1 a_close)
after-follows (join_left (connects (gap s r) w m) t e a n) = rw s.1 a_space

-- a space before what is left
after_space_left : {d : ℕ} {xs : List ℕ} {k : List Bracket} {p i : ℕ} → Stands xs p (0x20 ∷ []) → AfterLeft d xs k (p + 1) i → AfterLeft d xs k p i
after_space_left s (end_left r) = end_left (space s r)
after_space_left s (close_left (closes r c) a) = close_left (closes (space s r) c) a
after_space_left s (choice_left (closes r c) v t a) = choice_left (closes (space s r) c) v t a
after_space_left s (join_left (connects {c = c} (gap h r) w m) t e a n) = join_left {c = c} (connects {c = c} (gap s (space h r)) w m) t e a n

-- ---- the byte b at p, where the machine stays live, goes before what is left

-- the answer keeps to the limit, and what is left with it makes the same sum with the tests that are done or due
abbrev pub Backs : (d : ℕ) → List ℕ → (p : ℕ) → State → Progress → Type 0
Backs d xs p (state f k n) (live (state g l u)) = (length l ≤ d) × ((i : ℕ) → Left d xs g l (p + 1) i → (j : ℕ) × Left d xs f k p j × (n + j ≡ u + i))
Backs d xs p s deep = Unit {0}
Backs d xs p s many = Unit {0}
Backs d xs p s wrong = Unit {0}

module _ {xs : List ℕ} {p b : ℕ} (at : At xs p b) where
  byte-here : (x : ℕ) → eqb b x ≡ true → Stands xs p (x ∷ [])
  byte-here x h = subst (λ (x : ℕ). Stands xs p (x ∷ [])) (eqb-true b x h) (at_only at)

  word-here : (x : ℕ) (w : List ℕ) → eqb b x ≡ true → Stands xs (p + 1) w → Stands xs p (x ∷ w)
  word-here x w h s = subst (λ (x : ℕ). Stands xs p (x ∷ w)) (eqb-true b x h) (at_stands at w s)

moved : {d : ℕ} {xs : List ℕ} {k : List Bracket} {p q i : ℕ} → p ≡ q → AfterLeft d xs k p i → AfterLeft d xs k q i
moved {d} {xs} {k} {i = i} e a = subst (λ (x : ℕ). AfterLeft d xs k x i) e a

stands_moved : (xs : List ℕ) {p q : ℕ} (w : List ℕ) → p ≡ q → Stands xs p w → Stands xs q w
stands_moved xs w e s = subst (λ (x : ℕ). Stands xs x w) e s

spaces_moved : {xs : List ℕ} {p q r : ℕ} → p ≡ q → Spaces xs p r → Spaces xs q r
spaces_moved {xs} {r = r} e s = subst (λ (x : ℕ). Spaces xs x r) e s

is_plain_lem : (b : ℕ) → leb 0x20 b ≡ true → eqb b quote ≡ false → eqb b backslash ≡ false → is_plain b ≡ true
unfolding is_plain
is_plain_lem b h q r = rw (h, q, r)

-- the word is one of the list
word-found : (ws : List (List ℕ)) (w : List ℕ) → some_word (λ u. equal w u) ws ≡ true → (o : ℕ) × (o < length ws) × (get_or ws o [] ≡ w)
unfolding some_word
word-found [] w h = never h
word-found (u ∷ us) w h =
    ⊎_elim (λ e. (0, omega arith, sym (equal-same w u e)))
    (λ e. let r = word-found us w e in (suc r.0, omega (arith, r.1), r.2)) (or_either (equal w u) (some_word (λ v. equal w v) us) h)

one_count : (t : Test) (i : ℕ) → length (tests_of (test t)) + i ≡ suc i
unfolding tests_of
one_count t i = omega arith

module _ (d m : ℕ) (xs : List ℕ) (p b : ℕ) (at : At xs p b) where
  -- ---- after an item

  -- a bracket closes behind the spaces from q on
  closed-left : (s : Bracket) (k : List Bracket) (q i : ℕ) → Spaces xs q p → eqb b (close_of s) ≡ true → Left d xs (closed_phase s) k (p + 1) i → AfterLeft d xs (s ∷ k) q i
  closed-left round_open k q i r h a = close_left (closes r (byte-here at round h)) a
  closed-left square-open k q i r h v = choice_left (closes r (byte-here at square h)) v.dot v.test.is v.test.left

  back-closed : (k : List Bracket) (n : ℕ) → length k ≤ d → Backs d xs p (state after_item k n) (closed k n b)
  back-closed [] n l = tt
  back-closed (s ∷ k) n l =
      cond-elim (Backs d xs p (state after_item (s ∷ k) n)) (eqb b (close_of s)) (λ h. (omega arith, λ i v. (i, closed-left s k p i no_space h v, refl))) (λ h. tt)

  back-ended : (k : List Bracket) (n : ℕ) → length k ≤ d → Backs d xs p (state after_item k n) (ended k n b)
  back-ended k n l =
      cond-elim (Backs d xs p (state after_item k n)) (is_space b) (λ h. (l, λ i v. (i, v.left p refl (byte-here at 0x20 h), refl)))
      (λ s. back-closed k n l)

  -- the end of a bare word
  back_as_bare : (k : List Bracket) (n : ℕ) (s : Progress) → Backs d xs p (state after_item k n) s → Backs d xs p (state in_bare k n) s
  back_as_bare k n (live (state g l u)) h =
      (h.0, λ i v. let r = h.1 i v in (r.0, record { word = []; stands = (drop p xs, refl); bare = all_empty; left = moved (sym (add-zero p)) r.1 }, r.2))
  back_as_bare k n deep h = tt
  back_as_bare k n many h = tt
  back_as_bare k n wrong h = tt

  back_bare : (k : List Bracket) (n : ℕ) → length k ≤ d → Backs d xs p (state in_bare k n) (step d m (state in_bare k n) b)
  unfolding step
  back_bare k n l =
      cond-elim (Backs d xs p (state in_bare k n)) (is_bare b)
      (λ h. (l, λ i v. (i, record { word = b ∷ v.word; stands = at_stands at v.word v.stands; bare = all_cons h v.bare; left = moved (omega arith) v.left }, refl)))
      (λ h. back_as_bare k n (ended k n b) (back-ended k n l))

  back-after-item : (k : List Bracket) (n : ℕ) → length k ≤ d → Backs d xs p (state after_item k n) (step d m (state after_item k n) b)
  unfolding step
  back-after-item k n l = back-ended k n l

  back-spaced-closed : (k : List Bracket) (n : ℕ) → length k ≤ d → Backs d xs p (state after-space k n) (closed k n b)
  back-spaced-closed [] n l = tt
  back-spaced-closed (s ∷ k) n l =
      cond-elim (Backs d xs p (state after-space (s ∷ k) n)) (eqb b (close_of s))
      (λ h. (omega arith, λ i v. (i, record { left = λ q e t. closed-left s k q i (space t (spaces_moved (sym e) no_space)) h v }, refl))) (λ h. tt)

  back-joined : (k : List Bracket) (n : ℕ) (c : Connective) (w : List ℕ) → length k ≤ d → connective_word c ≡ b ∷ w → Backs d xs p (state after-space k n) (joined m w k n)
  back-joined k n c w l e =
      cond-elim (Backs d xs p (state after-space k n)) (ltb n m)
      (λ h. (
        l,
        λ i v.
            (suc i, record { left = λ q z s. joins i v q z s }, omega arith),
      ))
      (λ h. tt)
    where
      joins : (i : ℕ) → ConnectiveLeft d xs k w (p + 1) i → (q : ℕ) → q + 1 ≡ p → Stands xs q (0x20 ∷ []) → AfterLeft d xs k q (suc i)
      joins i v q z s = go v.item
        where
          word : Stands xs p (connective_word c)
          word = subst (Stands xs p) (sym e) (at_stands at w v.stands)

          long : p + 1 + length w ≡ p + length (connective_word c)
          long = omega (arith, ap length e)

          go : ItemLeft d xs k v.start i → AfterLeft d xs k q (suc i)
          go (item_left t y a n) = join_left {c = c} (connects {c = c} (gap s (spaces_moved (sym z) no_space)) word (spaces_moved long v.spaces)) t y a n

  back-after_space : (k : List Bracket) (n : ℕ) → length k ≤ d → Backs d xs p (state after-space k n) (step d m (state after-space k n) b)
  unfolding step
  back-after_space k n l =
      cond-elim (Backs d xs p (state after-space k n)) (is_space b)
      (λ h. (l, λ i v. (i, record { left = λ q e s. after_space_left s (moved (sym e) (v.left p refl (byte-here at 0x20 h))) }, refl)))
      (λ s. cond-elim (Backs d xs p (state after-space k n)) (eqb b (code "a")) (λ h. back-joined k n Connective.And (ascii "nd ") l (ap (λ (x : ℕ). x ∷ ascii "nd ") (sym (eqb-true b (code "a") h))))
      (λ a. cond-elim (Backs d xs p (state after-space k n)) (eqb b (code "o")) (λ h. back-joined k n Connective.Or (ascii "r ") l (ap (λ (x : ℕ). x ∷ ascii "r ") (sym (eqb-true b (code "o") h))))
      (λ o. back-spaced-closed k n l)))

  back_connective : (w : List ℕ) (k : List Bracket) (n : ℕ) → length k ≤ d → Backs d xs p (state (in_connective w) k n) (step d m (state (in_connective w) k n) b)
  unfolding step
  back_connective [] k n l = tt
  back_connective (x ∷ []) k n l =
      cond-elim (Backs d xs p (state (in_connective (x ∷ [])) k n)) (eqb b x)
      (λ h. (l, λ i v. (i, record { start = v.start; stands = byte-here at x h; spaces = v.spaces; item = v.item }, refl))) (λ h. tt)
  back_connective (x ∷ y ∷ w) k n l =
      cond-elim (Backs d xs p (state (in_connective (x ∷ y ∷ w)) k n)) (eqb b x)
      (λ h. (l, λ i v. (i, record { start = v.start; stands = word-here at x (y ∷ w) h v.stands; spaces = spaces_moved (omega arith) v.spaces; item = v.item }, refl))) (λ h. tt)

  -- ---- values

  back-value : (k : List Bracket) (n : ℕ) → length k ≤ d → Backs d xs p (state at_value k n) (step d m (state at_value k n) b)
  unfolding step
  back-value k n l =
      cond-elim (Backs d xs p (state at_value k n)) (is_space b)
      (λ h. (l, λ i v. (i, record { start = v.start; end = v.end; bytes = v.bytes; spaces = space (byte-here at 0x20 h) v.spaces; value = v.value; left = v.left }, refl)))
      (λ s. cond-elim (Backs d xs p (state at_value k n)) (eqb b quote)
      (λ h. (
        l,
        λ i v.
            (i, record { start = p; end = p + (length v.body + 2); bytes = v.bytes; spaces = no_space; value = string (word-here at quote (v.body ++ (quote ∷ [])) h v.stands) v.quoted; left = moved (omega arith) v.left }, refl),
      ))
      (λ q. cond-elim (Backs d xs p (state at_value k n)) (is_bare b)
      (λ h. (
        l,
        λ i v.
            (i, record { start = p; end = p + length (b ∷ v.word); bytes = b ∷ v.word; spaces = no_space; value = bare (at_stands at v.word v.stands) (all_cons h v.bare) (eqb-false b quote q); left = moved (omega arith) v.left }, refl),
      ))
      (λ h. tt)))

  back_escape : (k : List Bracket) (n : ℕ) → length k ≤ d → Backs d xs p (state (in-string true) k n) (in_string k n (step_of true b))
  unfolding step_of
  back_escape k n l = go (is_escape b) refl
    where
      go : (t : Bool) → is_escape b ≡ t → Backs d xs p (state (in-string true) k n) (in_string k n (cond t (StringStep.More false) StringStep.Wrong))
      go true h =
          (l, λ i v. (i, record { body = b ∷ v.body; bytes = _; stands = at_stands at (v.body ++ (quote ∷ [])) v.stands; quoted = escaped (stands_escape b h) v.quoted; left = moved (omega arith) v.left }, refl))
      go false h = tt

  back-plain : (k : List Bracket) (n : ℕ) → length k ≤ d → Backs d xs p (state (in-string false) k n) (in_string k n (step_of false b))
  unfolding step_of
  back-plain k n l = go (eqb b quote) refl (eqb b backslash) refl (leb 0x20 b) refl
    where
      go : (t : Bool) → eqb b quote ≡ t → (u : Bool) → eqb b backslash ≡ u → (v : Bool) → leb 0x20 b ≡ v
          → Backs d xs p (state (in-string false) k n) (in_string k n (cond t StringStep.Close (cond u (StringStep.More true) (cond v (StringStep.More false) StringStep.Wrong))))
      go true q u r v h = (l, λ i a. (i, record { body = []; bytes = []; stands = byte-here at quote q; quoted = nothing_more; left = a }, refl))
      go false q true r v h = (
        l,
        λ i a. (
          i,
          record {
            body = backslash ∷ a.body;
            bytes = a.bytes;
            stands = word-here at backslash (a.body ++ (quote ∷ [])) r a.stands;
            quoted = a.quoted;
            left = moved (omega arith) a.left;
          },
          refl,
        ),
      )
      go false q false r true h = (
        l,
        λ i a. (
          i,
          record {
            body = b ∷ a.body;
            bytes = b ∷ a.bytes;
            stands = at_stands at (a.body ++ (quote ∷ [])) a.stands;
            quoted = plain {b = b} (is_plain_lem b h q r) a.quoted;
            left = moved (omega arith) a.left;
          },
          refl,
        ),
      )
      go false q false r false h = tt

  back-string : (pending : Bool) (k : List Bracket) (n : ℕ) → length k ≤ d → Backs d xs p (state (in-string pending) k n) (step d m (state (in-string pending) k n) b)
  unfolding step
  back-string true k n l = back_escape k n l
  back-string false k n l = back-plain k n l

  -- ---- operators

  back-after-operator : (k : List Bracket) (n : ℕ) → length k ≤ d → Backs d xs p (state after_operator k n) (step d m (state after_operator k n) b)
  unfolding step
  back-after-operator k n l =
      cond-elim (Backs d xs p (state after_operator k n)) (is_space b) (λ h. (l, λ i v. (i, record { space = byte-here at 0x20 h; value = v }, refl))) (λ h. tt)

  back-operator : (x : ℕ) (k : List Bracket) (n : ℕ) → length k ≤ d → Backs d xs p (state (in_operator x) k n) (step d m (state (in_operator x) k n) b)
  unfolding step is_operator
  back-operator x k n l =
      cond-elim (Backs d xs p (state (in_operator x) k n)) (is_operator (x ∷ b ∷ []))
      (λ h. let w = word-found operator_words (x ∷ b ∷ []) h in
      (l, λ i v. (i, record { operator = w.0; letter = b; one_of = w.1; spelt = w.2; second = at_only at; space = v.space; value = v.value }, refl)))
      (λ h. tt)

  back-after-name : (k : List Bracket) (n : ℕ) → length k ≤ d → Backs d xs p (state after-name k n) (step d m (state after-name k n) b)
  unfolding step
  back-after-name k n l =
      cond-elim (Backs d xs p (state after-name k n)) (is_space b)
      (λ h. (l, λ i v. (i, record { start = v.start; operator = v.operator; spaces = space (byte-here at 0x20 h) v.spaces; is = v.is; space = v.space; value = v.value }, refl)))
      (λ s. cond-elim (Backs d xs p (state after-name k n)) (begins_operator b)
      (λ h. (
        l,
        λ i v.
            let two : p + 1 + 1 ≡ p + 2 = omega arith in (
              i,
              record {
                start = p;
                operator = v.operator;
                spaces = no_space;
                is = record { one_of = v.one_of; stands = subst (Stands xs p) (sym v.spelt) (at_stands at (v.letter ∷ []) v.second) };
                space = stands_moved xs (0x20 ∷ []) two v.space;
                value = subst (λ (q : ℕ). ValueLeft d xs k (q + 1) i) two v.value;
              },
              refl,
            ),
      ))
      (λ h. tt))

  -- ---- brackets

  back-opened : (k : List Bracket) (n : ℕ) (f : Phase) → ((i : ℕ) → SpacesLeft d xs (round_open ∷ k) (p + 1) i → Left d xs f k p i) → Backs d xs p (state f k n) (opened d k n)
  back-opened k n f g =
      cond-elim (Backs d xs p (state f k n)) (ltb (length k) d) (λ h. (ltb-true (length k) d h, λ i v. (i, g i v, refl))) (λ h. tt)

  bracket_here : (k : List Bracket) (i : ℕ) → eqb b (code "(") ≡ true → SpacesLeft d xs (round_open ∷ k) (p + 1) i → NotLeft d xs k p i
  bracket_here k i h v = record { bracket = p; start = v.start; spaces = no_space; opens = byte-here at (code "(") h; inside = v.spaces; item = v.item }

  not_spaced : (k : List Bracket) (i : ℕ) → is_space b ≡ true → NotLeft d xs k (p + 1) i → NotLeft d xs k p i
  not_spaced k i h v =
      record { bracket = v.bracket; start = v.start; spaces = space (byte-here at 0x20 h) v.spaces; opens = v.opens; inside = v.inside; item = v.item }

  back-after_not : (k : List Bracket) (n : ℕ) → length k ≤ d → Backs d xs p (state after_not k n) (step d m (state after_not k n) b)
  unfolding step
  back-after_not k n l =
      cond-elim (Backs d xs p (state after_not k n)) (is_space b)
      (λ h. cond-elim (Backs d xs p (state after_not k n)) (ltb (length k) d) (λ t. (l, λ i v. (i, not_spaced k i h v, refl))) (λ t. tt))
      (λ s. cond-elim (Backs d xs p (state after_not k n)) (eqb b (code "(")) (λ h. back-opened k n after_not (λ i v. bracket_here k i h v)) (λ h. tt))

  -- ---- names

  name_back : (k : List Bracket) (i : ℕ) (w : List ℕ) → NameLeft d xs k (w ++ (b ∷ [])) (p + 1) i → NameLeft d xs k w p i
  name_back k i w (name_left r s h g o) =
      let long : p + 1 + length r ≡ p + length (b ∷ r) = omega arith in
      name_left (b ∷ r) (at_stands at r s) (subst Name (append_assoc w (b ∷ []) r) h) (stands_moved xs (0x20 ∷ []) long g) (subst (λ (q : ℕ). OperatorLeft d xs k (q + 1) i) long o)
  name_back k i w (chosen_left r s h g o t e) =
      let long : p + 1 + length r ≡ p + length (b ∷ r) = omega arith in
      chosen_left (b ∷ r) (at_stands at r s) (subst Name (append_assoc w (b ∷ []) r) h) (stands_moved xs (ascii "[") long g) (spaces_moved (ap (λ (q : ℕ). q + 1) long) o) t e
  name_back k i w (not_left r s h o) =
      let long : p + 1 + length r ≡ p + length (b ∷ r) = omega arith in
      not_left (b ∷ r) (at_stands at r s) (sym (append_assoc w (b ∷ []) r) ∙ h) (subst (λ (q : ℕ). NotLeft d xs k q i) long o)

  -- the name is whole: nothing of it is left
  whole-name : (w : List ℕ) → is_name w ≡ true → Name (w ++ [])
  whole-name w h = subst Name (sym (append-nil w)) ((name_iff w).0 h)

  name-ends : (k : List Bracket) (i : ℕ) (w : List ℕ) → is_name w ≡ true → is_space b ≡ true → OperatorLeft d xs k (p + 1) i → NameLeft d xs k w p i
  name-ends k i w h s o =
      let zero-on : p ≡ p + 0 = sym (add-zero p) in
      name_left [] (drop p xs, refl) (whole-name w h) (stands_moved xs (0x20 ∷ []) zero-on (byte-here at 0x20 s)) (subst (λ (q : ℕ). OperatorLeft d xs k (q + 1) i) zero-on o)

  name-chosen : (k : List Bracket) (i : ℕ) (w : List ℕ) → is_name w ≡ true → eqb b (code "[") ≡ true → SpacesLeft d xs (square-open ∷ k) (p + 1) i → NameLeft d xs k w p (suc i)
  name-chosen k i w h s v =
      let zero-on : p ≡ p + 0 = sym (add-zero p) in
      chosen_left [] (drop p xs, refl) (whole-name w h) (stands_moved xs (ascii "[") zero-on (byte-here at (code "[") s)) (spaces_moved (ap (λ (q : ℕ). q + 1) zero-on) v.spaces) v.item refl

  not_ends_lem : (k : List Bracket) (i : ℕ) (w : List ℕ) → equal w (ascii "not") ≡ true → NotLeft d xs k p i → NameLeft d xs k w p i
  not_ends_lem k i w h o =
      not_left [] (drop p xs, refl) (append-nil w ∙ equal-same w (ascii "not") h) (subst (λ (q : ℕ). NotLeft d xs k q i) (sym (add-zero p)) o)

  back-chosen : (k : List Bracket) (n : ℕ) (w : List ℕ) → is_name w ≡ true → eqb b (code "[") ≡ true → Backs d xs p (state (in_name w) k n) (chosen d m k n)
  back-chosen k n w h s =
      let P : Progress → Type 0 = Backs d xs p (state (in_name w) k n) in
      cond-elim P (ltb (length k) d)
      (λ t. cond-elim P (ltb n m) (λ c. (ltb-true (length k) d t, λ i v. (suc i, name-chosen k i w h s v, omega arith))) (λ c. tt))
      (λ t. cond-elim P (ltb n m) (λ c. tt) (λ c. tt))

  back-name : (w : List ℕ) (k : List Bracket) (n : ℕ) → length k ≤ d → Backs d xs p (state (in_name w) k n) (step d m (state (in_name w) k n) b)
  unfolding step
  back-name w k n l =
      let P : Progress → Type 0 = Backs d xs p (state (in_name w) k n) in
      cond-elim P (is_name_part b) (λ h. (l, λ i v. (i, name_back k i w v, refl)))
      (λ c. cond-elim P (is_name w)
      (λ h. cond-elim P (is_space b) (λ s. (l, λ i v. (i, name-ends k i w h s v, refl))) (λ s. cond-elim P (eqb b (code "[")) (λ s. back-chosen k n w h s) (λ s. tt)))
      (λ c. cond-elim P (equal w (ascii "not"))
      (λ e. cond-elim P (is_space b)
      (λ s. cond-elim P (ltb (length k) d) (λ t. (l, λ i v. (i, not_ends_lem k i w e (not_spaced k i s v), refl))) (λ t. tt))
      (λ s. cond-elim P (eqb b (code "(")) (λ h. back-opened k n (in_name w) (λ i v. not_ends_lem k i w e (bracket_here k i h v))) (λ h. tt)))
      (λ e. tt)))

  -- ---- items

  -- a test whose name begins with the byte
  test_starts : (k : List Bracket) (i : ℕ) (r : List ℕ) → Stands xs (p + 1) r → Name (b ∷ r) → Stands xs (p + 1 + length r) (0x20 ∷ []) → OperatorLeft d xs k (p + 1 + length r + 1) i
      → TestLeft d xs k p i
  test_starts k i r s h g o =
      let long : p + 1 + length r ≡ p + length (b ∷ r) = omega arith in
      let v = o.value in
      record {
        end = v.end;
        test = record { at = p; path = name (b ∷ r); operator = o.operator; value = v.bytes };
        is = a_test (at_stands at r s) h (gap (stands_moved xs (0x20 ∷ []) long g) (spaces_moved (ap (λ (q : ℕ). q + 1) long) o.spaces)) o.is (gap o.space v.spaces) v.value (after-follows v.left);
        left = v.left;
      }

  item-starts : (k : List Bracket) (i : ℕ) → length k ≤ d → NameLeft d xs k (b ∷ []) (p + 1) i → ItemLeft d xs k p i
  item-starts k i l (name_left r s h g o) =
      let t = test_starts k i r s h g o in
      item_left {l = d - length k} (item_test t.is) (omega arith) t.left (one_count t.test i)
  item-starts k i l (chosen_left r s h g o t e) =
      let long : p + 1 + length r ≡ p + length (b ∷ r) = omega arith in
      subst (ItemLeft d xs k p) e
      (left_chooses (chooses (at_stands at r s) h (stands_moved xs (ascii "[") long g) (spaces_moved (ap (λ (q : ℕ). q + 1) long) o)) t)
  item-starts k i l (not_left r s h o) =
      let word : Stands xs p (ascii "not") = subst (Stands xs p) h (at_stands at r s) in
      let long : p + 1 + length r ≡ p + 3 = omega (arith, ap length h) in
      left_opens (opens_not word (spaces_moved long o.spaces) o.opens o.inside) o.item

  back-item : (k : List Bracket) (n : ℕ) → length k ≤ d → Backs d xs p (state at_item k n) (step d m (state at_item k n) b)
  unfolding step
  back-item k n l =
      let P : Progress → Type 0 = Backs d xs p (state at_item k n) in
      cond-elim P (is_space b) (λ h. (l, λ i v. (i, record { start = v.start; spaces = space (byte-here at 0x20 h) v.spaces; item = v.item }, refl)))
      (λ s. cond-elim P (eqb b (code "("))
      (λ h. back-opened k n at_item (λ i v. record { start = p; spaces = no_space; item = left_opens (opens (byte-here at (code "(") h) v.spaces) v.item }))
      (λ o. cond-elim P (is_name_start b) (λ h. (l, λ i v. (i, record { start = p; spaces = no_space; item = item-starts k i l v }, refl))) (λ h. tt)))

  -- ---- members

  member_back : (k : List Bracket) (i : ℕ) (w : List ℕ) → MemberLeft d xs k (w ++ (b ∷ [])) (p + 1) i → MemberLeft d xs k w p i
  member_back k i w v =
      let r = v.rest in
      let long : p + 1 + length r ≡ p + length (b ∷ r) = omega arith in
      record {
        rest = b ∷ r;
        stands = at_stands at r v.stands;
        name = subst Name (append_assoc w (b ∷ []) r) v.name;
        space = stands_moved xs (0x20 ∷ []) long v.space;
        operator = subst (λ (q : ℕ). OperatorLeft d xs k (q + 1) i) long v.operator;
      }

  member-ends : (k : List Bracket) (i : ℕ) (w : List ℕ) → is_name w ≡ true → is_space b ≡ true → OperatorLeft d xs k (p + 1) i → MemberLeft d xs k w p i
  member-ends k i w h s o =
      let zero-on : p ≡ p + 0 = sym (add-zero p) in
      record {
        rest = [];
        stands = (drop p xs, refl);
        name = whole-name w h;
        space = stands_moved xs (0x20 ∷ []) zero-on (byte-here at 0x20 s);
        operator = subst (λ (q : ℕ). OperatorLeft d xs k (q + 1) i) zero-on o;
      }

  back-after-square : (k : List Bracket) (n : ℕ) → length k ≤ d → Backs d xs p (state after_square k n) (step d m (state after_square k n) b)
  unfolding step
  back-after-square k n l =
      cond-elim (Backs d xs p (state after_square k n)) (eqb b (code ".")) (λ h. (l, λ i v. (i, record { dot = byte-here at (code ".") h; test = v }, refl))) (λ h. tt)

  back-at-member : (k : List Bracket) (n : ℕ) → length k ≤ d → Backs d xs p (state at_member k n) (step d m (state at_member k n) b)
  unfolding step
  back-at-member k n l =
      cond-elim (Backs d xs p (state at_member k n)) (is_name_start b)
      (λ h. (l, λ i v. (i, test_starts k i v.rest v.stands v.name v.space v.operator, refl))) (λ h. tt)

  back-member : (w : List ℕ) (k : List Bracket) (n : ℕ) → length k ≤ d → Backs d xs p (state (in_member w) k n) (step d m (state (in_member w) k n) b)
  unfolding step
  back-member w k n l =
      let P : Progress → Type 0 = Backs d xs p (state (in_member w) k n) in
      cond-elim P (is_name_part b) (λ h. (l, λ i v. (i, member_back k i w v, refl)))
      (λ c. cond-elim P (is_name w) (λ h. cond-elim P (is_space b) (λ s. (l, λ i v. (i, member-ends k i w h s v, refl))) (λ s. tt)) (λ h. tt))

  -- ---- every phase

  pub back : (f : Phase) (k : List Bracket) (n : ℕ) → length k ≤ d → Backs d xs p (state f k n) (step d m (state f k n) b)
  back at_item k n l = back-item k n l
  back (in_name w) k n l = back-name w k n l
  back after_not k n l = back-after_not k n l
  back after-name k n l = back-after-name k n l
  back (in_operator x) k n l = back-operator x k n l
  back after_operator k n l = back-after-operator k n l
  back at_value k n l = back-value k n l
  back in_bare k n l = back_bare k n l
  back (in-string pending) k n l = back-string pending k n l
  back after_item k n l = back-after-item k n l
  back after-space k n l = back-after_space k n l
  back (in_connective w) k n l = back_connective w k n l
  back after_square k n l = back-after-square k n l
  back at_member k n l = back-at-member k n l
  back (in_member w) k n l = back-member w k n l

-- ---- from the end of a walk to its beginning

abbrev pub StateLeft : (d : ℕ) → List ℕ → State → ℕ → ℕ → Type 0
StateLeft d xs (state f k n) p i = Left d xs f k p i

abbrev pub open_of : State → List Bracket
open_of (state f k n) = k

abbrev pub tests_due : State → ℕ
tests_due (state f k n) = n

pub walk_back : {d m : ℕ} {xs : List ℕ} {p q : ℕ} {s t : State} → Walk d m xs p s q t → length (open_of s) ≤ d → (i : ℕ) → StateLeft d xs t q i
    → (j : ℕ) × StateLeft d xs s p j × (tests_due s + j ≡ tests_due t + i)
walk_back stay h i v = (i, v, refl)
walk_back {d} {m} {xs} (go {p = p} {b = b} {s = state f k n} {t = state g l u} a e w) h i v =
    let c : Backs d xs p (state f k n) (live (state g l u)) = subst (Backs d xs p (state f k n)) e (back d m xs p b a f k n h) in
    let r = walk_back w c.0 i v in
    let z = c.1 r.0 r.1 in
    (z.0, z.1, z.2 ∙ r.2)
