-- Connectives and brackets: the scans find what the grammar asks for, and all of it.
-- Of each part: what the scan finds is derived (`-derived`, by the tests that the scan made); what is derived is found (`-found`, by the
-- cases of the derivation), where no space stands at its end, or the closing byte is no space, so that skipping spaces stops just there;
-- and the code, branch by branch, is the scan. What keeps the readings apart is here: where a bracket opens, no test and no name with a
-- square bracket begins (`open_no_test`, `open_no_choice`), where such a name begins, no test does (`choice_found`), and no connective
-- comes before a closing byte or the end of the text (`close_no_connective`, `end_no_connective`).
-- Assumes nothing.
use Rattle.std.specs.Prelude.{Option, Some, None}
use Prim.Native.Nat.{ℕ, ◌+◌, ◌-◌, ◌≤◌}
use Prim.Native.Char.{code}
use native.Mathlib.Omega.{arith}
use mathlib.Core.Path.{◌≡◌, refl, ap, sym, ◌∙◌, subst}
use mathlib.Core.Bool.{Bool, true, false, cond}
use mathlib.Core.List.{List, [], ◌∷◌}
use lib.Dec.{eqb}
use lib.ListN.{length, take, drop, length-drop, length-append}
use lib.Seq.{drop-length}
use borrow.Author.Tests.{eq-eqb, ne_eqb}
use Rattle.base.specs.Ascii.{ascii}
use Rattle.base.specs.Digits.{is_digit}
use Rattle.base.specs.Lists.{every, equal}
use Rattle.base.specs.Between.{between}
use Rattle.base.specs.Names.{is_letter, is_name_start, is_name_part, is_reserved, is_name}
use Rattle.base.specs.Affixes.{has_prefix}
use Rattle.base.specs.Runs.{run, run_end, RunEnd}
use Rattle.syntax.specs.Grammar.{Stands, Spaces, no_space, space, connective_word, Connects, connects, Opens, opens, opens_not, Closes, closes, Chooses, chooses, square}
use Rattle.syntax.specs.Scan.{is_space, skip_at, has, name_end, test_operator, test_at, open_at, test_or, choice_at, choice_or, head_at, test_in, member_at, member_after, connective_at, close_at, link}
use Rattle.syntax.specs.declared.RawTest.{RawTest}
use Rattle.syntax.specs.declared.Head.{Head}
use Rattle.syntax.specs.declared.Connective.{Connective}
use Rattle.syntax.specs.declared.Link.{Link}
use Rattle.syntax.proofs.Words.{taken_stands, has_stands, stands_has, stands_within, stands_after, NoSpaceAt, stands_no_space, end_no_space, skip_spaces, skip_gap, spaces_skip, gap_skip, spaces_rise, gap_rise}
use Rattle.base.proofs.Tests.{cond-elim}
use Rattle.base.specs.Parts.{part}
use Rattle.base.proofs.Names.{name_iff}
use Rattle.syntax.proofs.Values.{part_at}
use Rattle.syntax.proofs.Tests.{gap_moves, name_end_lem, name_end_part}

-- ---- what is found is there

abbrev pub OpenDerived : List ℕ → ℕ → Option Head → Type 0
OpenDerived xs p (Some (Head.Test r)) = ⊥
OpenDerived xs p (Some (Head.Open q b)) = Opens xs p q b
OpenDerived xs p (Some (Head.Choice e)) = ⊥
OpenDerived xs p None = Unit {0}

pub open_derived : (xs : List ℕ) (p : ℕ) → OpenDerived xs p (open_at xs p)
unfolding open_at
open_derived xs p =
    cond-elim (OpenDerived xs p) (has xs p (ascii "(")) (λ e. opens (has_stands xs p (ascii "(") e) (skip_spaces xs (p + 1)))
    (λ n. cond-elim (OpenDerived xs p) (has xs p (ascii "not"))
    (λ e. cond-elim (OpenDerived xs p) (has xs (skip_at xs (p + 3)) (ascii "("))
    (λ f. opens_not (has_stands xs p (ascii "not") e) (skip_spaces xs (p + 3)) (has_stands xs (skip_at xs (p + 3)) (ascii "(") f) (skip_spaces xs (skip_at xs (p + 3) + 1)))
    (λ f. tt))
    (λ e. tt))

abbrev pub ChoiceDerived : List ℕ → ℕ → Option ℕ → Type 0
ChoiceDerived xs p (Some e) = Chooses xs p (skip_at xs (e + 1)) (part xs p e)
ChoiceDerived xs p None = Unit {0}

pub choice_derived : (xs : List ℕ) (p : ℕ) → ChoiceDerived xs p (choice_at xs p)
unfolding choice_at
choice_derived xs p =
    let e : ℕ = name_end xs p in
    let l : e ≡ p + length (part xs p e) = name_end_part xs p in
    cond-elim (ChoiceDerived xs p) (is_name (part xs p e))
    (λ n. cond-elim (ChoiceDerived xs p) (has xs e (ascii "["))
    (λ h. chooses (taken_stands xs p (e - p)) ((name_iff (part xs p e)).0 n) (subst (λ (m : ℕ). Stands xs m (ascii "[")) l (has_stands xs e (ascii "[") h))
    (subst (λ (m : ℕ). Spaces xs (m + 1) (skip_at xs (e + 1))) l (skip_spaces xs (e + 1))))
    (λ _. tt))
    (λ _. tt)

abbrev pub ConnectiveDerived : List ℕ → ℕ → Option Link → Type 0
ConnectiveDerived xs p (Some l) = Connects xs p l.next l.connective
ConnectiveDerived xs p None = Unit {0}

pub connective_derived : (xs : List ℕ) (p : ℕ) → ConnectiveDerived xs p (connective_at xs p)
unfolding connective_at
connective_derived xs p =
    let a : ℕ = skip_at xs p in
    cond-elim (ConnectiveDerived xs p) (eqb a p) (λ e. tt)
    (λ n. cond-elim (ConnectiveDerived xs p) (has xs a (ascii "and "))
    (λ e. connects {c = Connective.And} (skip_gap xs p n) (has_stands xs a (ascii "and ") e) (skip_spaces xs (a + 4)))
    (λ m. cond-elim (ConnectiveDerived xs p) (has xs a (ascii "or "))
    (λ e. connects {c = Connective.Or} (skip_gap xs p n) (has_stands xs a (ascii "or ") e) (skip_spaces xs (a + 3)))
    (λ e. tt)))

abbrev pub CloseDerived : List ℕ → ℕ → ℕ → Option ℕ → Type 0
CloseDerived xs close p (Some q) = Closes xs close p q
CloseDerived xs close p None = Unit {0}

pub close_derived : (xs : List ℕ) (close p : ℕ) → CloseDerived xs close p (close_at xs close p)
unfolding close_at
close_derived xs close p =
    cond-elim (CloseDerived xs close p) (has xs (skip_at xs p) (close ∷ []))
    (λ e. closes (skip_spaces xs p) (has_stands xs (skip_at xs p) (close ∷ []) e)) (λ e. tt)

-- ---- what is there is found

pub open_found : {xs : List ℕ} {p q : ℕ} {b : Bool} → Opens xs p q b → NoSpaceAt xs q → open_at xs p ≡ Some (Head.Open q b)
unfolding open_at has_prefix
open_found (opens s r) n = rw (s.1, spaces_skip r n)
open_found {xs} (opens_not {a = a} s r m u) n =
    rw (s.1, spaces_skip r (stands_no_space xs a _ [] m refl), m.1, spaces_skip u n)

-- after "not" in front of a bracket no name goes on
not_ends_lem : {xs : List ℕ} {p a : ℕ} → Spaces xs p a → Stands xs a (ascii "(") → run is_name_part (drop p xs) ≡ 0
unfolding run is_name_part is_name_start is_letter between is_digit
not_ends_lem no_space s = rw s.1
not_ends_lem (space m r) s = rw m.1

-- where the bytes that could be a name are none, no test begins
no_name : (xs : List ℕ) (close p n : ℕ) → run is_name_part (drop p xs) ≡ n → is_name (take n (drop p xs)) ≡ false → test_at xs close p ≡ None
unfolding test_at run_end
no_name xs close p n e f =
    let k : p + n - p ≡ n = omega arith in
    rw (e, k, f)

pub open_no_test : {xs : List ℕ} {p q : ℕ} {b : Bool} → Opens xs p q b → (close : ℕ) → test_at xs close p ≡ None
unfolding run is_name_part is_name_start is_letter between is_digit is_name is_reserved equal every
open_no_test {xs} (opens {p = p} s r) close = no_name xs close p 0 (rw s.1) refl
open_no_test {xs} (opens_not {p = p} s r m n) close =
    let z : run is_name_part s.0 ≡ 0 = ap (run is_name_part) (sym (stands_after xs p (ascii "not") s)) ∙ not_ends_lem r m in
    no_name xs close p 3 (rw (s.1, z)) (rw s.1)

-- a name ends where "[" stands, and no test begins with it
pub record ChoiceFound (xs : List ℕ) (close p q : ℕ) (n : List ℕ) : Type 0 where
  pub no_test : test_at xs close p ≡ None
  pub found : choice_at xs p ≡ Some (p + length n)
  pub name : part xs p (p + length n) ≡ n
  pub from : skip_at xs (p + length n + 1) ≡ q

bracket_name_end : (xs : List ℕ) (p : ℕ) → Stands xs p (ascii "[") → run is_name_part (drop p xs) ≡ 0
unfolding run is_name_part is_name_start is_letter between is_digit
bracket_name_end xs p s = rw s.1

pub choice_found : {xs : List ℕ} {p q : ℕ} {n : List ℕ} → Chooses xs p q n → NoSpaceAt xs q → (close : ℕ) → ChoiceFound xs close p q n
unfolding test_at test_operator choice_at
choice_found {xs} (chooses {p = p} {q = q} {n = n} s h b r) free close =
    let e : name_end xs p ≡ p + length n = name_end_lem xs p n s h (bracket_name_end xs (p + length n) b) in
    let m : part xs p (p + length n) ≡ n = part_at xs p (p + length n) n s.0 s.1 refl in
    let k : skip_at xs (p + length n) ≡ p + length n = spaces_skip no_space (stands_no_space xs (p + length n) _ [] b refl) in
    record {
      no_test = rw (e, m, (name_iff n).1 h, k, eq-eqb (p + length n) (p + length n) refl);
      found = rw (e, m, (name_iff n).1 h, stands_has xs (p + length n) (ascii "[") b);
      name = m;
      from = spaces_skip r free;
    }

no_choice : (xs : List ℕ) (p n : ℕ) → run is_name_part (drop p xs) ≡ n → is_name (take n (drop p xs)) ≡ false → choice_at xs p ≡ None
unfolding choice_at run_end
no_choice xs p n e f =
    let k : p + n - p ≡ n = omega arith in
    rw (e, k, f)

pub open_no_choice : {xs : List ℕ} {p q : ℕ} {b : Bool} → Opens xs p q b → choice_at xs p ≡ None
unfolding run is_name_part is_name_start is_letter between is_digit is_name is_reserved equal every
open_no_choice {xs} (opens {p = p} s r) = no_choice xs p 0 (rw s.1) refl
open_no_choice {xs} (opens_not {p = p} s r m n) =
    let z : run is_name_part s.0 ≡ 0 = ap (run is_name_part) (sym (stands_after xs p (ascii "not") s)) ∙ not_ends_lem r m in
    no_choice xs p 3 (rw (s.1, z)) (rw s.1)

pub close_found : {xs : List ℕ} {close p q : ℕ} → Closes xs close p q → eqb close 0x20 ≡ false → close_at xs close p ≡ Some q
unfolding close_at
close_found {xs} {close} (closes {a = a} r s) n =
    rw (spaces_skip r (stands_no_space xs a close [] s n), stands_has xs a (close ∷ []) s)

connective_no_space : (xs : List ℕ) (a : ℕ) (c : Connective) → Stands xs a (connective_word c) → NoSpaceAt xs a
connective_no_space xs a Connective.And s = stands_no_space xs a (code "a") (ascii "nd ") s refl
connective_no_space xs a Connective.Or s = stands_no_space xs a (code "o") (ascii "r ") s refl

pub connective_found : {xs : List ℕ} {p q : ℕ} {c : Connective} → Connects xs p q c → NoSpaceAt xs q → connective_at xs p ≡ Some (link q c)
unfolding connective_at has_prefix
connective_found {xs} (connects {p = p} {a = a} {q = q} {c = c} g s m) n = go c s m
  where
    go : (c : Connective) → Stands xs a (connective_word c) → Spaces xs (a + length (connective_word c)) q → connective_at xs p ≡ Some (link q c)
    go Connective.And s m = rw (gap_skip g (connective_no_space xs a Connective.And s), gap_moves g, s.1, spaces_skip m n)
    go Connective.Or s m = rw (gap_skip g (connective_no_space xs a Connective.Or s), gap_moves g, s.1, spaces_skip m n)

-- ---- no connective before a closing byte or the end

either_way : (b : Bool) (f : Option Link) → cond b f f ≡ f
either_way true f = refl
either_way false f = refl

no_connective : {xs : List ℕ} {p a : ℕ} → Spaces xs p a → NoSpaceAt xs a → has xs a (ascii "and ") ≡ false → has xs a (ascii "or ") ≡ false → connective_at xs p ≡ None
unfolding connective_at
no_connective {xs} {p} {a} r n c d = rw (spaces_skip r n, c, d) (either_way (eqb a p) None)

pub close_no_connective : {xs : List ℕ} {close p q : ℕ} → Closes xs close p q → eqb close 0x20 ≡ false → eqb close (code "a") ≡ false → eqb close (code "o") ≡ false → connective_at xs p ≡ None
unfolding has_prefix
close_no_connective {xs} {close} (closes {a = a} r s) n m k = no_connective r (stands_no_space xs a close [] s n) (rw (s.1, m)) (rw (s.1, k))

pub end_no_connective : {xs : List ℕ} {p : ℕ} → Spaces xs p (length xs) → connective_at xs p ≡ None
unfolding has_prefix
end_no_connective {xs} r = no_connective r (end_no_space xs) (rw (drop-length xs)) (rw (drop-length xs))

-- ---- positions rise, inside the text

connective_within : (xs : List ℕ) (a : ℕ) (c : Connective) → Stands xs a (connective_word c) → a + length (connective_word c) ≤ length xs
connective_within xs a Connective.And h = stands_within xs a (code "a") (ascii "nd ") h
connective_within xs a Connective.Or h = stands_within xs a (code "o") (ascii "r ") h

pub connects_rise : {xs : List ℕ} {p q : ℕ} {c : Connective} → Connects xs p q c → (p + 1 ≤ q) × (q ≤ length xs)
connects_rise {xs} (connects {a = a} {c = c} g k m) =
    let u = gap_rise g in let v = spaces_rise m in (omega arith, v.1 (connective_within xs a c k))

pub opens_rise : {xs : List ℕ} {p q : ℕ} {b : Bool} → Opens xs p q b → (p + 1 ≤ q) × (q ≤ length xs)
opens_rise {xs} (opens {p = p} s r) = let u = spaces_rise r in (u.0, u.1 (stands_within xs p _ [] s))
opens_rise {xs} (opens_not {p = p} {a = a} s r m n) =
    let u = spaces_rise r in let v = spaces_rise n in (omega arith, v.1 (stands_within xs a _ [] m))

pub chooses_rise : {xs : List ℕ} {p q : ℕ} {n : List ℕ} → Chooses xs p q n → (p + 1 ≤ q) × (q ≤ length xs)
chooses_rise {xs} (chooses {p = p} {n = n} s h b r) = let u = spaces_rise r in (omega arith, u.1 (stands_within xs (p + length n) _ [] b))

pub closes_rise : {xs : List ℕ} {close p q : ℕ} → Closes xs close p q → (p + 1 ≤ q) × (q ≤ length xs)
closes_rise {xs} {close} (closes {a = a} r s) = let u = spaces_rise r in (omega arith, stands_within xs a close [] s)

-- ---- as the code finds them

-- a word that was found ends inside the text
pub word-within : (xs : List ℕ) (p n : ℕ) (w : List ℕ) (r : Bool) → r ≡ has xs p w → r ≡ true → p ≤ length xs → n ≡ length w → p + n ≤ length xs
word-within xs p n w r e h i k =
    let s = has_stands xs p w (sym e ∙ h) in
    omega (arith, ap length s.1, length-drop p xs, length-append w s.0)

module _ (xs : List ℕ) (p : ℕ) (r : Bool) (e : r ≡ has xs p (ascii "(")) where
  pub open_bracket : (q : ℕ) → r ≡ true → RunEnd is_space xs (p + 1) q → Some (Head.Open q false) ≡ open_at xs p
  unfolding open_at
  open_bracket q h s = rw (sym e ∙ h, s.is)

  module _ (n : r ≡ false) (t : Bool) (f : t ≡ has xs p (ascii "not")) where
    pub open_nothing : t ≡ false → None ≡ open_at xs p
    unfolding open_at
    open_nothing h = rw (sym e ∙ n, sym f ∙ h)

    module _ (h : t ≡ true) (a : ℕ) (s : RunEnd is_space xs (p + 3) a) (u : Bool) (g : u ≡ has xs a (ascii "(")) where
      pub open_not : (q : ℕ) → u ≡ true → RunEnd is_space xs (a + 1) q → Some (Head.Open q true) ≡ open_at xs p
      unfolding open_at
      open_not q i k = rw (sym e ∙ n, sym f ∙ h, ← s.is, sym g ∙ i, k.is)

      pub open_not_nothing : u ≡ false → None ≡ open_at xs p
      unfolding open_at
      open_not_nothing i = rw (sym e ∙ n, sym f ∙ h, ← s.is, sym g ∙ i)

module _ (xs : List ℕ) (close p : ℕ) (f : Option RawTest) (e : f ≡ test_at xs close p) where
  pub head_test : (r : RawTest) → f ≡ Some r → Some (Head.Test r) ≡ head_at xs close p
  unfolding head_at
  head_test r h = rw (sym e ∙ h)

  pub head_bracket : (o : Option Head) → f ≡ None → o ≡ choice_or (choice_at xs p) (open_at xs p) → o ≡ head_at xs close p
  unfolding head_at
  head_bracket o h i = rw (sym e ∙ h) i

module _ (xs : List ℕ) (p : ℕ) (f : Option ℕ) (e : f ≡ choice_at xs p) where
  pub bracket_choice : (until : ℕ) → f ≡ Some until → Some (Head.Choice until) ≡ choice_or (choice_at xs p) (open_at xs p)
  bracket_choice until h = rw (sym e ∙ h)

  pub bracket_open : (o : Option Head) → f ≡ None → o ≡ open_at xs p → o ≡ choice_or (choice_at xs p) (open_at xs p)
  bracket_open o h i = rw (sym e ∙ h) i

-- a name and "[", as the code finds them
module _ (xs : List ℕ) (p e : ℕ) (s : RunEnd is_name_part xs p e) (r : Bool) (i : r ≡ is_name (part xs p e)) where
  pub choice_no_name : r ≡ false → None ≡ choice_at xs p
  unfolding choice_at
  choice_no_name h = rw (← s.is, sym i ∙ h)

  module _ (h : r ≡ true) (t : Bool) (j : t ≡ has xs e (ascii "[")) where
    pub choice_here : t ≡ true → Some e ≡ choice_at xs p
    unfolding choice_at
    choice_here k = rw (← s.is, sym i ∙ h, sym j ∙ k)

    pub choice_nothing : t ≡ false → None ≡ choice_at xs p
    unfolding choice_at
    choice_nothing k = rw (← s.is, sym i ∙ h, sym j ∙ k)

-- after the bracket, as the code finds it
module _ (xs : List ℕ) (close p : ℕ) (f : Option ℕ) (e : f ≡ close_at xs square p) where
  pub after_close_lem : (m : ℕ) (t : Option RawTest) → f ≡ Some m → t ≡ member_at xs close m → t ≡ member_after xs close p
  unfolding member_after
  after_close_lem m t h i = rw (sym e ∙ h) i

  pub after_nothing : f ≡ None → None ≡ member_after xs close p
  unfolding member_after
  after_nothing h = rw (sym e ∙ h)

-- a test is found exactly where an item begins with it
pub in_test : (h : Option Head) (r : RawTest) → h ≡ Some (Head.Test r) → Some r ≡ test_in h
in_test h r e = rw e

opening_no_test : (xs : List ℕ) (p : ℕ) → test_in (open_at xs p) ≡ None
opening_no_test xs p = by (open_at xs p) (open_derived xs p)
  where
    by : (h : Option Head) → OpenDerived xs p h → test_in h ≡ None
    by (Some (Head.Test r)) d = absurd d
    by (Some (Head.Open q b)) d = refl
    by (Some (Head.Choice e)) d = refl
    by None d = refl

test_in_lem : (xs : List ℕ) (close p : ℕ) → test_in (head_at xs close p) ≡ test_at xs close p
unfolding head_at
test_in_lem xs close p = by (test_at xs close p) (choice_at xs p)
  where
    by : (t : Option RawTest) (c : Option ℕ) → test_in (test_or t (choice_or c (open_at xs p))) ≡ t
    by (Some r) c = refl
    by None (Some e) = refl
    by None None = opening_no_test xs p

module _ (xs : List ℕ) (close p : ℕ) (r : Bool) (e : r ≡ has xs p (ascii ".")) where
  pub member_test : (h : Option Head) (t : Option RawTest) → r ≡ true → h ≡ head_at xs close (p + 1) → t ≡ test_in h → t ≡ member_at xs close p
  unfolding member_at
  member_test h t y i k = rw (sym e ∙ y) (k ∙ ap test_in i ∙ test_in_lem xs close (p + 1))

  pub member_nothing : r ≡ false → None ≡ member_at xs close p
  unfolding member_at
  member_nothing h = rw (sym e ∙ h)

module _ (xs : List ℕ) (p a : ℕ) (s : RunEnd is_space xs p a) where
  pub connective_no_gap : a ≡ p → None ≡ connective_at xs p
  unfolding connective_at
  connective_no_gap h = rw (← s.is, eq-eqb a p h)

  module _ (n : a ≡ p → ⊥) (r : Bool) (e : r ≡ has xs a (ascii "and ")) where
    pub connective_and : (q : ℕ) → r ≡ true → RunEnd is_space xs (a + 4) q → Some (link q Connective.And) ≡ connective_at xs p
    unfolding connective_at
    connective_and q h k = rw (← s.is, ne_eqb a p n, sym e ∙ h, k.is)

    module _ (h : r ≡ false) (t : Bool) (f : t ≡ has xs a (ascii "or ")) where
      pub connective_or : (q : ℕ) → t ≡ true → RunEnd is_space xs (a + 3) q → Some (link q Connective.Or) ≡ connective_at xs p
      unfolding connective_at
      connective_or q i k = rw (← s.is, ne_eqb a p n, sym e ∙ h, sym f ∙ i, k.is)

      pub connective_none : t ≡ false → None ≡ connective_at xs p
      unfolding connective_at
      connective_none i = rw (← s.is, ne_eqb a p n, sym e ∙ h, sym f ∙ i)

module _ (xs : List ℕ) (close p a : ℕ) (s : RunEnd is_space xs p a) (r : Bool) (e : r ≡ has xs a (close ∷ [])) where
  pub close_here : r ≡ true → Some (a + 1) ≡ close_at xs close p
  unfolding close_at
  close_here h = rw (← s.is, sym e ∙ h)

  pub close_nothing : r ≡ false → None ≡ close_at xs close p
  unfolding close_at
  close_nothing h = rw (← s.is, sym e ∙ h)
