-- What a text spells is what the reader gives.
-- By induction on the derivation. An item is read to its tree and its end (`item_complete`). Of a filter it is shown that reading it is
-- reading on from its end, with its tree and fuel to spare (`filter_complete`), so nothing need be known of what follows it. The chain ends
-- there because no connective is found before a closing byte or the end of the text (file Structure). The fuel is enough since every item
-- takes a byte at least (`item_rise`). The reader is a function, so a text spells one tree at most, as file Spelling concludes.
-- Assumes nothing.
use Rattle.std.specs.Prelude.{Some, None}
use Prim.Native.Nat.{ℕ, zero, suc, ◌+◌, ◌-◌, ◌≤◌}
use Prim.Native.Char.{code}
use Rattle.base.specs.Ascii.{ascii}
use native.Mathlib.Omega.{arith}
use native.Mathlib.Numerals.{sub-one}
use mathlib.Core.Path.{◌≡◌, refl, ◌∙◌}
use mathlib.Core.Bool.{Bool, false}
use mathlib.Core.Option.{some}
use mathlib.Core.List.{List, []}
use lib.Dec.{eqb}
use lib.ListN.{length}
use Rattle.base.specs.Parts.{part}
use borrow.Author.Tests.{eq-eqb, le-leb}
use Rattle.syntax.specs.Strings.{is_bare}
use Rattle.syntax.specs.Tree.{Test, Tree, test, tests_of}
use Rattle.syntax.specs.Grammar.{Stands, Opens, opens, opens_not, Closes, chooses, round, square, Item, item_test, item_bracket, item_not, item_bracketed, Filter, one_item, one_more, most_tests, Spells}
use Rattle.syntax.specs.Scan.{skip_at, test_of, head_at, member_at, member_after, connective_at}
use Rattle.syntax.specs.Reader.{Parsed, parsed, unparsed, in_bracket, in_choice, and_then, chain_by, chain_of, filter_of, item_at, filter_at, bracket_at, chosen_at, read}
use Rattle.syntax.specs.declared.RawTest.{RawTest}
use Rattle.syntax.specs.declared.Head.{Head}
use Rattle.syntax.proofs.Words.{NoSpaceAt, stands_has, stands_no_space, end_no_space, spaces_skip}
use Rattle.syntax.proofs.Tests.{TestFound, test_found, name_no_space, test_no_space, test_rise}
use Rattle.syntax.proofs.Structure.{open_found, open_no_test, open_no_choice, ChoiceFound, choice_found, chooses_rise, close_found, connective_found, close_no_connective, end_no_connective, connects_rise, opens_rise, closes_rise}

-- ---- positions rise, inside the text

mutual
  pub item_rise : {xs : List ℕ} {close d p q : ℕ} {f : Tree} → Item xs close d p q f → (p + 1 ≤ q) × (q ≤ length xs)
  item_rise (item_test h) = test_rise h
  item_rise (item_bracket o i c) = let u = opens_rise o in let v = filter_rise i in let w = closes_rise c in (omega arith, w.1)
  item_rise (item_not o i c) = let u = opens_rise o in let v = filter_rise i in let w = closes_rise c in (omega arith, w.1)
  item_rise (item_bracketed o i c s h) =
      let u = chooses_rise o in let v = filter_rise i in let w = closes_rise c in let z = test_rise h in (omega arith, z.1)

  pub filter_rise : {xs : List ℕ} {close d p q : ℕ} {f : Tree} → Filter xs close d p q f → (p + 1 ≤ q) × (q ≤ length xs)
  filter_rise (one_item i) = item_rise i
  filter_rise (one_more l j i) = let u = filter_rise l in let v = connects_rise j in let w = item_rise i in (omega arith, w.1)

-- ---- no space stands where an item begins

item_no_space : {xs : List ℕ} {close d p q : ℕ} {f : Tree} → Item xs close d p q f → NoSpaceAt xs p
item_no_space (item_test h) = test_no_space h
item_no_space {xs} (item_bracket {p = p} (opens s r) i c) = stands_no_space xs p (code "(") [] s refl
item_no_space {xs} (item_not {p = p} (opens_not s r m u) i c) = stands_no_space xs p (code "n") (ascii "ot") s refl
item_no_space {xs} (item_bracketed {p = p} (chooses {n = n} s h b r) i c d t) = name_no_space xs p n s h

filter_no_space : {xs : List ℕ} {close d p q : ℕ} {f : Tree} → Filter xs close d p q f → NoSpaceAt xs p
filter_no_space (one_item i) = item_no_space i
filter_no_space (one_more l j i) = filter_no_space l

-- ---- the reader's clauses as equations

-- the bytes that close a bracket: none stands in a bare word, is a space, or begins a connective
pub record Closing (close : ℕ) : Type 0 where
  pub not_bare : is_bare close ≡ false
  pub not_space : eqb close 0x20 ≡ false
  pub not_and : eqb close (code "a") ≡ false
  pub not_or : eqb close (code "o") ≡ false

round-closing : Closing round
unfolding is_bare
round-closing = record { not_bare = refl; not_space = refl; not_and = refl; not_or = refl }

square-closing : Closing square
unfolding is_bare
square-closing = record { not_bare = refl; not_space = refl; not_and = refl; not_or = refl }

found_head : {xs : List ℕ} {close p q : ℕ} {t : Test} (f : TestFound xs close p q t) → head_at xs close p ≡ Some (Head.Test f.raw)
unfolding head_at
found_head f = rw f.found

opened_head : {xs : List ℕ} {p q : ℕ} {b : Bool} (close : ℕ) → Opens xs p q b → NoSpaceAt xs q → head_at xs close p ≡ Some (Head.Open q b)
unfolding head_at
opened_head close h n = rw (open_no_test h close, open_no_choice h, open_found h n)

chosen_head : {xs : List ℕ} {close p q : ℕ} {n : List ℕ} → ChoiceFound xs close p q n → head_at xs close p ≡ Some (Head.Choice (p + length n))
unfolding head_at
chosen_head f = rw (f.no_test, f.found)

found-member : (xs : List ℕ) (close b p q : ℕ) (t : Test) → Closes xs square b p → Stands xs p (ascii ".") → (f : TestFound xs close (p + 1) q t) → member_after xs close b ≡ Some f.raw
unfolding member_after member_at
found-member xs close b p q t c s f = rw (close_found c refl, stands_has xs p (ascii ".") s, f.found)

module _ (xs : List ℕ) (close p : ℕ) where
  pub test_step : (d : ℕ) {r : RawTest} → head_at xs close p ≡ Some (Head.Test r) → item_at d xs close p ≡ parsed r.value.next (test (test_of xs r))
  unfolding item_at
  test_step zero e = rw e
  test_step (suc d) e = rw e

  pub open_step : (d : ℕ) {q : ℕ} {b : Bool} → head_at xs close p ≡ Some (Head.Open q b) → item_at (suc d) xs close p ≡ in_bracket xs b (filter_at d xs round q)
  unfolding item_at filter_at
  open_step d e = rw e

  pub choice_step : (d : ℕ) {e : ℕ} → head_at xs close p ≡ Some (Head.Choice e) → item_at (suc d) xs close p ≡ in_choice xs close p (part xs p e) (filter_at d xs square (skip_at xs (e + 1)))
  unfolding item_at filter_at
  choice_step d e = rw e

  -- as the code goes: one bracket fewer left, none left, nothing there
  pub opened-step : (d : ℕ) {q : ℕ} {b : Bool} → head_at xs close p ≡ Some (Head.Open q b) → (d ≡ 0 → ⊥) → item_at d xs close p ≡ bracket_at (d - 1) xs b q
  unfolding bracket_at
  opened-step zero e n = absurd (n refl)
  opened-step (suc d) e n = rw (sub-one (suc d)) (open_step d e)

  pub deep_step : (d : ℕ) {q : ℕ} {b : Bool} → head_at xs close p ≡ Some (Head.Open q b) → d ≡ 0 → item_at d xs close p ≡ unparsed
  unfolding item_at
  deep_step d e z = rw (z, e)

  pub chosen-step : (d : ℕ) {e : ℕ} → head_at xs close p ≡ Some (Head.Choice e) → (d ≡ 0 → ⊥) → item_at d xs close p ≡ chosen_at (d - 1) xs close p e
  unfolding chosen_at
  chosen-step zero e n = absurd (n refl)
  chosen-step (suc d) e n = rw (sub-one (suc d)) (choice_step d e)

  pub deep_choice_step : (d : ℕ) {e : ℕ} → head_at xs close p ≡ Some (Head.Choice e) → d ≡ 0 → item_at d xs close p ≡ unparsed
  unfolding item_at
  deep_choice_step d e z = rw (z, e)

  pub nothing_step : (d : ℕ) → head_at xs close p ≡ None → item_at d xs close p ≡ unparsed
  unfolding item_at
  nothing_step zero e = rw e
  nothing_step (suc d) e = rw e

pub filter_step : (d : ℕ) (xs : List ℕ) (close p : ℕ) → filter_at d xs close p ≡ and_then (λ q f. chain_of (length xs) xs (λ k. item_at d xs close k) q f) (λ f. f) (item_at d xs close p)
unfolding filter_at filter_of
filter_step d xs close p = refl

pub chain_step : (k : ℕ) (xs : List ℕ) (item : ℕ → Parsed) (p : ℕ) (f : Tree) → 1 ≤ k → chain_of k xs item p f ≡ chain_by p f item (λ q u. chain_of (k - 1) xs item q u) (connective_at xs p)
unfolding chain_of
chain_step zero xs item p f h = absurd (omega arith)
chain_step (suc k) xs item p f h = rw (sub-one (suc k))

-- ---- a filter is read up to its end, and the rest of the text is read on from there

mutual
  item_complete : {xs : List ℕ} {close d p q : ℕ} {f : Tree} → Closing close → Item xs close d p q f → item_at d xs close p ≡ parsed q f
  item_complete {xs} {close} k (item_test {d = d} {p = p} h) =
      let r = test_found h k.not_bare in
      test_step xs close p d (found_head r) ∙ rw (r.ends, r.is)
  item_complete {xs} {close} _ (item_bracket {d = d} {p = p} {b = b} {f = f} o i c) =
      let k = filter_complete round-closing i in
      rw (open_step xs close p d (opened_head close o (filter_no_space i)), k.2, chain_step k.0 xs (λ m. item_at d xs round m) b f (omega arith), close_no_connective c refl refl refl, close_found c refl)
  item_complete {xs} {close} _ (item_not {d = d} {p = p} {b = b} {f = f} o i c) =
      let k = filter_complete round-closing i in
      rw (open_step xs close p d (opened_head close o (filter_no_space i)), k.2, chain_step k.0 xs (λ m. item_at d xs round m) b f (omega arith), close_no_connective c refl refl refl, close_found c refl)
  item_complete {xs} {close} k (item_bracketed {d = d} {p = p} {b = b} {m = m} {q = q} {f = f} {t = t} o i c s h) =
      let r = test_found h k.not_bare in
      let w = choice_found o (filter_no_space i) close in
      let g = filter_complete square-closing i in
      rw (choice_step xs close p d (chosen_head w), w.name, w.from, g.2, chain_step g.0 xs (λ m. item_at d xs square m) b f (omega arith), close_no_connective c refl refl refl, found-member xs close b m q t c s r, r.ends, r.is)

  filter_complete : {xs : List ℕ} {close d p q : ℕ} {f : Tree} → Closing close → Filter xs close d p q f
      → (k : ℕ) × (length xs - q + 1 ≤ k) × (filter_at d xs close p ≡ chain_of k xs (λ m. item_at d xs close m) q f)
  filter_complete {xs} {close} h (one_item {d = d} {p = p} i) =
      let u = item_rise i in
      let e = item_complete h i in
      (length xs, omega arith, rw (filter_step d xs close p, e))
  filter_complete {xs} {close} h (one_more {d = d} {m = m} {f = f} l j i) =
      let k = filter_complete h l in
      let u = connects_rise j in
      let v = item_rise i in
      let e = item_complete h i in
      (k.0 - 1, omega arith, k.2 ∙ rw (chain_step k.0 xs (λ m. item_at d xs close m) m f (omega arith), connective_found j (item_no_space i), e))

pub read_complete : (xs : List ℕ) (f : Tree) → Spells xs f → read xs ≡ some f
unfolding read
read_complete xs f s =
    let k = filter_complete round-closing s.filter in
    rw (
      spaces_skip s.before (filter_no_space s.filter),
      k.2,
      chain_step k.0 xs _ s.to f (omega arith),
      end_no_connective s.after,
      spaces_skip s.after (end_no_space xs),
      eq-eqb (length xs) (length xs) refl,
      le-leb (length (tests_of f)) most_tests s.few,
    )
