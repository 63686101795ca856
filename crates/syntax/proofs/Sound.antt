-- What the reader gives is what the text spells.
-- By induction on the nesting left, as the reader recurses (`item_derived`, `filter_derived`). What the scans find where an item begins is
-- a piece of a derivation (`head_derived`, by files Tests and Structure), and each clause of the reader puts such pieces together as a rule
-- of the grammar does. The chain of a filter is by induction on its fuel: what was read so far is derived, and a connective and an item
-- more make the grammar's `one_more` (`chain_filter`). `read_sound` adds the spaces around it and the limit on tests.
-- Assumes nothing.
use Rattle.std.specs.Prelude.{Option, Some, None}
use Prim.Native.Nat.{ℕ, zero, suc, ◌+◌}
use mathlib.Core.Path.{◌≡◌, subst}
use mathlib.Core.Bool.{Bool, true, false}
use mathlib.Core.Option.{some, none-ne-some}
use mathlib.Core.List.{List}
use lib.ListN.{length}
use Rattle.base.specs.Ascii.{ascii}
use Rattle.base.specs.Parts.{part}
use Rattle.base.proofs.Tests.{cond-elim}
use Rattle.syntax.specs.Tree.{Tree, join}
use Rattle.syntax.specs.Grammar.{Stands, Spaces, TestAt, Opens, Closes, Chooses, round, square, Item, item_test, item_bracket, item_not, item_bracketed, Filter, one_item, one_more, deepest, Spells}
use Rattle.syntax.specs.Scan.{skip_at, has, test_of, test_at, open_at, choice_at, choice_or, test_or, head_at, member_at, after_close, member_after, connective_at, close_at}
use Rattle.syntax.specs.Reader.{Parsed, parsed, unparsed, close_bracket, in_bracket, member_by, in_choice, item_by, and_then, chain_by, chain_of, filter_of, item_at, filter_at, whole, read}
use Rattle.syntax.specs.declared.Head.{Head}
use Rattle.syntax.specs.declared.Link.{Link}
use Rattle.syntax.specs.declared.RawTest.{RawTest}
use Rattle.syntax.proofs.Words.{has_stands, skip_spaces}
use Rattle.syntax.proofs.Tests.{TestDerived, test_derived}
use Rattle.syntax.proofs.Whole.{whole_kept}
use Rattle.syntax.proofs.Structure.{OpenDerived, open_derived, ChoiceDerived, choice_derived, ConnectiveDerived, connective_derived, CloseDerived, close_derived}

-- ---- what an item begins with

abbrev HeadDerived : List ℕ → (close p : ℕ) → Option Head → Type 0
HeadDerived xs close p (Some (Head.Test r)) = TestAt xs close p r.value.next (test_of xs r)
HeadDerived xs close p (Some (Head.Open q b)) = Opens xs p q b
HeadDerived xs close p (Some (Head.Choice e)) = Chooses xs p (skip_at xs (e + 1)) (part xs p e)
HeadDerived xs close p None = Unit {0}

open_head : (xs : List ℕ) (close p : ℕ) (h : Option Head) → OpenDerived xs p h → HeadDerived xs close p h
open_head xs close p (Some (Head.Test r)) h = absurd h
open_head xs close p (Some (Head.Open q b)) h = h
open_head xs close p (Some (Head.Choice e)) h = absurd h
open_head xs close p None h = h

choice_or_lem : (xs : List ℕ) (close p : ℕ) (c : Option ℕ) (h : Option Head) → ChoiceDerived xs p c → HeadDerived xs close p h → HeadDerived xs close p (choice_or c h)
choice_or_lem xs close p (Some e) h a b = a
choice_or_lem xs close p None h a b = b

test_or_lem : (xs : List ℕ) (close p : ℕ) (t : Option RawTest) (h : Option Head) → TestDerived xs close p t → HeadDerived xs close p h → HeadDerived xs close p (test_or t h)
test_or_lem xs close p (Some r) h a b = a
test_or_lem xs close p None h a b = b

head_derived : (xs : List ℕ) (close p : ℕ) → HeadDerived xs close p (head_at xs close p)
unfolding head_at
head_derived xs close p =
    test_or_lem xs close p (test_at xs close p) (choice_or (choice_at xs p) (open_at xs p)) (test_derived xs close p)
    (choice_or_lem xs close p (choice_at xs p) (open_at xs p) (choice_derived xs p) (open_head xs close p (open_at xs p) (open_derived xs p)))

-- what comes after a bracket
abbrev MemberDerived : List ℕ → (close p : ℕ) → Option RawTest → Type 0
MemberDerived xs close p (Some r) = Stands xs p (ascii ".") × TestAt xs close (p + 1) r.value.next (test_of xs r)
MemberDerived xs close p None = Unit {0}

member_by_lem : (xs : List ℕ) (close p : ℕ) → Stands xs p (ascii ".") → (t : Option RawTest) → TestDerived xs close (p + 1) t → MemberDerived xs close p t
member_by_lem xs close p s (Some r) h = (s, h)
member_by_lem xs close p s None h = tt

member_derived : (xs : List ℕ) (close p : ℕ) → MemberDerived xs close p (member_at xs close p)
unfolding member_at
member_derived xs close p =
    cond-elim (MemberDerived xs close p) (has xs p (ascii "."))
    (λ h. member_by_lem xs close p (has_stands xs p (ascii ".") h) (test_at xs close (p + 1)) (test_derived xs close (p + 1))) (λ h. tt)

-- ---- items and filters

abbrev pub ItemDerived : List ℕ → (close d p : ℕ) → Parsed → Type 0
ItemDerived xs close d p (parsed q f) = Item xs close d p q f
ItemDerived xs close d p unparsed = Unit {0}

abbrev pub FilterDerived : List ℕ → (close d p : ℕ) → Parsed → Type 0
FilterDerived xs close d p (parsed q f) = Filter xs close d p q f
FilterDerived xs close d p unparsed = Unit {0}

module _ (xs : List ℕ) (close d p : ℕ) where
  close_item : (a b : ℕ) (negated : Bool) (f : Tree) → Opens xs p a negated → Filter xs round d a b f → (c : Option ℕ) → CloseDerived xs round b c → ItemDerived xs close (suc d) p (close_bracket negated f c)
  close_item a b true f o i (Some q) c = item_not o i c
  close_item a b false f o i (Some q) c = item_bracket o i c
  close_item a b negated f o i None c = tt

  bracket_item : (a : ℕ) (negated : Bool) → Opens xs p a negated → (g : Parsed) → FilterDerived xs round d a g → ItemDerived xs close (suc d) p (in_bracket xs negated g)
  bracket_item a negated o (parsed b f) i = close_item a b negated f o i (close_at xs round b) (close_derived xs round b)
  bracket_item a negated o unparsed i = tt

  module _ (a : ℕ) (n : List ℕ) (o : Chooses xs p a n) where
    member-item : (b m : ℕ) (f : Tree) → Filter xs square d a b f → Closes xs square b m → (t : Option RawTest) → MemberDerived xs close m t → ItemDerived xs close (suc d) p (member_by xs p n f t)
    member-item b m f i c (Some r) h = item_bracketed o i c h.0 h.1
    member-item b m f i c None h = tt

    close_choice : (b : ℕ) (f : Tree) → Filter xs square d a b f → (c : Option ℕ) → CloseDerived xs square b c → ItemDerived xs close (suc d) p (member_by xs p n f (after_close xs close c))
    close_choice b f i (Some m) c = member-item b m f i c (member_at xs close m) (member_derived xs close m)
    close_choice b f i None c = tt

    choice_item : (g : Parsed) → FilterDerived xs square d a g → ItemDerived xs close (suc d) p (in_choice xs close p n g)
    unfolding member_after
    choice_item (parsed b f) i = close_choice b f i (close_at xs square b) (close_derived xs square b)
    choice_item unparsed i = tt

  item_by_lem : (inner : ℕ → ℕ → Parsed) → ((c q : ℕ) → FilterDerived xs c d q (inner c q)) → (h : Option Head) → HeadDerived xs close p h → ItemDerived xs close (suc d) p (item_by xs close p inner h)
  item_by_lem inner ok (Some (Head.Test r)) h = item_test h
  item_by_lem inner ok (Some (Head.Open q negated)) h = bracket_item q negated h (inner round q) (ok round q)
  item_by_lem inner ok (Some (Head.Choice e)) h = choice_item (skip_at xs (e + 1)) (part xs p e) h (inner square (skip_at xs (e + 1))) (ok square (skip_at xs (e + 1)))
  item_by_lem inner ok None h = tt

item_flat : (xs : List ℕ) (close p : ℕ) (h : Option Head) → HeadDerived xs close p h → ItemDerived xs close 0 p (item_by xs close p (λ c q. unparsed) h)
item_flat xs close p (Some (Head.Test r)) h = item_test h
item_flat xs close p (Some (Head.Open q negated)) h = tt
item_flat xs close p (Some (Head.Choice e)) h = tt
item_flat xs close p None h = tt

module _ (xs : List ℕ) (close d : ℕ) (item : ℕ → Parsed) (Item-ok : (q : ℕ) → ItemDerived xs close d q (item q)) where
  then_filter : (s a : ℕ) (next : ℕ → Tree → Parsed) (put : Tree → Tree) → ((q : ℕ) (u : Tree) → Item xs close d a q u → FilterDerived xs close d s (next q (put u)))
      → (g : Parsed) → ItemDerived xs close d a g → FilterDerived xs close d s (and_then next put g)
  then_filter s a next put ok (parsed q u) i = ok q u i
  then_filter s a next put ok unparsed i = tt

  chain_by_lem : (s p : ℕ) (f : Tree) (next : ℕ → Tree → Parsed) → Filter xs close d s p f → ((q : ℕ) (u : Tree) → Filter xs close d s q u → FilterDerived xs close d s (next q u))
      → (c : Option Link) → ConnectiveDerived xs p c → FilterDerived xs close d s (chain_by p f item next c)
  chain_by_lem s p f next l ok (Some o) c =
      then_filter s o.next next (join o.connective f) (λ m u i. ok m (join o.connective f u) (one_more l c i)) (item o.next) (Item-ok o.next)
  chain_by_lem s p f next l ok None c = l

  chain_filter : (k s p : ℕ) (f : Tree) → Filter xs close d s p f → FilterDerived xs close d s (chain_of k xs item p f)
  unfolding chain_of
  chain_filter zero s p f l = tt
  chain_filter (suc k) s p f l =
      chain_by_lem s p f (λ q u. chain_of k xs item q u) l (λ q u m. chain_filter k s q u m) (connective_at xs p) (connective_derived xs p)

  filter_of_lem : (p : ℕ) → FilterDerived xs close d p (filter_of xs item p)
  unfolding filter_of
  filter_of_lem p =
      then_filter p p (λ q f. chain_of (length xs) xs item q f) (λ f. f) (λ q u i. chain_filter (length xs) p q u (one_item i)) (item p) (Item-ok p)

pub item_derived : (d : ℕ) (xs : List ℕ) (close p : ℕ) → ItemDerived xs close d p (item_at d xs close p)
unfolding item_at
item_derived zero xs close p = item_flat xs close p (head_at xs close p) (head_derived xs close p)
item_derived (suc d) xs close p =
    item_by_lem xs close d p (λ c q. filter_of xs (λ k. item_at d xs c k) q) (λ c q. filter_of_lem xs c d (λ k. item_at d xs c k) (λ k. item_derived d xs c k) q)
    (head_at xs close p) (head_derived xs close p)

pub filter_derived : (d : ℕ) (xs : List ℕ) (close p : ℕ) → FilterDerived xs close d p (filter_at d xs close p)
unfolding filter_at
filter_derived d xs close p = filter_of_lem xs close d (λ k. item_at d xs close k) (λ k. item_derived d xs close k) p

-- ---- the whole text

pub read_sound : (xs : List ℕ) (f : Tree) → read xs ≡ some f → Spells xs f
unfolding read
read_sound xs f e = go (filter_at deepest xs round (skip_at xs 0)) (filter_derived deepest xs round (skip_at xs 0)) e
  where
    go : (g : Parsed) → FilterDerived xs round deepest (skip_at xs 0) g → whole xs g ≡ some f → Spells xs f
    go unparsed l h = absurd (none-ne-some _ h)
    go (parsed m u) l h =
        let k = whole_kept xs m u f h in
        subst (Spells xs) k.same (record {
          from = skip_at xs 0;
          to = m;
          before = skip_spaces xs 0;
          filter = l;
          after = subst (Spaces xs m) k.ends (skip_spaces xs m);
          few = k.few;
        })
