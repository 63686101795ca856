-- The walk that writes, item by item: what the text is known to be gives each callee its room, and what the callees wrote is the
-- whole's plain spelling.
-- `RoomFor`: the reader gives a tree at this place, and its spelling fits into the part that is lent. `Spelt`: it stands there. Each clause
-- of the reader is inverted to the trees of its parts (`closed`, `chosen`), whose spellings are parts of the whole's, so each callee has
-- room; and what the callees put one behind another (base's `Wrote`) is the spelling of the clause's tree. Behind a connective a join is
-- written first and brackets are then put around it (`operand_spelt`).
-- Assumes nothing.
use Rattle.std.specs.Prelude.{Option, Some, None}
use Prim.Native.Nat.{ℕ, ◌+◌, ◌-◌, ◌≤◌, ◌<◌}
use native.Mathlib.Omega.{arith}
use mathlib.Core.Path.{◌≡◌, refl, sym, ap, subst, ◌∙◌}
use mathlib.Core.Bool.{Bool, true, false}
use mathlib.Core.List.{List, [], ◌∷◌, ◌++◌, append_assoc}
use lib.ListN.{length, take, drop}
use lib.Seq.{take_at}
use Rattle.base.specs.Ascii.{ascii}
use Rattle.base.specs.Operators.{operator_words}
use Rattle.base.specs.Parts.{part}
use Rattle.base.specs.Runs.{RunEnd}
use Rattle.base.proofs.Tests.{cond-elim, cond-first}
use Rattle.syntax.specs.Tree.{Test, Tree, test, bracketed, negation}
use Rattle.syntax.specs.Grammar.{TestAt, a_test, round, square}
use Rattle.syntax.specs.Scan.{is_space, skip_at, has, test_of, test_at, test_or, choice_or, choice_at, open_at, head_at, member_at, member_after, after_close, close_at}
use Rattle.syntax.specs.declared.Connective.{Connective}
use Rattle.syntax.specs.declared.RawTest.{RawTest}
use Rattle.syntax.specs.declared.Head.{Head}
use Rattle.syntax.specs.Reader.{Parsed, parsed, unparsed, negated_if, in_bracket, in_choice, item_at, filter_at, bracket_at, chosen_at}
use Rattle.syntax.proofs.Structure.{OpenDerived, open_derived}
use Rattle.syntax.proofs.Sound.{ItemDerived, FilterDerived, item_derived, filter_derived}
use Rattle.syntax.proofs.Complete.{item_rise, filter_rise, test_step, opened-step, deep_step, chosen-step, deep_choice_step, nothing_step}
use Rattle.syntax.proofs.Tests.{TestDerived, test_derived}
use Rattle.plain.specs.Plain.{connective_text, in_round_if, plain_test, plain, operand}
use Rattle.base.specs.Writing.{Room, Puts}
use Rattle.spell.specs.Walks.{RoomFor, Spelt, joined, choice_text, member_text}
use Rattle.spell.specs.declared.Written.{Written}
use Rattle.plain.proofs.Length.{operand_short}
use Rattle.base.proofs.Writing.{room_same, puts_same, lent, back, Wrote, wrote_end, first_room, first-within, last_room, last_wrote, second_room, second_wrote, third_room, third_wrote, puts_length, puts_over}

pub never : {X : Type 0} {q : ℕ} {f : Tree} → unparsed ≡ parsed q f → X
never e = let z : ◌≡◌ {A = ℕ} 0 1 = cc in absurd (omega arith)

same_end : {q m : ℕ} {f g : Tree} → parsed q f ≡ parsed m g → q ≡ m
same_end e = cc

pub same_tree : {q m : ℕ} {f g : Tree} → parsed q f ≡ parsed m g → f ≡ g
same_tree e = cc

-- ---- what was written ends inside the text

module _ (d : ℕ) (xs : List ℕ) (close p : ℕ) {text : Tree → List ℕ} {out exit : List ℕ} {w : Written} where
  pub filter_within : Spelt text (filter_at d xs close p) out exit w → (p + 1 ≤ w.end) × (w.end ≤ length xs)
  filter_within s = filter_rise (subst (FilterDerived xs close d p) s.reads (filter_derived d xs close p))

  pub item-within : Spelt text (item_at d xs close p) out exit w → (p + 1 ≤ w.end) × (w.end ≤ length xs)
  item-within s = item_rise (subst (ItemDerived xs close d p) s.reads (item_derived d xs close p))

-- ---- a filter in round brackets

record Closed (xs : List ℕ) (negated : Bool) (g : Parsed) (q : ℕ) (f : Tree) : Type 0 where
  end : ℕ
  tree : Tree
  reads : g ≡ parsed end tree
  closes : close_at xs round end ≡ Some q
  is : f ≡ negated_if negated tree

closed : (xs : List ℕ) (negated : Bool) (g : Parsed) (q : ℕ) (f : Tree) → in_bracket xs negated g ≡ parsed q f → Closed xs negated g q f
closed xs negated unparsed q f e = never e
closed xs negated (parsed m h) q f e = go (close_at xs round m) refl e
  where
    go : (c : Option ℕ) → close_at xs round m ≡ c → in_bracket xs negated (parsed m h) ≡ parsed q f → Closed xs negated (parsed m h) q f
    go (Some k) a b =
        let s : parsed k (negated_if negated h) ≡ parsed q f = (rw a at b) in
        record { end = m; tree = h; reads = refl; closes = a ∙ ap (λ (x : ℕ). Some x) (same_end s); is = sym (same_tree s) }
    go None a b = never (rw a at b)

close_skips : (xs : List ℕ) (close p q : ℕ) → close_at xs close p ≡ Some q → q ≡ skip_at xs p + 1
unfolding close_at
close_skips xs close p q e = go (cond-first (has xs (skip_at xs p) (close ∷ [])) (Some (skip_at xs p + 1)) None (λ z. let y : ◌≡◌ {A = ℕ} 0 1 = cc in omega arith) e).1
  where
    go : Some (skip_at xs p + 1) ≡ Some q → q ≡ skip_at xs p + 1
    go h = cc

-- the bracket's closing byte stands after the spaces, where the tree that was written ends
closed_at : (xs : List ℕ) (negated : Bool) (g : Parsed) (q m : ℕ) (f h : Tree) → in_bracket xs negated g ≡ parsed q f → g ≡ parsed m h → (k : ℕ) → RunEnd is_space xs m k → in_bracket xs negated g ≡ parsed (k + 1) (negated_if negated h)
closed_at xs negated g q m f h e r k s =
    let c = closed xs negated g q f e in
    let ends : c.end ≡ m = same_end (sym c.reads ∙ r) in
    let trees : c.tree ≡ h = same_tree (sym c.reads ∙ r) in
    let last : q ≡ k + 1 = close_skips xs round c.end q c.closes ∙ ap (λ (x : ℕ). skip_at xs x + 1) ends ∙ ap (λ (x : ℕ). x + 1) (sym s.is) in
    e ∙ ap (λ (x : ℕ). parsed x f) last ∙ ap (λ (x : Tree). parsed (k + 1) x) (c.is ∙ ap (negated_if negated) trees)

module _ (d : ℕ) (xs : List ℕ) (p : ℕ) (out : List ℕ) where
  module _ (r : RoomFor plain (bracket_at d xs false p) out) where
    inner : in_bracket xs false (filter_at d xs round p) ≡ parsed r.end r.tree
    unfolding bracket_at
    inner = r.reads

    pub round_room : RoomFor plain (filter_at d xs round p) out
    round_room =
        let c = closed xs false (filter_at d xs round p) r.end r.tree inner in
        record { end = c.end; tree = c.tree; reads = c.reads; room = room_same (ap plain c.is) r.room }

    pub round_spelt : {exit : List ℕ} {w : Written} → Spelt plain (filter_at d xs round p) out exit w → (k : ℕ) → RunEnd is_space xs w.end k
        → Spelt plain (bracket_at d xs false p) out exit (record { end = k + 1; length = w.length; join = w.join })
    unfolding bracket_at
    round_spelt {w = w} s k e =
        record {
          tree = s.tree;
          reads = closed_at xs false (filter_at d xs round p) r.end w.end r.tree s.tree inner s.reads k e;
          puts = s.puts;
          join = s.join;
        }

  module _ (r : RoomFor plain (bracket_at d xs true p) out) where
    inner_not : in_bracket xs true (filter_at d xs round p) ≡ parsed r.end r.tree
    unfolding bracket_at
    inner_not = r.reads

    inside : Closed xs true (filter_at d xs round p) r.end r.tree
    inside = closed xs true (filter_at d xs round p) r.end r.tree inner_not

    parts : Room (ascii "not(" ++ (plain inside.tree ++ ascii ")")) out
    unfolding plain
    parts = room_same (ap plain inside.is) r.room

    pub not_room : Room (ascii "not(") out
    not_room = first_room (ascii "not(") (plain inside.tree ++ ascii ")") out parts

    module _ {out₁ : List ℕ} {n : ℕ} (a : Puts (ascii "not(") out out₁ n) where
      pub not_within : n ≤ length out₁
      not_within = first-within (ascii "not(") (plain inside.tree ++ ascii ")") out parts a

      pub not_inner : RoomFor plain (filter_at d xs round p) (lent out₁ n)
      not_inner = record { end = inside.end; tree = inside.tree; reads = inside.reads; room = second_room (ascii "not(") (plain inside.tree) (ascii ")") out parts a }

      module _ {exit : List ℕ} {w : Written} (s : Spelt plain (filter_at d xs round p) (lent out₁ n) exit w) where
        same : s.tree ≡ inside.tree
        same = same_tree (sym s.reads ∙ inside.reads)

        puts : Puts (plain inside.tree) (lent out₁ n) exit w.length
        puts = puts_same (ap plain same) s.puts

        pub not_inner-within : n + w.length ≤ length (back out₁ n exit)
        not_inner-within = omega (arith, (second_wrote (ascii "not(") (plain inside.tree) (ascii ")") out parts a puts).within)

        pub not_close_room : Room (ascii ")") (lent (back out₁ n exit) (n + w.length))
        not_close_room = third_room (ascii "not(") (plain inside.tree) (ascii ")") out parts a puts

        module _ {exit₂ : List ℕ} {m : ℕ} (b : Puts (ascii ")") (lent (back out₁ n exit) (n + w.length)) exit₂ m) where
          wrote : Wrote (ascii "not(" ++ (plain inside.tree ++ ascii ")")) [] out (back (back out₁ n exit) (n + w.length) exit₂) (n + w.length + m)
          wrote = third_wrote (ascii "not(") (plain inside.tree) (ascii ")") out parts a puts b

          pub not_long : length (back (back out₁ n exit) (n + w.length) exit₂) ≡ length out
          not_long = wrote.long

          pub not_fits : n + w.length + m ≤ length out
          not_fits = omega (arith, wrote.within, wrote.long)

          pub not_spelt : (k : ℕ) → RunEnd is_space xs w.end k → Spelt plain (bracket_at d xs true p) out (back (back out₁ n exit) (n + w.length) exit₂) (record { end = k + 1; length = n + w.length + m; join = false })
          unfolding bracket_at plain
          not_spelt k e =
              record {
                tree = negation s.tree;
                reads = closed_at xs true (filter_at d xs round p) r.end w.end r.tree s.tree inner_not s.reads k e;
                puts = puts_same (ap (λ (x : Tree). plain (negation x)) (sym same)) (wrote_end wrote refl);
                join = refl;
              }

-- ---- an item after a connective

module _ {g : Parsed} {out : List ℕ} (r : RoomFor operand g out) where
  pub operand-item : RoomFor plain g out
  operand-item = record { end = r.end; tree = r.tree; reads = r.reads; room = record { fits = omega (arith, r.room.fits, operand_short r.tree) } }

  module _ {out₁ : List ℕ} {w : Written} (s : Spelt plain g out out₁ w) where
    same_operand : s.tree ≡ r.tree
    same_operand = same_tree (sym s.reads ∙ r.reads)

    -- what was written comes first
    front : take w.length out₁ ≡ plain s.tree
    front = ap (take w.length) s.puts.bytes ∙ take_at (plain s.tree) (drop w.length out) w.length (sym s.puts.long)

    text : in_round_if w.join (take w.length out₁) ≡ operand s.tree
    text = rw (front, s.join)

    long : length out₁ ≡ length out
    long = puts_length s.puts (omega (arith, s.puts.long, r.room.fits, operand_short r.tree, ap (λ (x : Tree). length (plain x)) same_operand))

    pub bracket_within : w.length ≤ length out₁
    bracket_within = omega (arith, long, s.puts.long, r.room.fits, operand_short r.tree, ap (λ (x : Tree). length (plain x)) same_operand)

    pub bracket_room : Room (in_round_if w.join (take w.length out₁)) out₁
    bracket_room = record { fits = omega (arith, ap length text, r.room.fits, long, ap (λ (x : Tree). length (operand x)) same_operand) }

    pub operand_spelt : {exit : List ℕ} {m : ℕ} → Puts (in_round_if w.join (take w.length out₁)) out₁ exit m → Spelt operand g out exit (record { end = w.end; length = m; join = w.join })
    operand_spelt p = record { tree = s.tree; reads = s.reads; puts = puts_over s.puts (operand_short s.tree) (puts_same text p); join = s.join }

-- ---- a connective and the item after it

module _ (a : Connective) {g : Parsed} {out : List ℕ} (r : RoomFor (joined a) g out) where
  joined_parts : Room (connective_text a ++ operand r.tree) out
  unfolding joined
  joined_parts = r.room

  pub connective_room : Room (connective_text a) out
  connective_room = first_room (connective_text a) (operand r.tree) out joined_parts

  module _ {out₁ : List ℕ} {n : ℕ} (c : Puts (connective_text a) out out₁ n) where
    pub connective_within : n ≤ length out₁
    connective_within = first-within (connective_text a) (operand r.tree) out joined_parts c

    pub operand_room : RoomFor operand g (lent out₁ n)
    operand_room = record { end = r.end; tree = r.tree; reads = r.reads; room = last_room (connective_text a) (operand r.tree) out joined_parts c }

    module _ {exit : List ℕ} {w : Written} (s : Spelt operand g (lent out₁ n) exit w) where
      joined_same : operand s.tree ≡ operand r.tree
      joined_same = ap (λ (x : Tree). operand x) (same_tree (sym s.reads ∙ r.reads))

      joined_wrote : Wrote (connective_text a ++ operand r.tree) [] out (back out₁ n exit) (n + w.length)
      joined_wrote = last_wrote (connective_text a) (operand r.tree) out joined_parts c (puts_same joined_same s.puts)

      pub joined-fits : n + w.length ≤ length out
      joined-fits = omega (arith, joined_wrote.within, joined_wrote.long)

      pub joined_long : length (back out₁ n exit) ≡ length out
      joined_long = joined_wrote.long

      pub joined_spelt : Spelt (joined a) g out (back out₁ n exit) (record { end = w.end; length = n + w.length; join = w.join })
      unfolding joined
      joined_spelt = record { tree = s.tree; reads = s.reads; puts = puts_same (ap (λ (x : List ℕ). connective_text a ++ x) (sym joined_same)) (wrote_end joined_wrote refl); join = s.join }

-- ---- a test that was found has one of the operators

abbrev Known : Option RawTest → Type 0
Known (Some r) = r.operator < 19
Known None = Unit {0}

count_words : length operator_words ≡ 19
unfolding operator_words
count_words = refl

test_known : (xs : List ℕ) (close p : ℕ) → Known (test_at xs close p)
test_known xs close p = go (test_at xs close p) (test_derived xs close p)
  where
    known : {q : ℕ} {t : Test} → TestAt xs close p q t → t.operator < 19
    known (a_test s h g o i w f) = omega (arith, o.one_of, count_words)

    go : (f : Option RawTest) → TestDerived xs close p f → Known f
    go (Some r) h = known h
    go None h = tt

pub member-operator : (xs : List ℕ) (close p : ℕ) (f : Option RawTest) → f ≡ member_after xs close p → (t : RawTest) → f ≡ Some t → t.operator < 19
unfolding member_after member_at
member-operator xs close p f e t h = subst Known (sym e ∙ h) (go (close_at xs square p))
  where
    go : (c : Option ℕ) → Known (after_close xs close c)
    go (Some m) = cond-elim Known (has xs m (ascii ".")) (λ k. test_known xs close (m + 1)) (λ k. tt)
    go None = tt

head_known : (xs : List ℕ) (close p : ℕ) (t : RawTest) → head_at xs close p ≡ Some (Head.Test t) → t.operator < 19
unfolding head_at
head_known xs close p t e = go (test_at xs close p) (test_known xs close p) (choice_at xs p) (open_at xs p) (open_derived xs p) e
  where
    go : (f : Option RawTest) → Known f → (c : Option ℕ) (o : Option Head) → OpenDerived xs p o → test_or f (choice_or c o) ≡ Some (Head.Test t) → t.operator < 19
    go (Some r) k c o d h = let s : r ≡ t = cc in subst (λ (x : RawTest). x.operator < 19) s k
    go None k (Some u) o d h = absurd (let z : ◌≡◌ {A = ℕ} 0 1 = cc in omega arith)
    go None k None o d h = absurd (subst (OpenDerived xs p) h d)

-- ---- an item, by what it begins with

module _ (d : ℕ) (xs : List ℕ) (close p : ℕ) (out : List ℕ) (r : RoomFor plain (item_at d xs close p) out) (h : Option Head) (e : h ≡ head_at xs close p) where
  pub item_nothing : {X : Type 0} → h ≡ None → X
  item_nothing i = never (sym (nothing_step xs close p d (sym e ∙ i)) ∙ r.reads)

  module _ (g : Head) (o : h ≡ Some g) (t : RawTest) (i : g ≡ Head.Test t) where
    found : parsed t.value.next (test (test_of xs t)) ≡ parsed r.end r.tree
    found = sym (test_step xs close p d (sym e ∙ o ∙ ap Some i)) ∙ r.reads

    pub item-operator : t.operator < 19
    item-operator = head_known xs close p t (sym e ∙ o ∙ ap Some i)

    pub item_test_room : Room (plain_test (test_of xs t)) out
    unfolding plain
    item_test_room = room_same (ap plain (sym (same_tree found))) r.room

    pub item_test_spelt : {exit : List ℕ} {n : ℕ} → Puts (plain_test (test_of xs t)) out exit n → Spelt plain (item_at d xs close p) out exit (record { end = t.value.next; length = n; join = false })
    unfolding plain
    item_test_spelt q = record { tree = test (test_of xs t); reads = test_step xs close p d (sym e ∙ o ∙ ap Some i); puts = q; join = refl }

  module _ (g : Head) (o : h ≡ Some g) (q : ℕ) (b : Bool) (i : g ≡ Head.Open q b) where
    pub item_open_deep : d ≡ 0 → ⊥
    item_open_deep z = never (sym (deep_step xs close p d (sym e ∙ o ∙ ap Some i) z) ∙ r.reads)

    module _ (c : Bool) (k : b ≡ c) where
      opened_as : item_at d xs close p ≡ bracket_at (d - 1) xs c q
      opened_as = opened-step xs close p d (sym e ∙ o ∙ ap Some i) item_open_deep ∙ ap (λ (x : Bool). bracket_at (d - 1) xs x q) k

      pub item_open_room : RoomFor plain (bracket_at (d - 1) xs c q) out
      item_open_room = record { end = r.end; tree = r.tree; reads = sym opened_as ∙ r.reads; room = r.room }

      pub item_open_spelt : {exit : List ℕ} {w : Written} → Spelt plain (bracket_at (d - 1) xs c q) out exit w → Spelt plain (item_at d xs close p) out exit w
      item_open_spelt s = record { tree = s.tree; reads = opened_as ∙ s.reads; puts = s.puts; join = s.join }

  module _ (g : Head) (o : h ≡ Some g) (u : ℕ) (i : g ≡ Head.Choice u) where
    pub item_choice_deep : d ≡ 0 → ⊥
    item_choice_deep z = never (sym (deep_choice_step xs close p d (sym e ∙ o ∙ ap Some i) z) ∙ r.reads)

    chosen_is : item_at d xs close p ≡ chosen_at (d - 1) xs close p u
    chosen_is = chosen-step xs close p d (sym e ∙ o ∙ ap Some i) item_choice_deep

    pub item_choice_room : RoomFor plain (chosen_at (d - 1) xs close p u) out
    item_choice_room = record { end = r.end; tree = r.tree; reads = sym chosen_is ∙ r.reads; room = r.room }

    pub item_choice_spelt : {exit : List ℕ} {w : Written} → Spelt plain (chosen_at (d - 1) xs close p u) out exit w → Spelt plain (item_at d xs close p) out exit w
    item_choice_spelt s = record { tree = s.tree; reads = chosen_is ∙ s.reads; puts = s.puts; join = s.join }

-- ---- the test of a member

record Chosen (xs : List ℕ) (close p : ℕ) (n : List ℕ) (g : Parsed) (q : ℕ) (f : Tree) : Type 0 where
  end : ℕ
  tree : Tree
  reads : g ≡ parsed end tree
  test : RawTest
  member : member_after xs close end ≡ Some test
  ends : q ≡ test.value.next
  is : f ≡ bracketed p n tree (test_of xs test)

chosen : (xs : List ℕ) (close p : ℕ) (n : List ℕ) (g : Parsed) (q : ℕ) (f : Tree) → in_choice xs close p n g ≡ parsed q f → Chosen xs close p n g q f
chosen xs close p n unparsed q f e = never e
chosen xs close p n (parsed m h) q f e = go (member_after xs close m) refl e
  where
    go : (t : Option RawTest) → member_after xs close m ≡ t → in_choice xs close p n (parsed m h) ≡ parsed q f → Chosen xs close p n (parsed m h) q f
    go (Some t) a b =
        let s : parsed t.value.next (bracketed p n h (test_of xs t)) ≡ parsed q f = (rw a at b) in
        record { end = m; tree = h; reads = refl; test = t; member = a; ends = sym (same_end s); is = sym (same_tree s) }
    go None a b = never (rw a at b)

-- the text of such a test: what stands before the filter, the filter, what stands after it
chosen_text : (xs : List ℕ) (p : ℕ) (n : List ℕ) (f : Tree) (t : RawTest) → plain (bracketed p n f (test_of xs t)) ≡ choice_text n ++ (plain f ++ member_text (test_of xs t))
unfolding plain choice_text member_text
chosen_text xs p n f t = sym (append_assoc n (ascii "[") (plain f ++ (ascii "]." ++ plain_test (test_of xs t))))

module _ (d : ℕ) (xs : List ℕ) (close p u : ℕ) (out : List ℕ) (r : RoomFor plain (chosen_at d xs close p u) out) where
  abbrev bundle : List ℕ
  bundle = part xs p u

  abbrev from : ℕ
  from = skip_at xs (u + 1)

  choice : Chosen xs close p bundle (filter_at d xs square from) r.end r.tree
  unfolding chosen_at
  choice = chosen xs close p bundle (filter_at d xs square from) r.end r.tree r.reads

  chosen_parts : Room (choice_text bundle ++ (plain choice.tree ++ member_text (test_of xs choice.test))) out
  chosen_parts = room_same (ap plain choice.is ∙ chosen_text xs p bundle choice.tree choice.test) r.room

  pub chosen_room : Room (choice_text bundle) out
  chosen_room = first_room (choice_text bundle) (plain choice.tree ++ member_text (test_of xs choice.test)) out chosen_parts

  module _ {out₁ : List ℕ} {n : ℕ} (a : Puts (choice_text bundle) out out₁ n) where
    pub chosen-within : n ≤ length out₁
    chosen-within = first-within (choice_text bundle) (plain choice.tree ++ member_text (test_of xs choice.test)) out chosen_parts a

    module _ (q : ℕ) (b : RunEnd is_space xs (u + 1) q) where
      start : filter_at d xs square q ≡ filter_at d xs square from
      start = ap (filter_at d xs square) b.is

      pub chosen-inner : RoomFor plain (filter_at d xs square q) (lent out₁ n)
      chosen-inner =
          record {
            end = choice.end;
            tree = choice.tree;
            reads = start ∙ choice.reads;
            room = second_room (choice_text bundle) (plain choice.tree) (member_text (test_of xs choice.test)) out chosen_parts a;
          }

      module _ {exit : List ℕ} {w : Written} (s : Spelt plain (filter_at d xs square q) (lent out₁ n) exit w) where
        both : parsed w.end s.tree ≡ parsed choice.end choice.tree
        both = sym s.reads ∙ start ∙ choice.reads

        inner_puts : Puts (plain choice.tree) (lent out₁ n) exit w.length
        inner_puts = puts_same (ap plain (same_tree both)) s.puts

        pub chosen-inner-within : n + w.length ≤ length (back out₁ n exit)
        chosen-inner-within = omega (arith, (second_wrote (choice_text bundle) (plain choice.tree) (member_text (test_of xs choice.test)) out chosen_parts a inner_puts).within)

        module _ (f : Option RawTest) (m : f ≡ member_after xs close w.end) where
          member_is : f ≡ Some choice.test
          member_is = m ∙ ap (λ (x : ℕ). member_after xs close x) (same_end both) ∙ choice.member

          pub chosen_nothing : {X : Type 0} → f ≡ None → X
          chosen_nothing z = absurd (let y = member_is in let x : ◌≡◌ {A = ℕ} 0 1 = cc in omega arith)

          module _ (t : RawTest) (g : f ≡ Some t) where
            same_test : choice.test ≡ t
            same_test = let y = member_is in cc

            pub chosen-member_room : Room (member_text (test_of xs t)) (lent (back out₁ n exit) (n + w.length))
            chosen-member_room =
                room_same (ap (λ (r : RawTest). member_text (test_of xs r)) same_test) (third_room (choice_text bundle) (plain choice.tree) (member_text (test_of xs choice.test)) out chosen_parts a inner_puts)

            module _ {exit₂ : List ℕ} {k : ℕ} (c : Puts (member_text (test_of xs t)) (lent (back out₁ n exit) (n + w.length)) exit₂ k) where
              chosen_wrote : Wrote (choice_text bundle ++ (plain choice.tree ++ member_text (test_of xs choice.test))) [] out (back (back out₁ n exit) (n + w.length) exit₂) (n + w.length + k)
              chosen_wrote = third_wrote (choice_text bundle) (plain choice.tree) (member_text (test_of xs choice.test)) out chosen_parts a inner_puts (puts_same (ap (λ (r : RawTest). member_text (test_of xs r)) (sym same_test)) c)

              pub chosen_long : length (back (back out₁ n exit) (n + w.length) exit₂) ≡ length out
              chosen_long = chosen_wrote.long

              pub chosen-fits : n + w.length + k ≤ length out
              chosen-fits = omega (arith, chosen_wrote.within, chosen_wrote.long)

              pub chosen_spelt : Spelt plain (chosen_at d xs close p u) out (back (back out₁ n exit) (n + w.length) exit₂) (record { end = t.value.next; length = n + w.length + k; join = false })
              chosen_spelt =
                  record {
                    tree = bracketed p bundle choice.tree (test_of xs choice.test);
                    reads = r.reads ∙ ap (λ (x : ℕ). parsed x r.tree) (choice.ends ∙ ap (λ (x : RawTest). x.value.next) same_test) ∙ ap (λ (x : Tree). parsed t.value.next x) choice.is;
                    puts = puts_same (sym (chosen_text xs p bundle choice.tree choice.test)) (wrote_end chosen_wrote refl);
                    join = refl;
                  }
