-- The walks over a filter's text, whatever they gather: one law for each answer of an item and of a filter, and for each turn.
-- The code goes through the text as the reader of crate syntax does, and gathers a fold of the tree in place of the tree; `answer_of`
-- translates what the reader gives. The laws hold for any fold and any answer that keeps what was gathered (`Cases`). Each takes what the code has found
-- at its place, rewrites the reader's clause there (`test_step`, `opened-step` ..), and finds the code's answer to be its translation. The
-- loop of a filter keeps `Chain`: the reader goes on from the position reached with some tree, and the value so far is that tree's. The
-- filter in square brackets and the next item of a filter may be walked for another fold ψ, which may gather less.
-- A walk from the first spot reads the whole text (`top_read`).
-- Assumes nothing.
use Rattle.std.specs.Prelude.{Option, Some, None}
use Prim.Native.Nat.{ℕ, ◌+◌, ◌-◌, ◌≤◌}
use native.Mathlib.Omega.{arith}
use mathlib.Core.Path.{◌≡◌, refl, sym, ap, subst, ◌∙◌}
use mathlib.Core.Bool.{Bool, cond}
use mathlib.Core.List.{List}
use lib.ListN.{length}
use Rattle.syntax.specs.Tree.{Tree, join}
use Rattle.syntax.specs.Grammar.{round, square, deepest, Item, Filter, one_item, one_more}
use Rattle.syntax.specs.Scan.{is_space, test_of, head_at, member_after, connective_at, close_at}
use Rattle.base.specs.Runs.{RunEnd}
use Rattle.base.specs.Parts.{part}
use Rattle.syntax.specs.Reader.{Parsed, parsed, unparsed, negated_if, chain_of, item_at, filter_at, bracket_at, chosen_at, whole, read}
use Rattle.syntax.specs.declared.RawTest.{RawTest}
use Rattle.syntax.specs.declared.Head.{Head}
use Rattle.syntax.specs.declared.Link.{Link}
use Rattle.syntax.proofs.Words.{skip_spaces, spaces_rise}
use Rattle.syntax.proofs.Structure.{ConnectiveDerived, connective_derived}
use Rattle.syntax.proofs.Sound.{ItemDerived, FilterDerived, item_derived, filter_derived}
use Rattle.syntax.proofs.Complete.{item_rise, filter_rise, test_step, opened-step, deep_step, chosen-step, deep_choice_step, nothing_step, filter_step, chain_step}
use Rattle.syntax.proofs.Places.{connective_ahead}
use Rattle.syntax.specs.Fold.{Fold, fold_tree}
use Rattle.syntax.proofs.Fold.{fold_negated}
use Rattle.filter.specs.Walks.{top_spot, answer_of}
use Rattle.filter.specs.declared.Spot.{Spot}

-- ---- where the whole text begins

pub top_is : (xs : List ℕ) (start : ℕ) → RunEnd is_space xs 0 start → record { at = start; levels = deepest; close = round; bundle = 0 } ≡ top_spot xs
unfolding top_spot
top_is xs start s = rw s.is

module _ (xs : List ℕ) (s : Spot) (e : s ≡ top_spot xs) where
  pub top_within : s.at ≤ length xs
  unfolding top_spot
  top_within = rw e ((spaces_rise (skip_spaces xs 0)).1 (omega arith))

  pub top-bundle : s.bundle ≡ 0
  unfolding top_spot
  top-bundle = rw e

  -- the reader reads the whole text as the filter at that spot
  pub top_read : read xs ≡ whole xs (filter_at s.levels xs s.close s.at)
  unfolding top_spot read
  top_read = rw e

-- ---- gathering

-- an answer says where it ends, and what was gathered
pub record Cases {A W : Type 0} (done : ℕ → A → W) : Type 0 where
  pub end : (q p : ℕ) (a b : A) → done q a ≡ done p b → q ≡ p
  pub value : (q p : ℕ) (a b : A) → done q a ≡ done p b → a ≡ b

-- what an answer tells of what was parsed
pub record Was {A : Type 0} (φ : Fold A) (g : Parsed) (q : ℕ) (a : A) : Type 0 where
  pub tree : Tree
  pub read : g ≡ parsed q tree
  pub value : a ≡ fold_tree φ tree

some_same : {T : Type 0} {x y : T} → Some x ≡ Some y → x ≡ y
some_same h = cc

never_some : {T : Type 0} {x : T} → None ≡ Some x → ⊥
never_some h = let z : ◌≡◌ {A = ℕ} 0 1 = cc in omega arith

module _ {A W : Type 0} (done : ℕ → A → W) (cases : Cases done) (φ : Fold A) where
  was_done : {r : Option W} {q : ℕ} {a : A} (g : Parsed) → r ≡ answer_of done φ g → r ≡ Some (done q a) → Was φ g q a
  unfolding answer_of
  was_done {r} {q} {a} (parsed p f) e h =
      record {
        tree = f;
        read = ap (λ (n : ℕ). parsed n f) (cases.end p q (fold_tree φ f) a (some_same (sym e ∙ h)));
        value = cases.value q p a (fold_tree φ f) (some_same (sym h ∙ e));
      }
  was_done {r} {q} {a} unparsed e h = absurd (never_some (sym e ∙ h))

  was_nothing : {r : Option W} (g : Parsed) → r ≡ answer_of done φ g → r ≡ None → g ≡ unparsed
  unfolding answer_of
  was_nothing (parsed p f) e h = absurd (never_some (sym h ∙ e))
  was_nothing unparsed e h = refl

module _ {A W : Type 0} (done : ℕ → A → W) (cases : Cases done) (φ : Fold A) where
  abbrev answer : Parsed → Option W
  answer = answer_of done φ

  -- an item or a filter that was walked: its derivation too
  pub record WasItem (xs : List ℕ) (close d p q : ℕ) (a : A) : Type 0 where
    pub tree : Tree
    pub read : item_at d xs close p ≡ parsed q tree
    pub value : a ≡ fold_tree φ tree
    pub derives : Item xs close d p q tree

  pub record WasFilter (xs : List ℕ) (close d p q : ℕ) (a : A) : Type 0 where
    pub tree : Tree
    pub read : filter_at d xs close p ≡ parsed q tree
    pub value : a ≡ fold_tree φ tree
    pub derives : Filter xs close d p q tree

  module _ (xs : List ℕ) (close d p : ℕ) (r : Option W) where
    pub was_item : (q : ℕ) (a : A) → r ≡ answer (item_at d xs close p) → r ≡ Some (done q a) → WasItem xs close d p q a
    was_item q a e h =
        let w = was_done done cases φ (item_at d xs close p) e h in
        record { tree = w.tree; read = w.read; value = w.value; derives = subst (ItemDerived xs close d p) w.read (item_derived d xs close p) }

    pub was_filter : (q : ℕ) (a : A) → r ≡ answer (filter_at d xs close p) → r ≡ Some (done q a) → WasFilter xs close d p q a
    was_filter q a e h =
        let w = was_done done cases φ (filter_at d xs close p) e h in
        record { tree = w.tree; read = w.read; value = w.value; derives = subst (FilterDerived xs close d p) w.read (filter_derived d xs close p) }

    pub was_none : r ≡ answer (filter_at d xs close p) → r ≡ None → filter_at d xs close p ≡ unparsed
    was_none e h = was_nothing done cases φ (filter_at d xs close p) e h

    pub item_ahead : (q : ℕ) (a : A) → r ≡ answer (item_at d xs close p) → r ≡ Some (done q a) → (p + 1 ≤ q) × (q ≤ length xs)
    item_ahead q a e h = item_rise (was_item q a e h).derives

    pub filter_within : (q : ℕ) (a : A) → r ≡ answer (filter_at d xs close p) → r ≡ Some (done q a) → q ≤ length xs
    filter_within q a e h = (filter_rise (was_filter q a e h).derives).1

    pub filter_ahead : (q : ℕ) (a : A) → r ≡ answer (filter_at d xs close p) → r ≡ Some (done q a) → (p + 1 ≤ q) × (q ≤ length xs)
    filter_ahead q a e h = filter_rise (was_filter q a e h).derives

  -- ---- an item

  module _ (xs : List ℕ) (close d p : ℕ) (h : Option Head) (e : h ≡ head_at xs close p) where
    pub item_test : (g : Head) (t : RawTest) (a : A) → h ≡ Some g → g ≡ Head.Test t → a ≡ φ.one (test_of xs t) → Some (done t.value.next a) ≡ answer (item_at d xs close p)
    unfolding answer_of fold_tree
    item_test g t a s i v = rw (test_step xs close p d (sym e ∙ s ∙ ap Some i), v)

    pub item_nothing : h ≡ None → None ≡ answer (item_at d xs close p)
    unfolding answer_of
    item_nothing i = rw (nothing_step xs close p d (sym e ∙ i))

    module _ (g : Head) (s : h ≡ Some g) (q : ℕ) (b : Bool) (i : g ≡ Head.Open q b) where
      pub item_deep : d ≡ 0 → None ≡ answer (item_at d xs close p)
      unfolding answer_of
      item_deep z = rw (deep_step xs close p d (sym e ∙ s ∙ ap Some i) z)

      pub item-opened : (d ≡ 0 → ⊥) → (r : Option W) → r ≡ answer (bracket_at (d - 1) xs b q) → r ≡ answer (item_at d xs close p)
      item-opened n r f = f ∙ ap answer (sym (opened-step xs close p d (sym e ∙ s ∙ ap Some i) n))

    module _ (g : Head) (s : h ≡ Some g) (u : ℕ) (i : g ≡ Head.Choice u) where
      pub choice_deep : d ≡ 0 → None ≡ answer (item_at d xs close p)
      unfolding answer_of
      choice_deep z = rw (deep_choice_step xs close p d (sym e ∙ s ∙ ap Some i) z)

      pub item-chosen : (d ≡ 0 → ⊥) → (r : Option W) → r ≡ answer (chosen_at (d - 1) xs close p u) → r ≡ answer (item_at d xs close p)
      item-chosen n r f = f ∙ ap answer (sym (chosen-step xs close p d (sym e ∙ s ∙ ap Some i) n))

  -- ---- a filter in round brackets

  module _ (xs : List ℕ) (close d q : ℕ) (o : close ≡ round) (b : Bool) (r : Option W) (f : r ≡ answer (filter_at d xs close q)) where
    in_round_lem : r ≡ answer (filter_at d xs round q)
    in_round_lem = f ∙ ap (λ (n : ℕ). answer (filter_at d xs n q)) o

    pub round_no_filter : r ≡ None → None ≡ answer (bracket_at d xs b q)
    unfolding answer_of bracket_at
    round_no_filter j = rw (was_nothing done cases φ (filter_at d xs round q) in_round_lem j)

    module _ (k : ℕ) (a : A) (j : r ≡ Some (done k a)) (c : Option ℕ) (g : c ≡ close_at xs round k) where
      was_there : Was φ (filter_at d xs round q) k a
      was_there = was_done done cases φ (filter_at d xs round q) in_round_lem j

      pub round_open : c ≡ None → None ≡ answer (bracket_at d xs b q)
      unfolding answer_of bracket_at
      round_open y = let w = was_there in rw (w.read, sym g ∙ y)

      pub round-closed : (m : ℕ) (v : A) → c ≡ Some m → v ≡ cond b (φ.negate a) a → Some (done m v) ≡ answer (bracket_at d xs b q)
      unfolding answer_of bracket_at
      round-closed m v y z =
          let w = was_there in
          let s : v ≡ fold_tree φ (negated_if b w.tree) = z ∙ ap (λ (x : A). cond b (φ.negate x) x) w.value ∙ sym (fold_negated φ b w.tree) in
          rw (w.read, sym g ∙ y) (ap (λ (x : A). Some (done m x)) s)

  -- ---- the test of a member after its bundle's brackets; what is in them is walked for what ψ gathers

  module _ (xs : List ℕ) (close d p u q : ℕ) (s : RunEnd is_space xs (u + 1) q) (ψ : Fold A) (r : Option W) (f : r ≡ answer_of done ψ (filter_at d xs square q)) where
    pub chosen_no_filter : r ≡ None → None ≡ answer (chosen_at d xs close p u)
    unfolding answer_of chosen_at
    chosen_no_filter j = rw (← s.is, was_nothing done cases ψ (filter_at d xs square q) f j)

    module _ (k : ℕ) (a : A) (j : r ≡ Some (done k a)) (c : Option RawTest) (g : c ≡ member_after xs close k) where
      pub chosen_no_member : c ≡ None → None ≡ answer (chosen_at d xs close p u)
      unfolding answer_of chosen_at
      chosen_no_member y = let w = was_done done cases ψ (filter_at d xs square q) f j in rw (← s.is, w.read, sym g ∙ y)

      pub chosen-member : (t : RawTest) (v : A) → c ≡ Some t → ((g : Tree) → filter_at d xs square q ≡ parsed k g → a ≡ fold_tree ψ g → v ≡ φ.inside p (part xs p u) g (fold_tree φ g) (test_of xs t)) → Some (done t.value.next v) ≡ answer (chosen_at d xs close p u)
      unfolding answer_of fold_tree chosen_at
      chosen-member t v y z =
          let w = was_done done cases ψ (filter_at d xs square q) f j in
          rw (← s.is, w.read, sym g ∙ y) (ap (λ (x : A). Some (done t.value.next x)) (z w.tree w.read w.value))

  -- ---- a filter, of which the loop has read the part up to m

  pub record Chain (xs : List ℕ) (close d p m : ℕ) (a : A) : Type 0 where
    pub left : ℕ
    pub tree : Tree
    pub reads : filter_at d xs close p ≡ chain_of left xs (λ k. item_at d xs close k) m tree
    pub enough : length xs - m + 1 ≤ left
    pub value : a ≡ fold_tree φ tree
    pub derives : Filter xs close d p m tree
    pub from : p + 1 ≤ m
    pub within : m ≤ length xs

  module _ (xs : List ℕ) (close d p : ℕ) (r : Option W) (e : r ≡ answer (item_at d xs close p)) where
    pub filter_no_item : r ≡ None → None ≡ answer (filter_at d xs close p)
    unfolding answer_of
    filter_no_item h = rw (filter_step d xs close p, was_nothing done cases φ (item_at d xs close p) e h)

    pub chain_starts : (q : ℕ) (a : A) → r ≡ Some (done q a) → Chain xs close d p q a
    chain_starts q a h =
        let w = was_item xs close d p r q a e h in
        let u = item_rise w.derives in
        record {
          left = length xs;
          tree = w.tree;
          reads = rw (filter_step d xs close p, w.read);
          enough = omega arith;
          value = w.value;
          derives = one_item w.derives;
          from = u.0;
          within = u.1;
        }

module _ {A W : Type 0} (done : ℕ → A → W) (cases : Cases done) (φ : Fold A) (xs : List ℕ) (close d p m : ℕ) (a : A) (k : Chain done cases φ xs close d p m a) (c : Option Link) (e : c ≡ connective_at xs m) where
  pub chain_ends : c ≡ None → Some (done m a) ≡ answer_of done φ (filter_at d xs close p)
  unfolding answer_of
  chain_ends h = rw (k.reads, chain_step k.left xs _ m k.tree (omega (arith, k.enough)), sym e ∙ h, k.value)

  -- the next item is walked for what ψ gathers, which may be less than φ does
  module _ (l : Link) (h : c ≡ Some l) (ψ : Fold A) (r : Option W) (f : r ≡ answer_of done ψ (item_at d xs close l.next)) where
    pub chain_no_item : r ≡ None → None ≡ answer_of done φ (filter_at d xs close p)
    unfolding answer_of
    chain_no_item i =
        rw (k.reads, chain_step k.left xs (λ k. item_at d xs close k) m k.tree (omega (arith, k.enough)), sym e ∙ h, was_nothing done cases ψ (item_at d xs close l.next) f i)

    pub chain_takes : (n : ℕ) (b v : A) → r ≡ Some (done n b) → ((g : Tree) → b ≡ fold_tree ψ g → v ≡ φ.both l.connective a (fold_tree φ g)) → Chain done cases φ xs close d p n v
    unfolding fold_tree
    chain_takes n b v i z =
        let w = was_item done cases ψ xs close d l.next r n b f i in
        let u = item_rise w.derives in
        let y = connective_ahead xs m l c e h in
        let j : ConnectiveDerived xs m (Some l) = subst (ConnectiveDerived xs m) (sym e ∙ h) (connective_derived xs m) in
        record {
          left = k.left - 1;
          tree = join l.connective k.tree w.tree;
          reads = rw (k.reads, chain_step k.left xs (λ k. item_at d xs close k) m k.tree (omega (arith, k.enough)), sym e ∙ h, w.read);
          enough = omega (arith, k.enough);
          value = z w.tree w.value ∙ ap (λ (x : A). φ.both l.connective x (fold_tree φ w.tree)) k.value;
          derives = one_more k.derives j w.derives;
          from = omega (arith, k.from);
          within = u.1;
        }

  pub chain_goes_on : (l : Link) → c ≡ Some l → (r : Option W) → r ≡ answer_of done φ (item_at d xs close l.next) → (n : ℕ) (b v : A) → r ≡ Some (done n b) → v ≡ φ.both l.connective a b → Chain done cases φ xs close d p n v
  chain_goes_on l h r f n b v i z = chain_takes l h φ r f n b v i (λ g s. z ∙ ap (φ.both l.connective a) s)
