-- Reading a filter and writing its rows: one law for each answer of an item and of a filter, and for each turn.
-- `Wrote` says of a call that it answers what the definition reads, and that the cells of the expression stand behind those before its row. A
-- law takes the `Wrote` of the call inside, if there is one, and what the leaves found around it, and gives the `Wrote` of the whole. A row
-- that is written is one cell more (`put_more`), or was left out before its part and is filled in (`fill`). The items of a filter are a
-- chain: `Chained` has the tree so far, its cells, and that the rest of the chain decides; a turn adds an item and its connective
-- (`chain_takes`). An item takes at least as many bytes as it has cells (`item-cells`, by induction on its derivation), and this bounds
-- every sum. `Room` says so of what is left of the list and the text at each step.
-- Assumes nothing.
use Rattle.std.specs.Prelude.{Result, ⊤, Option, Some, None}
use Prim.Native.Nat.{ℕ, suc, ◌+◌, ◌*◌, ◌-◌, ◌≤◌, ◌<◌}
use native.Mathlib.Omega.{arith}
use native.Mathlib.Numerals.{add-one}
use mathlib.Core.Path.{◌≡◌, refl, sym, ap, ap₂, subst, ◌∙◌}
use mathlib.Core.Bool.{Bool, true, false}
use mathlib.Core.List.{List, [], ◌∷◌, ◌++◌, append_assoc, append-nil}
use lib.ListN.{length, get_or, take, set, length-append, length-set}
use lib.Seq.{take-suc, take-suc-set, take-set-lt, set-append_seam, take-take, take_at, length-take-le}
use Rattle.base.specs.Parts.{part}
use Rattle.base.specs.Runs.{RunEnd}
use Rattle.sheet.specs.Sheet.{Parameter}
use Rattle.sheet.specs.Find.{enter}
use Rattle.syntax.specs.Tree.{Test, moved, Tree, test, bracketed, join, negation, tests_of}
use Rattle.syntax.specs.Grammar.{round, square, Item, Filter, item_test, item_bracket, item_not, item_bracketed, one_item, one_more}
use Rattle.syntax.specs.Scan.{is_space, test_of, head_at, member_after, connective_at, close_at, link}
use Rattle.syntax.specs.Reader.{Parsed, parsed, unparsed, negated_if, chain_of, item_at, filter_at, bracket_at, chosen_at}
use Rattle.syntax.specs.declared.RawTest.{RawTest}
use Rattle.syntax.specs.declared.Head.{Head}
use Rattle.syntax.specs.declared.Connective.{Connective}
use Rattle.syntax.specs.declared.Link.{Link}
use Rattle.syntax.proofs.Structure.{ConnectiveDerived, connective_derived, opens_rise, chooses_rise, closes_rise, connects_rise}
use Rattle.syntax.proofs.Sound.{ItemDerived, FilterDerived, item_derived, filter_derived}
use Rattle.syntax.proofs.Complete.{item_rise, filter_rise, test_step, opened-step, deep_step, chosen-step, deep_choice_step, nothing_step, filter_step, chain_step}
use Rattle.syntax.proofs.Places.{head_test_placed, head_open_ahead, head_choice_ahead, connective_ahead}
use Rattle.syntax.proofs.Spelling.{item_count, filter_count}
use Rattle.syntax.proofs.Tests.{test_rise}
use Rattle.syntax.specs.Fold.{fold_tree}
use Rattle.filter.specs.Folds.{join_summaries, summary_of, reading}
use Rattle.filter.specs.declared.Summary.{Summary}
use Rattle.filter.specs.declared.Spot.{Spot}
use Rattle.filter.proofs.Reading.{fault_append, reading_is, summary_inside}
use Rattle.rows.specs.Cells.{number_of, cell_of, encode}
use Rattle.row_writer.specs.Writing.{probe_for, prepared, cell_count, outcome_of, written_of, Wrote, written}
use Rattle.row_writer.specs.Steps.{Room, Joinable, WroteTest, WroteNot, WroteClosed, no_close, closed, closed_not, WrotePair, WroteMember, no_member, a_member, WroteJoin, Inside, Chained}
use Rattle.rows.specs.declared.Row.{Row}
use Rattle.row_writer.specs.declared.Outcome.{Outcome}
use Rattle.row_writer.specs.declared.Written.{Written}
use Rattle.refusal.specs.declared.Refusal.{Refusal}

-- ---- a row takes at least a byte of the text

mutual
  unfolding cell_count

  item-cells : {xs : List ℕ} {close d p q : ℕ} {f : Tree} → Item xs close d p q f → p + cell_count f ≤ q
  item-cells (item_test t) = omega (arith, test_rise t)
  item-cells (item_bracket o f c) = omega (arith, opens_rise o, filter_cells f, closes_rise c)
  item-cells (item_not o f c) = omega (arith, opens_rise o, filter_cells f, closes_rise c)
  item-cells (item_bracketed o f c s t) = omega (arith, chooses_rise o, filter_cells f, closes_rise c, test_rise t)

  pub filter_cells : {xs : List ℕ} {close d p q : ℕ} {f : Tree} → Filter xs close d p q f → p + cell_count f ≤ q
  filter_cells (one_item i) = item-cells i
  filter_cells (one_more f c i) = omega (arith, filter_cells f, connects_rise c, item-cells i)

pub cells-counted : (ps : List Parameter) (xs : List ℕ) (c : ℕ) (f : Tree) → length (encode (prepared ps xs c f)) ≡ cell_count f
unfolding prepared encode cell_count
cells-counted ps xs c (test t) = refl
cells-counted ps xs c (bracketed p b f t) = omega (arith, cells-counted ps xs (enter ps c b) f)
cells-counted ps xs c (join k f g) =
    let first : List ℕ = encode (prepared ps xs c f) in
    let second : List ℕ = encode (prepared ps xs c g) in
    omega (arith, length-append first (cell_of (Row.Connect k (length second)) ∷ second), cells-counted ps xs c f, cells-counted ps xs c g)
cells-counted ps xs c (negation f) = omega (arith, length-append (encode (prepared ps xs c f)) (cell_of Row.Not ∷ []), cells-counted ps xs c f)

-- one cell more
put_more : (a b : List ℕ) (l : List ℕ) (k v : ℕ) → take k l ≡ a ++ b → k < length l → take (k + 1) (set l k v) ≡ a ++ (b ++ (v ∷ []))
put_more a b l k v e h = ap (λ (n : ℕ). take n (set l k v)) (add-one k) ∙ take-suc-set l k v h ∙ ap (λ (x : List ℕ). x ++ (v ∷ [])) e ∙ append_assoc a b (v ∷ [])

-- a cell filled in
fill : (a e m : List ℕ) (x i k v : ℕ) → take k m ≡ a ++ (x ∷ e) → length a ≡ i → i < k → take k (set m i v) ≡ a ++ (v ∷ e)
fill a e m x i k v h l low = take-set-lt k m i v low ∙ ap₂ (λ (s : List ℕ) (j : ℕ). set s j v) h (sym l) ∙ set-append_seam a x e v

-- one before cells that were written behind it
fill_one : (l e m : List ℕ) (i k v : ℕ) → take k m ≡ take (i + 1) l ++ e → i < length l → i < k → take k (set m i v) ≡ take i l ++ (v ∷ e)
fill_one l e m i k v h s low =
    let before : take k m ≡ take i l ++ (get_or l i 0 ∷ e) =
    h ∙ ap (λ (n : ℕ). take n l ++ e) (add-one i) ∙ ap (λ (a : List ℕ). a ++ e) (take-suc l i 0 s) ∙ append_assoc (take i l) (get_or l i 0 ∷ []) e in
    fill (take i l) e m (get_or l i 0) i k v before (length-take-le i l (omega (arith, s))) low

-- and two
fill_two : (l e m : List ℕ) (i k u v : ℕ) → take k m ≡ take (i + 2) l ++ e → i + 1 < length l → i + 1 < k → take k (set (set m i u) (i + 1) v) ≡ take i l ++ (u ∷ (v ∷ e))
fill_two l e m i k u v h s low =
    let x : ℕ = get_or l i 0 in
    let y : ℕ = get_or l (i + 1) 0 in
    let two : i + 2 ≡ suc (i + 1) = omega arith in
    let first : take (i + 1) l ≡ take i l ++ (x ∷ []) = ap (λ (n : ℕ). take n l) (add-one i) ∙ take-suc l i 0 (omega (arith, s)) in
    let both : take (i + 2) l ≡ take i l ++ (x ∷ (y ∷ [])) =
    ap (λ (n : ℕ). take n l) two ∙ take-suc l (i + 1) 0 s ∙ ap (λ (a : List ℕ). a ++ (y ∷ [])) first ∙ append_assoc (take i l) (x ∷ []) (y ∷ []) in
    let before : take k m ≡ take i l ++ (x ∷ (y ∷ e)) = h ∙ ap (λ (a : List ℕ). a ++ e) both ∙ append_assoc (take i l) (x ∷ (y ∷ [])) e in
    let long : length (take i l) ≡ i = length-take-le i l (omega (arith, s)) in
    let one : take k (set m i u) ≡ (take i l ++ (u ∷ [])) ++ (y ∷ e) = fill (take i l) (y ∷ e) m x i k u before long (omega (arith, low)) ∙ sym (append_assoc (take i l) (u ∷ []) (y ∷ e)) in
    fill (take i l ++ (u ∷ [])) e (set m i u) y (i + 1) k v one (length-append (take i l) (u ∷ []) ∙ ap (λ (n : ℕ). n + 1) long) low ∙ append_assoc (take i l) (u ∷ []) (v ∷ e)

-- ---- rows that are written by themselves

module _ (k : Connective) (n : ℕ) where
  pub connect_and : k ≡ Connective.And → 8 * n + 3 ≡ cell_of (Row.Connect k n)
  unfolding cell_of
  connect_and e = rw e

  pub connect_or : k ≡ Connective.Or → 8 * n + 4 ≡ cell_of (Row.Connect k n)
  unfolding cell_of
  connect_or e = rw e

module _ (ps : List Parameter) (c : ℕ) (xs : List ℕ) (t : RawTest) (n : ℕ) (k : n ≡ number_of (probe_for ps xs c (test_of xs t))) where
  test_cell : 8 * n ≡ cell_of (Row.Test (probe_for ps xs c (test_of xs t)))
  unfolding cell_of
  test_cell = ap (λ (x : ℕ). 8 * x) k

  pub test_written : (row : ℕ) (s : Summary) (l : List ℕ) → s ≡ (reading ps c).one (test_of xs t) → row < length l
      → WroteTest ps c xs row t (written t.value.next (record { summary = s; cells = 1 })) l (set l row (8 * n))
  test_written row s l e room =
      record { answers = ap (λ (o : Summary). written t.value.next (record { summary = o; cells = 1 })) e; cells = ap (set l row) test_cell; room = room }

  pub pair-written : (at : ℕ) (v : Outcome) (row : ℕ) (o x : Summary) (b : ℕ) (l : List ℕ) → o ≡ (reading ps c).one (moved at (test_of xs t)) → x ≡ join_summaries o v.summary
      → b ≡ cell_of (Row.Bracket v.cells) → row + v.cells + 1 < length l
      → WrotePair ps c xs at t v row (written t.value.next (record { summary = x; cells = v.cells + 2 })) l (set (set l row b) (row + 1) (8 * n))
  pair-written at v row o x b l e j h room =
      record {
        answers = ap (λ (s : Summary). written t.value.next (record { summary = s; cells = v.cells + 2 })) (j ∙ ap (λ (s : Summary). join_summaries s v.summary) e);
        cells = ap₂ (λ (y z : ℕ). set (set l row y) (row + 1) z) h test_cell;
        room = omega (arith, room);
      }

pub join_written : (k : Connective) (v w : Outcome) (row : ℕ) (s : Summary) (y : ℕ) (l : List ℕ) → s ≡ join_summaries v.summary w.summary → y ≡ cell_of (Row.Connect k w.cells)
    → row + v.cells < length l
    → WroteJoin k v w row (record { summary = s; cells = v.cells + w.cells + 1 }) l (set l (row + v.cells) y)
join_written k v w row s y l e h room =
    record { answers = ap (λ (x : Summary). record { summary = x; cells = v.cells + w.cells + 1 }) e; cells = ap (set l (row + v.cells)) h; room = room }

-- the second of two cells has room, and a test more can be counted
pub second_room : (l : List ℕ) (row n b : ℕ) → row + n + 1 < length l → row + 1 < length (set l row b)
second_room l row n b h = omega (arith, length-set l row b)

pub one_test_more : (ps : List Parameter) (c : ℕ) (t : Test) (o : Summary) (n : ℕ) → o ≡ (reading ps c).one t → n < 1024 → o.tests + n ≤ 1024
one_test_more ps c t o n e h = let one : o.tests ≡ 1 = ap (λ (s : Summary). s.tests) e in omega (arith, one)

module _ (xs : List ℕ) (q : ℕ) (b : Bool) (v : Outcome) (row : ℕ) (f : Option ℕ) (e : f ≡ close_at xs round q) where
  pub close_none : (l : List ℕ) → f ≡ None → WroteClosed xs q b v row None l l
  close_none l i = no_close (sym e ∙ i)

  pub close_found : (end : ℕ) (l : List ℕ) → f ≡ Some end → b ≡ false → WroteClosed xs q b v row (Some (written end v)) l l
  close_found end l i z = closed (sym e ∙ i) z

  pub close_not : (end : ℕ) (r : Written) (l m : List ℕ) → f ≡ Some end → b ≡ true → WroteNot end v row r l m → WroteClosed xs q b v row (Some r) l m
  close_not end r l m i z w = closed_not (sym e ∙ i) z w

module _ (ps : List Parameter) (c : ℕ) (xs : List ℕ) (spot : Spot) (q : ℕ) (v : Outcome) (row : ℕ) (f : Option RawTest) (e : f ≡ member_after xs spot.close q) where
  pub member_none : (l : List ℕ) → f ≡ None → WroteMember ps c xs spot q v row None l l
  member_none l i = no_member (sym e ∙ i)

  pub member-found : (t : RawTest) (r : Written) (l m : List ℕ) → f ≡ Some t → WrotePair ps c xs spot.at t v row r l m → WroteMember ps c xs spot q v row (Some r) l m
  member-found t r l m i w = a_member (sym e ∙ i) w

-- ---- what an answer tells, and how one is given

some_same : {T : Type 0} {x y : T} → Some x ≡ Some y → x ≡ y
some_same h = cc

module _ (ps : List Parameter) (c : ℕ) (xs : List ℕ) (row : ℕ) where
  pub record Was (o : Parsed) (q : ℕ) (v : Outcome) (before after : List ℕ) : Type 0 where
    pub tree : Tree
    pub read : o ≡ parsed q tree
    pub value : v ≡ outcome_of ps c tree
    pub cells : take (row + cell_count tree) after ≡ take row before ++ encode (prepared ps xs c tree)

  pub was : {o : Parsed} {r : Option Written} {before after : List ℕ} (q : ℕ) (v : Outcome) → Wrote ps c xs row o r before after → r ≡ Some (written q v) → Was o q v before after
  unfolding written_of
  was {o} {r} {before} {after} q v w h = by_parsed o refl
    where
      by_parsed : (g : Parsed) → o ≡ g → Was o q v before after
      by_parsed (parsed p f) i =
          let same : written q v ≡ written p (outcome_of ps c f) = some_same (sym h ∙ w.answers ∙ ap (written_of ps c) i) in
          let end : p ≡ q = ap (λ (r : Written). r.end) (sym same) in
          record { tree = f; read = i ∙ ap (λ (n : ℕ). parsed n f) end; value = ap (λ (r : Written). r.outcome) same; cells = w.cells p f i }
      by_parsed unparsed i =
          let same : Some (written q v) ≡ None = sym h ∙ w.answers ∙ ap (written_of ps c) i in
          let z : ◌≡◌ {A = ℕ} 0 1 = cc in absurd (omega arith)

  pub was_none : {o : Parsed} {r : Option Written} {before after : List ℕ} → Wrote ps c xs row o r before after → r ≡ None → o ≡ unparsed
  unfolding written_of
  was_none {o} w h = by_parsed o refl
    where
      by_parsed : (g : Parsed) → o ≡ g → o ≡ unparsed
      by_parsed (parsed p f) i =
          let same : Some (written p (outcome_of ps c f)) ≡ None = sym (w.answers ∙ ap (written_of ps c) i) ∙ h in
          let z : ◌≡◌ {A = ℕ} 0 1 = cc in absurd (omega arith)
      by_parsed unparsed i = i

  give : (o : Parsed) (q : ℕ) (f : Tree) (v : Outcome) (before after : List ℕ) → o ≡ parsed q f → v ≡ outcome_of ps c f → take (row + cell_count f) after ≡ take row before ++ encode (prepared ps xs c f)
      → length after ≡ length before → Wrote ps c xs row o (Some (written q v)) before after
  unfolding written_of
  give o q f v before after i e k s =
      record {
        answers = ap (λ (o : Outcome). Some (written q o)) e ∙ sym (ap (written_of ps c) i);
        cells = λ p g h. let same : g ≡ f = cc in subst (λ (t : Tree). take (row + cell_count t) after ≡ take row before ++ encode (prepared ps xs c t)) (sym same) k;
        size = s;
      }

  give_none : (o : Parsed) (before after : List ℕ) → o ≡ unparsed → length after ≡ length before → Wrote ps c xs row o None before after
  unfolding written_of
  give_none o before after i s =
      record {
        answers = sym (ap (written_of ps c) i);
        cells = λ p g h. let z : ◌≡◌ {A = ℕ} 0 1 = cc in absurd (omega arith);
        size = s;
      }

-- where an item or a filter that was read ends
module _ (ps : List Parameter) (c : ℕ) (xs : List ℕ) (row close d p : ℕ) (r : Option Written) (before after : List ℕ) (got : Written) where
  derived_item : (w : Was ps c xs row (item_at d xs close p) got.end got.outcome before after) → Item xs close d p got.end w.tree
  derived_item w = subst (ItemDerived xs close d p) w.read (item_derived d xs close p)

  derived_filter : (w : Was ps c xs row (filter_at d xs close p) got.end got.outcome before after) → Filter xs close d p got.end w.tree
  derived_filter w = subst (FilterDerived xs close d p) w.read (filter_derived d xs close p)

  -- its end, its cells and its tests, by the text that it takes
  pub record Takes : Type 0 where
    pub ahead : p + 1 ≤ got.end
    pub within : got.end ≤ length xs
    pub cells_fit : p + got.outcome.cells ≤ got.end
    pub tests_fit : p + got.outcome.summary.tests ≤ got.end

  item_takes : Wrote ps c xs row (item_at d xs close p) r before after → r ≡ Some got → Takes
  item_takes w h =
      let k = was ps c xs row got.end got.outcome w h in
      let i = derived_item k in
      record {
        ahead = (item_rise i).0;
        within = (item_rise i).1;
        cells_fit = omega (arith, item-cells i, ap (λ (o : Outcome). o.cells) k.value);
        tests_fit = omega (arith, item_count i, ap (λ (o : Outcome). o.summary.tests) k.value);
      }

  pub filter_takes : Wrote ps c xs row (filter_at d xs close p) r before after → r ≡ Some got → Takes
  filter_takes w h =
      let k = was ps c xs row got.end got.outcome w h in
      let i = derived_filter k in
      record {
        ahead = (filter_rise i).0;
        within = (filter_rise i).1;
        cells_fit = omega (arith, filter_cells i, ap (λ (o : Outcome). o.cells) k.value);
        tests_fit = omega (arith, filter_count i, ap (λ (o : Outcome). o.summary.tests) k.value);
      }

  pub filter_within : Wrote ps c xs row (filter_at d xs close p) r before after → r ≡ Some got → got.end ≤ length xs
  filter_within w h = (filter_takes w h).within

  -- a cell more has room behind a bracket
  pub round_room : Wrote ps c xs row (filter_at d xs close p) r before after → r ≡ Some got → Room xs before row p → row < p → row + got.outcome.cells < length after
  round_room w h room low = let t = filter_takes w h in omega (arith, t.cells_fit, t.within, room.short, room.size, w.size)

-- a test's row has room
pub test_room : (xs rows : List ℕ) (row close p : ℕ) (h : Option Head) (g : Head) (t : RawTest) → h ≡ head_at xs close p → h ≡ Some g → g ≡ Head.Test t → Room xs rows row p → row < length rows
test_room xs rows row close p h g t e o i room = let a = head_test_placed xs close p h e room.within g o t i in omega (arith, a.1, a.2, room.short, room.size, room.low)

-- behind an opening bracket
module _ (xs rows : List ℕ) (row close p : ℕ) (h : Option Head) (e : h ≡ head_at xs close p) (room : Room xs rows row p) where
  module _ (g : Head) (o : h ≡ Some g) (q : ℕ) (b : Bool) (i : g ≡ Head.Open q b) where
    pub open_room : Room xs rows row q
    open_room = let a = head_open_ahead xs close p h e room.within g o q b i in record { short = room.short; size = room.size; low = omega (arith, a.0, room.low); within = a.1 }

    pub open_low : row < q
    open_low = let a = head_open_ahead xs close p h e room.within g o q b i in omega (arith, a.0, room.low)

    pub open_less : (t : ℕ) → 4 * (length xs - p) + 1 ≡ t → 4 * (length xs - q) + 3 < t
    open_less t m = let a = head_open_ahead xs close p h e room.within g o q b i in omega (arith, a.0, a.1)

  module _ (g : Head) (o : h ≡ Some g) (u : ℕ) (i : g ≡ Head.Choice u) where
    pub choice_low : p < u
    choice_low = let a = head_choice_ahead xs close p h e room.within g o u i in omega (arith, a.0)

    pub choice_within : u < length xs
    choice_within = let a = head_choice_ahead xs close p h e room.within g o u i in omega (arith, a.1)

-- in square brackets
module _ (ps : List Parameter) (xs rows : List ℕ) (row : ℕ) (spot : Spot) (u : ℕ) (inside : Spot) (i : Inside ps xs spot u inside) (low : spot.at < u) where
  pub inside_room : Room xs rows row spot.at → Room xs rows (row + 2) inside.at
  inside_room room = record { short = room.short; size = room.size; low = omega (arith, i.spaces.from, room.low); within = i.spaces.within }

  pub inside-less : (t : ℕ) → u < length xs → 4 * (length xs - spot.at) ≡ t → 4 * (length xs - inside.at) + 2 < t
  inside-less t h m = omega (arith, i.spaces.from, i.spaces.within)

-- ---- what is read, from what its parts are read as

module _ (xs : List ℕ) where
  closed-read : (d q : ℕ) (b : Bool) (k m : ℕ) (f : Tree) → filter_at d xs round q ≡ parsed k f → close_at xs round k ≡ Some m → bracket_at d xs b q ≡ parsed m (negated_if b f)
  unfolding bracket_at
  closed-read d q b k m f r c = rw (r, c)

  open_read : (d q : ℕ) (b : Bool) (k : ℕ) (f : Tree) → filter_at d xs round q ≡ parsed k f → close_at xs round k ≡ None → bracket_at d xs b q ≡ unparsed
  unfolding bracket_at
  open_read d q b k f r c = rw (r, c)

  none_read : (d q : ℕ) (b : Bool) → filter_at d xs round q ≡ unparsed → bracket_at d xs b q ≡ unparsed
  unfolding bracket_at
  none_read d q b r = rw r

module _ (xs : List ℕ) (close d p u q : ℕ) (s : RunEnd is_space xs (u + 1) q) where
  chosen-read : (k : ℕ) (f : Tree) (t : RawTest) → filter_at d xs square q ≡ parsed k f → member_after xs close k ≡ Some t
      → chosen_at d xs close p u ≡ parsed t.value.next (bracketed p (part xs p u) f (test_of xs t))
  unfolding chosen_at
  chosen-read k f t r c = rw (← s.is, r, c)

  no_member-read : (k : ℕ) (f : Tree) → filter_at d xs square q ≡ parsed k f → member_after xs close k ≡ None → chosen_at d xs close p u ≡ unparsed
  unfolding chosen_at
  no_member-read k f r c = rw (← s.is, r, c)

  no_choice_read : filter_at d xs square q ≡ unparsed → chosen_at d xs close p u ≡ unparsed
  unfolding chosen_at
  no_choice_read r = rw (← s.is, r)

module _ (xs : List ℕ) (close d p : ℕ) where
  first_read : (q : ℕ) (f : Tree) → item_at d xs close p ≡ parsed q f → filter_at d xs close p ≡ chain_of (length xs) xs (λ k. item_at d xs close k) q f
  first_read q f r = rw (filter_step d xs close p, r)

  next-read : (left m q : ℕ) (o : Connective) (n : ℕ) (f g : Tree) → filter_at d xs close p ≡ chain_of left xs (λ k. item_at d xs close k) m f → 1 ≤ left → connective_at xs m ≡ Some (link q o)
      → item_at d xs close q ≡ parsed n g
      → filter_at d xs close p ≡ chain_of (left - 1) xs (λ k. item_at d xs close k) n (join o f g)
  next-read left m q o n f g r l c i = rw (r, chain_step left xs (λ k. item_at d xs close k) m f l, c, i)

-- ---- an item

summary_joined : (ps : List Parameter) (c : ℕ) (ts us : List Test) → join_summaries (summary_of ps c ts) (summary_of ps c us) ≡ summary_of ps c (ts ++ us)
summary_joined ps c ts us = sym (ap₂ (λ (n : ℕ) (f : Result ⊤ Refusal). record { tests = n; first = f }) (length-append ts us) (fault_append ps c ts us))

outcome-same : (ps : List Parameter) (c : ℕ) (f : Tree) (s : Summary) (k : ℕ) → s ≡ summary_of ps c (tests_of f) → k ≡ cell_count f → record { summary = s; cells = k } ≡ outcome_of ps c f
outcome-same ps c f s k e h = rw (e, h)

module _ (ps : List Parameter) (c : ℕ) (xs : List ℕ) (row close d p : ℕ) (h : Option Head) (e : h ≡ head_at xs close p) where
  abbrev Item_wrote : Option Written → List ℕ → List ℕ → Type 0
  Item_wrote r before after = Wrote ps c xs row (item_at d xs close p) r before after

  pub wrote_test : (g : Head) (t : RawTest) (r : Written) (l m : List ℕ) → h ≡ Some g → g ≡ Head.Test t → WroteTest ps c xs row t r l m → Item_wrote (Some r) l m
  unfolding cell_count prepared encode tests_of
  wrote_test g t r l m o i w =
      let v : Outcome = record { summary = (reading ps c).one (test_of xs t); cells = 1 } in
      let cell : ℕ = cell_of (Row.Test (probe_for ps xs c (test_of xs t))) in
      let given : Item_wrote (Some (written t.value.next v)) l (set l row cell) =
      give ps c xs row (item_at d xs close p) t.value.next (test (test_of xs t)) v l (set l row cell) (test_step xs close p d (sym e ∙ o ∙ ap Some i)) refl
      (put_more (take row l) [] l row cell (sym (append-nil (take row l))) w.room) (length-set l row cell) in
      rw (w.answers, w.cells) given

  pub wrote_nothing : (l : List ℕ) → h ≡ None → Item_wrote None l l
  wrote_nothing l i = give_none ps c xs row (item_at d xs close p) l l (nothing_step xs close p d (sym e ∙ i)) refl

  module _ (g : Head) (o : h ≡ Some g) (q : ℕ) (b : Bool) (i : g ≡ Head.Open q b) where
    pub wrote_deep : (l : List ℕ) → d ≡ 0 → Item_wrote None l l
    wrote_deep l z = give_none ps c xs row (item_at d xs close p) l l (deep_step xs close p d (sym e ∙ o ∙ ap Some i) z) refl

    pub wrote_opened : (l m : List ℕ) (r : Option Written) → (d ≡ 0 → ⊥) → Wrote ps c xs row (bracket_at (d - 1) xs b q) r l m → Item_wrote r l m
    wrote_opened l m r n w = subst (λ (o : Parsed). Wrote ps c xs row o r l m) (sym (opened-step xs close p d (sym e ∙ o ∙ ap Some i) n)) w

  module _ (g : Head) (o : h ≡ Some g) (u : ℕ) (i : g ≡ Head.Choice u) where
    pub wrote_choice_deep : (l : List ℕ) → d ≡ 0 → Item_wrote None l l
    wrote_choice_deep l z = give_none ps c xs row (item_at d xs close p) l l (deep_choice_step xs close p d (sym e ∙ o ∙ ap Some i) z) refl

    pub wrote_chosen : (l m : List ℕ) (r : Option Written) → (d ≡ 0 → ⊥) → Wrote ps c xs row (chosen_at (d - 1) xs close p u) r l m → Item_wrote r l m
    wrote_chosen l m r n w = subst (λ (o : Parsed). Wrote ps c xs row o r l m) (sym (chosen-step xs close p d (sym e ∙ o ∙ ap Some i) n)) w

-- ---- a filter in round brackets

module _ (ps : List Parameter) (c : ℕ) (xs : List ℕ) (row close d q : ℕ) (o : close ≡ round) (b : Bool) (l m : List ℕ) (r : Option Written)
    (w : Wrote ps c xs row (filter_at d xs close q) r l m) where
  abbrev Round_wrote : Option Written → List ℕ → Type 0
  Round_wrote r after = Wrote ps c xs row (bracket_at d xs b q) r l after

  in_round_lem : Wrote ps c xs row (filter_at d xs round q) r l m
  in_round_lem = subst (λ (n : ℕ). Wrote ps c xs row (filter_at d xs n q) r l m) o w

  pub round_no_filter : r ≡ None → Round_wrote None m
  round_no_filter j = give_none ps c xs row (bracket_at d xs b q) l m (none_read xs d q b (was_none ps c xs row in_round_lem j)) w.size

  module _ (got : Written) (j : r ≡ Some got) where
    closed_as : (end : ℕ) → close_at xs round got.end ≡ Some end → (x : Bool) → b ≡ x → bracket_at d xs b q ≡ parsed end (negated_if x (was ps c xs row got.end got.outcome in_round_lem j).tree)
    closed_as end y x z =
        let a = was ps c xs row got.end got.outcome in_round_lem j in
        closed-read xs d q b got.end end a.tree a.read y ∙ ap (λ (x : Bool). parsed end (negated_if x a.tree)) z

    pub round-closed : (r2 : Option Written) (n : List ℕ) → WroteClosed xs got.end b got.outcome row r2 m n → Round_wrote r2 n
    unfolding cell_count prepared encode tests_of
    round-closed r2 n (no_close y) =
        let a = was ps c xs row got.end got.outcome in_round_lem j in
        give_none ps c xs row (bracket_at d xs b q) l m (open_read xs d q b got.end a.tree a.read y) w.size
    round-closed r2 n (closed {end = end} y z) =
        let a = was ps c xs row got.end got.outcome in_round_lem j in
        give ps c xs row (bracket_at d xs b q) end a.tree got.outcome l m (closed_as end y false z) a.value a.cells w.size
    round-closed r2 n (closed_not {end = end} y z t) =
        let a = was ps c xs row got.end got.outcome in_round_lem j in
        let same : got.outcome.cells ≡ cell_count a.tree = ap (λ (o : Outcome). o.cells) a.value in
        let before : take (row + got.outcome.cells) m ≡ take row l ++ encode (prepared ps xs c a.tree) = ap (λ (x : ℕ). take (row + x) m) same ∙ a.cells in
        let place : row + suc (cell_count a.tree) ≡ row + got.outcome.cells + 1 = omega (arith, same) in
        let cell : ℕ = cell_of Row.Not in
        let u : Outcome = record { summary = got.outcome.summary; cells = got.outcome.cells + 1 } in
        let given : Round_wrote (Some (written end u)) (set m (row + got.outcome.cells) cell) =
        give ps c xs row (bracket_at d xs b q) end (negation a.tree) u l (set m (row + got.outcome.cells) cell)
        (closed_as end y true z)
        (outcome-same ps c (negation a.tree) got.outcome.summary (got.outcome.cells + 1) (ap (λ (o : Outcome). o.summary) a.value) (omega (arith, same)))
        (ap (λ (x : ℕ). take x (set m (row + got.outcome.cells) cell)) place ∙ put_more (take row l) (encode (prepared ps xs c a.tree)) m (row + got.outcome.cells) cell before t.room)
        (length-set m (row + got.outcome.cells) cell ∙ w.size) in
        rw (t.answers, t.cells) given

-- ---- the test of a member after its bundle's brackets

module _ (ps : List Parameter) (xs : List ℕ) (row : ℕ) (spot : Spot) (u : ℕ) (inside : Spot) (i : Inside ps xs spot u inside) (l m : List ℕ) (r : Option Written)
    (w : Wrote ps inside.bundle xs (row + 2) (filter_at inside.levels xs inside.close inside.at) r l m) where
  abbrev Chosen_wrote : Option Written → List ℕ → Type 0
  Chosen_wrote r after = Wrote ps spot.bundle xs row (chosen_at spot.levels xs spot.close spot.at u) r l after

  in_square : Wrote ps inside.bundle xs (row + 2) (filter_at spot.levels xs square inside.at) r l m
  in_square =
      subst (λ (d : ℕ). Wrote ps inside.bundle xs (row + 2) (filter_at d xs square inside.at) r l m) i.levels
      (subst (λ (close : ℕ). Wrote ps inside.bundle xs (row + 2) (filter_at inside.levels xs close inside.at) r l m) i.close w)

  chosen_none : chosen_at spot.levels xs spot.close spot.at u ≡ unparsed → Chosen_wrote None m
  chosen_none e = give_none ps spot.bundle xs row (chosen_at spot.levels xs spot.close spot.at u) l m e w.size

  pub chosen_no_filter : r ≡ None → Chosen_wrote None m
  chosen_no_filter j = chosen_none (no_choice_read xs spot.close spot.levels spot.at u inside.at i.spaces (was_none ps inside.bundle xs (row + 2) in_square j))

  module _ (got : Written) (j : r ≡ Some got) where
    takes : Takes ps inside.bundle xs (row + 2) inside.close inside.levels inside.at r l m got
    takes = filter_takes ps inside.bundle xs (row + 2) inside.close inside.levels inside.at r l m got w j

    -- there is room for both cells, and the sums fit
    module _ (room : Room xs l row spot.at) (low : spot.at < u) where
      pub chosen_room : row + got.outcome.cells + 1 < length m
      chosen_room = omega (arith, takes.cells_fit, takes.within, i.spaces.from, room.low, room.short, room.size, w.size)

      pub chosen-cells : got.outcome.cells ≤ 1024
      chosen-cells = omega (arith, takes.cells_fit, takes.within, room.short)

      pub chosen_tests : got.outcome.summary.tests < 1024
      chosen_tests = omega (arith, takes.tests_fit, takes.within, i.spaces.from, room.short)

    pub chosen-member : (r2 : Option Written) (n : List ℕ) → WroteMember ps inside.bundle xs spot got.end got.outcome row r2 m n → Chosen_wrote r2 n
    unfolding cell_count prepared encode
    chosen-member r2 n (no_member {l = o} y) =
        let a = was ps inside.bundle xs (row + 2) got.end got.outcome in_square j in
        chosen_none (no_member-read xs spot.close spot.levels spot.at u inside.at i.spaces got.end a.tree a.read y)
    chosen-member r2 n (a_member {t = t} y x) =
        let z : ℕ = inside.bundle in
        let c : ℕ = spot.bundle in
        let a = was ps z xs (row + 2) got.end got.outcome in_square j in
        let tree : Tree = bracketed spot.at (part xs spot.at u) a.tree (test_of xs t) in
        let inner : List ℕ = encode (prepared ps xs z a.tree) in
        let probe : ℕ → ℕ = λ b. cell_of (Row.Test (probe_for ps xs b (test_of xs t))) in
        let one : Summary = (reading ps z).one (moved spot.at (test_of xs t)) in
        let both : Summary = join_summaries one got.outcome.summary in
        let same : got.outcome.cells ≡ cell_count a.tree = ap (λ (o : Outcome). o.cells) a.value in
        let said : got.outcome.summary ≡ fold_tree (reading ps z) a.tree = ap (λ (o : Outcome). o.summary) a.value ∙ sym (reading_is ps z a.tree) in
        let all : both ≡ summary_of ps c (tests_of tree) =
        summary_inside ps c (part xs spot.at u) z spot.at (test_of xs t) one got.outcome.summary both i.bundle refl refl a.tree said in
        let count : ℕ = row + suc (suc (cell_count a.tree)) in
        let place : row + 2 + cell_count a.tree ≡ count = omega arith in
        let before : take count m ≡ take (row + 2) l ++ inner = ap (λ (n : ℕ). take n m) (sym place) ∙ a.cells in
        let cell : ℕ = cell_of (Row.Bracket got.outcome.cells) in
        let first : cell ≡ cell_of (Row.Bracket (length inner)) = ap (λ (n : ℕ). cell_of (Row.Bracket n)) (same ∙ sym (cells-counted ps xs z a.tree)) in
        let cells : take count (set (set m row cell) (row + 1) (probe z)) ≡ take row l ++ encode (prepared ps xs c tree) =
        fill_two l inner m row count cell (probe z) before (omega (arith, x.room, w.size)) (omega arith)
        ∙ ap (λ (x : ℕ). take row l ++ (x ∷ (probe z ∷ inner))) first
        ∙ ap (λ (b : ℕ). take row l ++ (cell_of (Row.Bracket (length (encode (prepared ps xs b a.tree)))) ∷ (probe b ∷ encode (prepared ps xs b a.tree)))) i.bundle in
        let o : Outcome = record { summary = both; cells = got.outcome.cells + 2 } in
        let given : Chosen_wrote (Some (written t.value.next o)) (set (set m row cell) (row + 1) (probe z)) =
        give ps c xs row (chosen_at spot.levels xs spot.close spot.at u) t.value.next tree o l (set (set m row cell) (row + 1) (probe z))
        (chosen-read xs spot.close spot.levels spot.at u inside.at i.spaces got.end a.tree t a.read y)
        (outcome-same ps c tree both (got.outcome.cells + 2) all (omega (arith, same))) cells
        (length-set (set m row cell) (row + 1) (probe z) ∙ length-set m row cell ∙ w.size) in
        rw (x.answers, x.cells) given

-- ---- a filter, of which the loop has read the part up to m

-- the cells before the row are as they were
record Kept (row : ℕ) (before after : List ℕ) : Type 0 where
  same : take row after ≡ take row before
  size : length after ≡ length before

wrote_keeps : (ps : List Parameter) (c : ℕ) (xs : List ℕ) (row : ℕ) (o : Parsed) (r : Option Written) (before after : List ℕ) (q : ℕ) (v : Outcome)
    → Wrote ps c xs row o r before after → r ≡ Some (written q v) → row ≤ length before → Kept row before after
wrote_keeps ps c xs row o r before after q v w h low =
    let a = was ps c xs row q v w h in
    let n : ℕ = cell_count a.tree in
    let short : length (take row before) ≡ row = length-take-le row before low in
    record {
      same = sym (take-take row (row + n) after (omega arith)) ∙ ap (take row) a.cells ∙ take_at (take row before) (encode (prepared ps xs c a.tree)) row short;
      size = w.size;
    }

module _ (ps : List Parameter) (c : ℕ) (xs : List ℕ) (row close d p : ℕ) (l m : List ℕ) (r : Option Written) (w : Wrote ps c xs row (item_at d xs close p) r l m) where
  pub filter_no_item : r ≡ None → Wrote ps c xs row (filter_at d xs close p) None l m
  filter_no_item h = give_none ps c xs row (filter_at d xs close p) l m (rw (filter_step d xs close p, was_none ps c xs row w h)) w.size

  module _ (got : Written) (h : r ≡ Some got) (room : Room xs l row p) where
    kept : Kept row l m
    kept = wrote_keeps ps c xs row (item_at d xs close p) r l m got.end got.outcome w h (omega (arith, room.low, room.within, room.short, room.size))

    pub chain_starts : Chained ps c xs row close d p m got.end got.outcome m
    chain_starts =
        let a = was ps c xs row got.end got.outcome w h in
        let i = subst (ItemDerived xs close d p) a.read (item_derived d xs close p) in
        let same : got.outcome.cells ≡ cell_count a.tree = ap (λ (o : Outcome). o.cells) a.value in
        record {
          left = length xs;
          tree = a.tree;
          reads = first_read xs close d p got.end a.tree a.read;
          enough = omega (arith, item_rise i);
          derives = one_item i;
          value = a.value;
          cells = ap (λ (x : ℕ). take (row + x) m) same ∙ a.cells ∙ ap (λ (b : List ℕ). b ++ encode (prepared ps xs c a.tree)) (sym kept.same);
          same_size = refl;
          room = omega (arith, item-cells i, same, room.low);
          within = (item_rise i).1;
          short = room.short;
          size = w.size ∙ room.size;
        }

    -- what the rest writes behind the item stands behind what was there before it
    pub filter_rest : (r2 : Option Written) (n : List ℕ) → Wrote ps c xs row (filter_at d xs close p) r2 m n → Wrote ps c xs row (filter_at d xs close p) r2 l n
    filter_rest r2 n x =
        record {
          answers = x.answers;
          cells = λ q f e. x.cells q f e ∙ ap (λ (k : List ℕ). k ++ encode (prepared ps xs c f)) kept.same;
          size = x.size ∙ w.size;
        }

module _ (ps : List Parameter) (c : ℕ) (xs : List ℕ) (row close d p : ℕ) (l : List ℕ) (m : ℕ) (v : Outcome) (list : List ℕ) (h : Chained ps c xs row close d p l m v list)
    (f : Option Link) (e : f ≡ connective_at xs m) where
  pub chain_ends : f ≡ None → Wrote ps c xs row (filter_at d xs close p) (Some (written m v)) l list
  chain_ends i =
      let same : v.cells ≡ cell_count h.tree = ap (λ (o : Outcome). o.cells) h.value in
      give ps c xs row (filter_at d xs close p) m h.tree v l list
      (rw (h.reads, chain_step h.left xs (λ k. item_at d xs close k) m h.tree (omega (arith, h.enough)), sym e ∙ i)) h.value
      (ap (λ (x : ℕ). take (row + x) list) (sym same) ∙ h.cells) h.same_size

  module _ (next : Link) (i : f ≡ Some next) where
    ahead : (m + 1 ≤ next.next) × (next.next ≤ length xs)
    ahead = connective_ahead xs m next f e i

    pub chain_room : Room xs list (row + v.cells + 1) next.next
    chain_room = record { short = h.short; size = h.size; low = omega (arith, h.room, ahead.0); within = ahead.1 }

    pub chain_falls : (t : ℕ) → 4 * (length xs - p) + 1 ≡ t → 4 * (length xs - next.next) + 1 < t
    chain_falls t k = omega (arith, filter_rise h.derives, ahead.0, ahead.1)

    module _ (r : Option Written) (list2 : List ℕ) (w : Wrote ps c xs (row + v.cells + 1) (item_at d xs close next.next) r list list2) where
      pub chain_no_item : r ≡ None → Wrote ps c xs row (filter_at d xs close p) None l list2
      chain_no_item j =
          give_none ps c xs row (filter_at d xs close p) l list2
          (rw (h.reads, chain_step h.left xs (λ k. item_at d xs close k) m h.tree (omega (arith, h.enough)), sym e ∙ i, was_none ps c xs (row + v.cells + 1) w j)) (w.size ∙ h.same_size)

      module _ (got : Written) (j : r ≡ Some got) where
        takes_item : Takes ps c xs (row + v.cells + 1) close d next.next r list list2 got
        takes_item = item_takes ps c xs (row + v.cells + 1) close d next.next r list list2 got w j

        pub chain_joins : Joinable list2 row v got.outcome
        chain_joins =
            record {
              place = omega (arith, h.room, h.within, h.short, ahead.0, ahead.1, h.size, w.size);
              cells = omega (arith, h.room, h.short, ahead.0, takes_item.cells_fit, takes_item.within);
              tests = omega (arith, filter_count h.derives, ap (λ (y : Outcome). y.summary.tests) h.value, takes_item.tests_fit, takes_item.within, ahead.0, h.short);
            }

        pub chain_less : length xs - got.end < length xs - m
        chain_less = omega (arith, takes_item.ahead, takes_item.within, ahead.0)

        pub chain_takes : (r2 : Outcome) (list3 : List ℕ) → WroteJoin next.connective v got.outcome row r2 list2 list3 → Chained ps c xs row close d p l got.end r2 list3
        unfolding cell_count prepared encode tests_of
        chain_takes r2 list3 g =
            let a = was ps c xs (row + v.cells + 1) got.end got.outcome w j in
            let item = subst (ItemDerived xs close d next.next) a.read (item_derived d xs close next.next) in
            let rise = item_rise item in
            let conn : ConnectiveDerived xs m (Some next) = subst (ConnectiveDerived xs m) (sym e ∙ i) (connective_derived xs m) in
            let first : v.cells ≡ cell_count h.tree = ap (λ (y : Outcome). y.cells) h.value in
            let second : got.outcome.cells ≡ cell_count a.tree = ap (λ (y : Outcome). y.cells) a.value in
            let inner : List ℕ = encode (prepared ps xs c a.tree) in
            let cell : cell_of (Row.Connect next.connective got.outcome.cells) ≡ cell_of (Row.Connect next.connective (length inner)) = ap (λ (size : ℕ). cell_of (Row.Connect next.connective size)) (second ∙ sym (cells-counted ps xs c a.tree)) in
            let place : row + v.cells + 1 + cell_count a.tree ≡ row + (v.cells + got.outcome.cells + 1) = omega (arith, second) in
            let before : take (row + (v.cells + got.outcome.cells + 1)) list2 ≡ take (row + v.cells + 1) list ++ inner = ap (λ (y : ℕ). take y list2) (sym place) ∙ a.cells in
            let all : Outcome = record { summary = join_summaries v.summary got.outcome.summary; cells = v.cells + got.outcome.cells + 1 } in
            let sums : join_summaries v.summary got.outcome.summary ≡ summary_of ps c (tests_of h.tree ++ tests_of a.tree) =
            ap₂ join_summaries (ap (λ (y : Outcome). y.summary) h.value) (ap (λ (y : Outcome). y.summary) a.value) ∙ summary_joined ps c (tests_of h.tree) (tests_of a.tree) in
            let joined : Chained ps c xs row close d p l got.end all (set list2 (row + v.cells) (cell_of (Row.Connect next.connective got.outcome.cells))) =
            record {
              left = h.left - 1;
              tree = join next.connective h.tree a.tree;
              reads = next-read xs close d p h.left m next.next next.connective got.end h.tree a.tree h.reads (omega (arith, h.enough)) (sym e ∙ i) a.read;
              enough = omega (arith, h.enough, ahead.0, rise.0);
              derives = one_more h.derives conn item;
              value = outcome-same ps c (join next.connective h.tree a.tree) all.summary all.cells sums (omega (arith, first, second));
              cells = fill_one list inner list2 (row + v.cells) (row + (v.cells + got.outcome.cells + 1)) (cell_of (Row.Connect next.connective got.outcome.cells)) before (omega (arith, chain_joins.place, w.size)) (omega arith)
                  ∙ ap₂ (λ (b : List ℕ) (y : ℕ). b ++ (y ∷ inner)) h.cells cell ∙ append_assoc (take row l) (encode (prepared ps xs c h.tree)) (cell_of (Row.Connect next.connective (length inner)) ∷ inner);
              same_size = length-set list2 (row + v.cells) (cell_of (Row.Connect next.connective got.outcome.cells)) ∙ w.size ∙ h.same_size;
              room = omega (arith, h.room, ahead.0, takes_item.cells_fit);
              within = rise.1;
              short = h.short;
              size = length-set list2 (row + v.cells) (cell_of (Row.Connect next.connective got.outcome.cells)) ∙ w.size ∙ h.size;
            } in
            rw (g.answers, g.cells) joined
