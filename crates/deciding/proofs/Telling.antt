-- What the tests that rows state say, from left to right.
-- Assumes nothing.
use Prim.Native.Nat.{ℕ, zero, suc, ◌+◌, ◌-◌, ◌*◌, ◌≤◌, ◌<◌}
use native.Mathlib.Omega.{arith}
use mathlib.Core.Path.{◌≡◌, refl, sym, ap, subst, ◌∙◌}
use mathlib.Core.Bool.{Bool, true, false}
use mathlib.Core.Logic.{⊎_elim}
use mathlib.Core.Option.{Option, some, none-ne-some, some-injective}
use mathlib.Core.List.{List, [], ◌∷◌, ◌++◌}
use lib.Dec.{ltb}
use lib.ListN.{length, get_or, set, take, drop, length-set, get_or-append}
use lib.Seq.{get_or-set_same, get_or-set_other}
use borrow.Author.Tests.{ltb-true, ltb-false}
use Rattle.base.proofs.Tests.{decided}
use Rattle.card.specs.Card.{Entry}
use mir.Syntax.{w64}
use mir.Val.{Fits}
use Rattle.base.specs.Parts.{part}
use Rattle.syntax.specs.declared.Connective.{Connective}
use Rattle.judge.specs.Sets.{chosen_of}
use Rattle.judge.proofs.Entries.{every, chosen-every}
use Rattle.rows.specs.Expression.{Expression, joining, negating}
use Rattle.rows.specs.Cells.{row_of, next_row, on_from, stated}
use Rattle.rows.specs.Stated.{tree_of}
use Rattle.rows.specs.declared.Row.{Row}
use Rattle.rows.proofs.Stating.{then_some}
use Rattle.row_judge.specs.Saying.{expression_says, stated_says, rows_say, Whole}
use Rattle.deciding.specs.Deciding.{outer_count}
use Rattle.deciding.specs.Marks.{mark}
use Rattle.deciding.specs.declared.Mark.{Mark}
use Rattle.deciding.specs.Rows.{outline, outer_verdicts, Single, single_test, single_bracket, Reading, Starts, Room, Markable, Gathering, Gathers, Tells}
use Rattle.deciding.proofs.Numbered.{get_d_after}
use Rattle.deciding.proofs.Outer.{outer_tests_lem, verdicts-size}
use Rattle.deciding.proofs.Marking.{single_count}
use Rattle.deciding.proofs.Parting.{part_states, part-whole, all_states, no_other, reading_not, second_room, second-whole, second-size, reading-join}

-- ---- what rows say

module _ (kinds xs : List ℕ) (es : List Entry) (rows : List ℕ) (says : Bool) (h : says ≡ rows_say kinds xs (chosen_of every es) rows) where
  said : says ≡ rows_say kinds xs es rows
  said = h ∙ ap (λ (l : List Entry). rows_say kinds xs l rows) (chosen-every es)

  pub verdict_yes : says ≡ true → Mark.Yes ≡ mark true (rows_say kinds xs es rows)
  verdict_yes e = ap (mark true) (sym e ∙ said)

  pub verdict_no : says ≡ false → Mark.No ≡ mark true (rows_say kinds xs es rows)
  verdict_no e = ap (mark true) (sym e ∙ said)

-- ---- from left to right

-- what is in hand is part of what is stated, so that it has no more tests
on_grows : (inner : List ℕ → Option Expression) (n : ℕ) (e : Expression) (cs : List ℕ) (g : Expression) → on_from inner n e cs ≡ some g → outer_count (outline e) ≤ outer_count (outline g)
unfolding on_from tree_of outer_count
on_grows inner zero e [] g h = let same : e ≡ g = some-injective _ _ h in subst (λ (x : Expression). outer_count (outline e) ≤ outer_count (outline x)) same (omega arith)
on_grows inner (suc n) e [] g h = absurd (none-ne-some _ h)
on_grows inner zero e (x ∷ cs) g h = by_row (row_of x) (λ n f i. on_grows inner n f cs g i) h
  where
    by_row : (r : Row) → ((n : ℕ) (f : Expression) → on_from inner n f cs ≡ some g → outer_count (outline f) ≤ outer_count (outline g)) → next_row (λ n f. on_from inner n f cs) inner e cs r ≡ some g
        → outer_count (outline e) ≤ outer_count (outline g)
    by_row (Row.Test p) s i = absurd (none-ne-some _ i)
    by_row (Row.Bracket n) s i = absurd (none-ne-some _ i)
    by_row Row.Not s i = s 0 (negating e) i
    by_row (Row.Connect k n) s i = let t = then_some (inner (take n cs)) (λ f. on_from inner n (joining k e f) cs) g i in omega (arith, s n (joining k e t.expression) t.then_is)
    by_row Row.Unknown s i = absurd (none-ne-some _ i)
on_grows inner (suc n) e (x ∷ cs) g h = on_grows inner n e cs g h

-- what is gathered behind the first test stands behind what was there before it
module _ (kinds xs : List ℕ) (es : List Entry) (rows : List ℕ) (first next : ℕ) (v : Mark) (marks after : List Mark) (g : Gathers kinds xs es rows first next (set marks first v) after) where
  pub gathered_size : length after ≡ length marks
  gathered_size = g.size ∙ length-set marks first v

  pub gathered_from : Gathers kinds xs es rows first next marks after
  gathered_from =
      record {
        count = g.count;
        verdicts = g.verdicts;
        below = λ j k. g.below j k ∙ get_or-set_other marks first j v Mark.Spared (λ z. omega (arith, k, z));
        size = gathered_size;
      }

single_verdicts : (kinds xs : List ℕ) (es : List Entry) {e : Expression} → Single e → outer_verdicts kinds xs es e ≡ expression_says kinds xs es e ∷ []
unfolding outer_verdicts
single_verdicts kinds xs es single_test = refl
single_verdicts kinds xs es single_bracket = refl

pub markable_of : (rows : List ℕ) (first : ℕ) (marks : List Mark) → Whole rows → length rows ≤ 320 → Room rows first 32 → length marks ≡ 32 → Markable rows first marks
markable_of rows first marks w few room size = record { whole = w; few = few; room = room; size = size }

module _ (rows : List ℕ) (first : ℕ) (marks : List Mark) (m : Markable rows first marks) where
  pub room_here : first < length marks
  room_here = omega (arith, m.room.each m.whole.expression m.whole.states, (outer_tests_lem m.whole.expression).0, m.size)

  -- what is in hand has room
  in_room : (at : ℕ) (e : Expression) → Reading rows at e → first + outer_count (outline e) ≤ 32
  in_room at e s =
      omega (arith, m.room.each m.whole.expression m.whole.states, on_grows stated 0 e (drop at rows) m.whole.expression (sym s.rest ∙ m.whole.states))

  module _ (at : ℕ) (s : Starts rows at) where
    part_first : part rows 0 at ≡ take at rows
    part_first = let n : at - 0 ≡ at = omega arith in ap (λ (k : ℕ). take k rows) n

    pub first-whole : Whole (part rows 0 at)
    first-whole = subst Whole (sym part_first) (part-whole m.whole at s.expression s.reading)

    pub gathering_start : (kinds xs : List ℕ) (es : List Entry) (v : Mark) → v ≡ mark true (rows_say kinds xs es (part rows 0 at))
        → Gathering kinds xs es rows first at (first + 1) (set marks first v) (set marks first v)
    unfolding rows_say
    gathering_start kinds xs es v h =
        let e : Expression = s.expression in
        let one = single_count s.single in
        let says : rows_say kinds xs es (part rows 0 at) ≡ expression_says kinds xs es e = ap (rows_say kinds xs es) part_first ∙ ap (stated_says kinds xs es) (part_states m.whole at e s.reading) in
        record {
          expression = e;
          reading = s.reading;
          count = omega (arith, one);
          verdicts = λ j k.
              let z : j ≡ 0 = omega (arith, k, one) in
              let same : first + j ≡ first = omega (arith, z) in
              ap (λ (x : ℕ). get_or (set marks first v) x Mark.Spared) same ∙ get_or-set_same marks first v Mark.Spared room_here ∙ h ∙ ap (mark true) says
              ∙ sym (ap (λ (x : ℕ). mark true (get_or (outer_verdicts kinds xs es e) x false)) z ∙ ap (λ (bs : List Bool). mark true (get_or bs 0 false)) (single_verdicts kinds xs es s.single));
          below = λ j k. refl;
          same_size = refl;
          markable = record { whole = m.whole; few = m.few; room = m.room; size = length-set marks first v ∙ m.size };
        }

module _ (kinds xs : List ℕ) (es : List Entry) (rows : List ℕ) (first at next : ℕ) (before between : List Mark) (g : Gathering kinds xs es rows first at next before between) where
  abbrev w : Whole rows
  w = g.markable.whole

  pub begun_fits : Fits w64 (first + 1)
  begun_fits = omega (arith, room_here rows first between g.markable, g.markable.size)

  pub gathering_end : length rows ≤ at → Gathers kinds xs es rows first next before between
  gathering_end h =
      let states : stated rows ≡ some g.expression = all_states w at g.expression g.reading h in
      let same : (f : Expression) → stated rows ≡ some f → g.expression ≡ f = λ f i. some-injective _ _ (sym states ∙ i) in
      record {
        count = λ f i. subst (λ (x : Expression). next ≡ first + outer_count (outline x)) (same f i) g.count;
        verdicts = λ f i.
            subst (λ (x : Expression). (k : ℕ) → k < outer_count (outline x) → get_or between (first + k) Mark.Spared ≡ mark true (get_or (outer_verdicts kinds xs es x) k false))
            (same f i) g.verdicts;
        below = g.below;
        size = g.same_size;
      }

  module _ (l : at < length rows) (r : Row) (i : r ≡ row_of (get_or rows at 0)) where
    -- rows that nothing joins are not there
    pub gathering_other : (r ≡ Row.Not → ⊥) → ((c : Connective) (n : ℕ) → r ≡ Row.Connect c n → ⊥) → Gathers kinds xs es rows first next before between
    gathering_other t u = no_other w at g.expression g.reading l r i t u

    pub gathering_not : r ≡ Row.Not → Gathering kinds xs es rows first (at + 1) next before between
    unfolding tree_of outer_count outer_verdicts
    gathering_not j =
        record {
          expression = negating g.expression;
          reading = reading_not w at g.expression g.reading l r i j;
          count = g.count;
          verdicts = g.verdicts;
          below = g.below;
          same_size = g.same_size;
          markable = g.markable;
        }

    module _ (c : Connective) (s : ℕ) (j : r ≡ Row.Connect c s) where
      abbrev second_part : List ℕ
      second_part = part rows (at + 1) (at + 1 + s)

      abbrev second : Whole second_part
      second = second-whole w at g.expression g.reading l r i c s j

      pub gathering_room : at + 1 + s ≤ length rows
      gathering_room = second_room w at g.expression g.reading l r i c s j

      pub gathering_fits : Fits w64 (at + 1 + s)
      gathering_fits = omega (arith, gathering_room, g.markable.few)

      pub gathering_falls : 2 * length second_part + 1 < 2 * length rows
      gathering_falls = omega (arith, gathering_room, second-size w at g.expression g.reading l r i c s j)

      pub gathering_second : Markable second_part next between
      unfolding tree_of outer_count
      gathering_second =
          let all = in_room rows first between g.markable (at + 1 + s) (joining c g.expression second.expression) (reading-join w at g.expression g.reading l r i c s j) in
          record {
            whole = second;
            few = omega (arith, gathering_room, g.markable.few, second-size w at g.expression g.reading l r i c s j);
            room = record {
              each = λ h k. subst (λ (x : Expression). next + outer_count (outline x) ≤ 32) (some-injective _ _ (sym second.states ∙ k)) (omega (arith, g.count, all));
            };
            size = g.markable.size;
          }

      pub gathering_join : (last : ℕ) (after : List Mark) → Gathers kinds xs es second_part next last between after → Gathering kinds xs es rows first (at + 1 + s) last before after
      unfolding tree_of outer_count outer_verdicts
      gathering_join last after h =
          let f = second in
          record {
            expression = joining c g.expression f.expression;
            reading = reading-join w at g.expression g.reading l r i c s j;
            count = omega (arith, g.count, h.count f.expression f.states);
            verdicts = λ k z. at_place g.expression f.expression g.count g.verdicts (h.verdicts f.expression f.states) k z;
            below = λ k z. h.below k (omega (arith, z, g.count)) ∙ g.below k z;
            same_size = h.size ∙ g.same_size;
            markable = record { whole = w; few = g.markable.few; room = g.markable.room; size = h.size ∙ g.markable.size };
          }
        where
          at_place : (a b : Expression) → next ≡ first + outer_count (outline a) → ((k : ℕ) → k < outer_count (outline a)
              → get_or between (first + k) Mark.Spared ≡ mark true (get_or (outer_verdicts kinds xs es a) k false))
              → ((k : ℕ) → k < outer_count (outline b) → get_or after (next + k) Mark.Spared ≡ mark true (get_or (outer_verdicts kinds xs es b) k false)) → (k : ℕ)
              → k < outer_count (outline a) + outer_count (outline b)
              → get_or after (first + k) Mark.Spared ≡ mark true (get_or (outer_verdicts kinds xs es a ++ outer_verdicts kinds xs es b) k false)
          at_place a b n p q k z = ⊎_elim (λ y. earlier (ltb-true k (outer_count (outline a)) y)) (λ y. later (ltb-false k (outer_count (outline a)) y)) (decided (ltb k (outer_count (outline a))))
            where
              va : List Bool
              va = outer_verdicts kinds xs es a

              vb : List Bool
              vb = outer_verdicts kinds xs es b

              earlier : k < outer_count (outline a) → get_or after (first + k) Mark.Spared ≡ mark true (get_or (va ++ vb) k false)
              earlier y =
                  h.below (first + k) (omega (arith, y, n)) ∙ p k y
                  ∙ ap (mark true) (sym (get_or-append va vb false k (omega (arith, y, verdicts-size kinds xs es a))))

              later : outer_count (outline a) ≤ k → get_or after (first + k) Mark.Spared ≡ mark true (get_or (va ++ vb) k false)
              later y =
                  let d : ℕ = k - outer_count (outline a) in
                  let place : first + k ≡ next + d = omega (arith, y, n) in
                  let shift : k ≡ outer_count (outline a) + d = omega (arith, y) in
                  ap (λ (x : ℕ). get_or after x Mark.Spared) place ∙ q d (omega (arith, y, z))
                  ∙ sym (ap (λ (x : ℕ). mark true (get_or (va ++ vb) x false)) shift ∙ ap (mark true) (get_d_after va vb (outer_count (outline a)) d (sym (verdicts-size kinds xs es a))))

pub gathered_all : (kinds xs : List ℕ) (es : List Entry) (rows : List ℕ) (tests : ℕ) (before after : List Mark) → Gathers kinds xs es rows 0 tests before after → length before ≡ 32
    → Tells kinds xs es rows tests after
gathered_all kinds xs es rows tests before after g h =
    record {
      count = λ e i. g.count e i ∙ (omega arith);
      verdicts = λ e i j l.
          let same : j ≡ 0 + j = omega arith in
          ap (λ (k : ℕ). get_or after k Mark.Spared) same ∙ g.verdicts e i j (omega (arith, l, g.count e i));
      size = g.size ∙ h;
    }
