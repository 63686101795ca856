-- The mark of rows, from left to right.
-- Assumes nothing.
use Prim.Native.Nat.{ℕ, ◌+◌, ◌≤◌, ◌<◌}
use native.Mathlib.Omega.{arith}
use mathlib.Core.Path.{◌≡◌, refl, sym, ap, ap₂, subst, ◌∙◌}
use mathlib.Core.Option.{some-injective, some}
use mathlib.Core.List.{List}
use lib.ListN.{length, get_or}
use mir.Syntax.{w64}
use mir.Val.{Fits}
use Rattle.base.specs.Parts.{part}
use Rattle.syntax.specs.declared.Connective.{Connective}
use Rattle.rows.specs.Expression.{Expression, joining, negating}
use Rattle.rows.specs.Cells.{row_of, stated}
use Rattle.rows.specs.Stated.{tree_of}
use Rattle.rows.specs.declared.Row.{Row}
use Rattle.row_judge.specs.Saying.{Whole}
use Rattle.deciding.specs.Deciding.{outer_count}
use Rattle.deciding.specs.declared.Mark.{Mark}
use Rattle.deciding.specs.Marks.{opposite, joined_marks, mark_by}
use Rattle.deciding.specs.Rows.{outline, marks_in, Single, single_test, single_bracket, Reading, Starts, MarksFrom}
use Rattle.deciding.specs.declared.Marked.{Marked}
use Rattle.deciding.proofs.Parting.{all_states, no_other, reading_not, second_room, second-whole, second-size, reading-join}

-- rows that state an expression, and few enough to number their tests from first on
pub record FewRows (rows : List ℕ) (first : ℕ) : Type 0 where
  pub whole : Whole rows
  pub few : first + length rows ≤ 320

-- the loop: the expression in hand has this mark
pub record Marking (rows : List ℕ) (marks : List Mark) (first at : ℕ) (m : Mark) (next : ℕ) : Type 0 where
  pub expression : Expression
  pub reading : Reading rows at expression
  pub mark : m ≡ mark_by (marks_in marks) first (outline expression)
  pub count : next ≡ first + outer_count (outline expression)
  pub most : next ≤ first + at
  pub rows_few : FewRows rows first

pub single_count : {e : Expression} → Single e → outer_count (outline e) ≡ 1
unfolding tree_of outer_count
single_count single_test = refl
single_count single_bracket = refl

single_mark : {e : Expression} → Single e → (m : ℕ → Mark) (i : ℕ) → mark_by m i (outline e) ≡ m i
unfolding tree_of mark_by
single_mark single_test m i = refl
single_mark single_bracket m i = refl

pub marking_start : (rows : List ℕ) (marks : List Mark) (first at : ℕ) (m : Mark) → FewRows rows first → Starts rows at → m ≡ get_or marks first Mark.Spared
    → Marking rows marks first at m (first + 1)
marking_start rows marks first at m w s h =
    record {
      expression = s.expression;
      reading = s.reading;
      mark = h ∙ sym (single_mark s.single (marks_in marks) first);
      count = omega (arith, single_count s.single);
      most = omega (arith, s.some_rows);
      rows_few = w;
    }

module _ (rows : List ℕ) (marks : List Mark) (first at : ℕ) (m : Mark) (next : ℕ) (k : Marking rows marks first at m next) where
  abbrev w : Whole rows
  w = k.rows_few.whole

  pub marking_end : length rows ≤ at → MarksFrom rows marks first (record { mark = m; next = next })
  marking_end h =
      let states : stated rows ≡ some k.expression = all_states w at k.expression k.reading h in
      record {
        whole = λ f i. subst (λ (x : Expression). m ≡ mark_by (marks_in marks) first (outline x)) (some-injective _ _ (sym states ∙ i)) k.mark;
        next = λ f i. subst (λ (x : Expression). next ≡ first + outer_count (outline x)) (some-injective _ _ (sym states ∙ i)) k.count;
        most = omega (arith, k.most, k.reading.within);
      }

  module _ (l : at < length rows) (r : Row) (i : r ≡ row_of (get_or rows at 0)) where
    -- rows that nothing joins are not there
    pub marking_other : (r ≡ Row.Not → ⊥) → ((c : Connective) (n : ℕ) → r ≡ Row.Connect c n → ⊥) → MarksFrom rows marks first (record { mark = m; next = next })
    marking_other t u = no_other w at k.expression k.reading l r i t u

    pub marking_not : (n : Mark) → r ≡ Row.Not → n ≡ opposite m → Marking rows marks first (at + 1) n next
    unfolding tree_of mark_by outer_count
    marking_not n j h =
        record {
          expression = negating k.expression;
          reading = reading_not w at k.expression k.reading l r i j;
          mark = h ∙ ap opposite k.mark;
          count = k.count;
          most = omega (arith, k.most);
          rows_few = k.rows_few;
        }

    module _ (c : Connective) (s : ℕ) (j : r ≡ Row.Connect c s) where
      room : at + 1 + s ≤ length rows
      room = second_room w at k.expression k.reading l r i c s j

      pub marking_room : at + 1 + s ≤ length rows
      marking_room = room

      pub marking_fits : Fits w64 (at + 1 + s)
      marking_fits = omega (arith, room, k.rows_few.few)

      pub marking_falls : length (part rows (at + 1) (at + 1 + s)) < length rows
      marking_falls = omega (arith, room, second-size w at k.expression k.reading l r i c s j)

      pub marking_second : FewRows (part rows (at + 1) (at + 1 + s)) next
      marking_second =
          record {
            whole = second-whole w at k.expression k.reading l r i c s j;
            few = omega (arith, room, k.most, k.rows_few.few, second-size w at k.expression k.reading l r i c s j);
          }

      pub marking_join : (b : Marked) (n : Mark) → MarksFrom (part rows (at + 1) (at + 1 + s)) marks next b → n ≡ joined_marks c m b.mark
          → Marking rows marks first (at + 1 + s) n b.next
      unfolding tree_of mark_by outer_count
      marking_join b n g h =
          let e : Expression = k.expression in
          let f = second-whole w at e k.reading l r i c s j in
          let mark-is : b.mark ≡ mark_by (marks_in marks) (first + outer_count (outline e)) (outline f.expression) =
          g.whole f.expression f.states ∙ ap (λ (x : ℕ). mark_by (marks_in marks) x (outline f.expression)) k.count in
          record {
            expression = joining c e f.expression;
            reading = reading-join w at e k.reading l r i c s j;
            mark = h ∙ ap₂ (joined_marks c) k.mark mark-is;
            count = omega (arith, g.next f.expression f.states, k.count);
            most = omega (arith, g.most, k.most, second-size w at e k.reading l r i c s j);
            rows_few = k.rows_few;
          }
