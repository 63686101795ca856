-- `deciding::marks::mark_from` meets its contract. The loop keeps `Marking`: the expression in hand before the row has this mark, and the rows state
use borrow.Author.Rules.{rules}
use Prim.Native.Nat.{ℕ, ◌≤◌, ◌<◌}
use native.Mathlib.Omega.{arith}
use mathlib.Core.Path.{ap}
use mathlib.Core.List.{List}
use lib.ListN.{length}
use Rattle.deciding.proofs.Marking.{marking_start, marking_not, marking_room, marking_fits, marking_falls, marking_second, marking_join, marking_other, marking_end}
use Rattle.deciding.proofs.marks.+mark_from.Goals as goal

pub loop-at-init : goal.loop-at-init
loop-at-init t c = marking_start _ _ _ _ _ (record { whole = c.after_first-at.ensures.whole; few = c.requires }) c.after_first-at.ensures.starts c.mark_at-mark.ensures

pub loop-at-preserved-in-Not : goal.loop-at-preserved-in-Not
loop-at-preserved-in-Not t c = let l : c.loop-at.at < length c.args.rows.now = omega (arith, c.loop-at-test.true, c.len-size.ensures.length) in search (marking_not, l, rules)

pub overflow_add-end : goal.overflow_add-end
overflow_add-end t c = marking_fits _ _ _ _ _ _ c.loop-at.invariant (omega (arith, c.loop-at-test.true, c.len-size.ensures.length)) _ c.row.ensures _ _ c.in-Connect.is

pub part-requires-clause-within : goal.part-requires-clause-within
part-requires-clause-within t c = marking_room _ _ _ _ _ _ c.loop-at.invariant (omega (arith, c.loop-at-test.true, c.len-size.ensures.length)) _ c.row.ensures _ _ c.in-Connect.is

pub part-requires-clause-whole : goal.part-requires-clause-whole
part-requires-clause-whole t c = (marking_second _ _ _ _ _ _ c.loop-at.invariant (omega (arith, c.loop-at-test.true, c.len-size.ensures.length)) _ c.row.ensures _ _ c.in-Connect.is).whole

pub mark_from-second-requires : goal.mark_from-second-requires
mark_from-second-requires t c = (omega (arith, c.decreases, marking_falls _ _ _ _ _ _ c.loop-at.invariant (omega (arith, c.loop-at-test.true, c.len-size.ensures.length)) _ c.row.ensures _ _ c.in-Connect.is, ap (λ (n : List ℕ). length n) c.part.ensures), omega (arith, (marking_second _ _ _ _ _ _ c.loop-at.invariant (omega (arith, c.loop-at-test.true, c.len-size.ensures.length)) _ c.row.ensures _ _ c.in-Connect.is).few, ap (λ (n : List ℕ). length n) c.part.ensures))

pub loop-at-preserved : goal.loop-at-preserved
loop-at-preserved t c = marking_join _ _ _ _ _ _ c.loop-at.invariant (omega (arith, c.loop-at-test.true, c.len-size.ensures.length)) _ c.row.ensures _ _ c.in-Connect.is _ _ (rw c.part.ensures at c.mark_from-second.ensures) c.join_marks-mark.ensures

pub returns-in_default : goal.returns-in_default
returns-in_default t c = let l : c.loop-at.at < length c.args.rows.now = omega (arith, c.loop-at-test.true, c.len-size.ensures.length) in search (marking_other, l, rules)

pub returns : goal.returns
returns t c = let l : length c.args.rows.now ≤ c.loop-at.at = omega (arith, c.loop-at-test.false, c.len-size.ensures.length) in search (marking_end, l, rules)
