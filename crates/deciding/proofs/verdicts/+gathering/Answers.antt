-- `deciding::verdicts::gather_from` and `gather_rest` meet their contracts. The loop keeps `Gathering`: the tests of the expression in hand before the row
use borrow.Author.Rules.{rules}
use Prim.Native.Nat.{ℕ, ◌≤◌, ◌<◌}
use native.Mathlib.Omega.{arith}
use mathlib.Core.Path.{◌≡◌, ap}
use mathlib.Core.List.{List}
use lib.ListN.{length}
use Rattle.deciding.proofs.Telling.{markable_of, room_here, first-whole, gathering_start, gathered_from, begun_fits, gathering_not, gathering_room, gathering_fits, gathering_falls, gathering_second, gathering_join, gathering_other, gathering_end}
use Rattle.deciding.proofs.verdicts.+gathering.Goals as goal

pub gather_from-part-requires-clause-within : goal.gather_from-part-requires-clause-within
gather_from-part-requires-clause-within t c = c.after_first-end.ensures.starts.reading.within

pub gather_from-part-requires-clause-whole : goal.gather_from-part-requires-clause-whole
gather_from-part-requires-clause-whole t c = first-whole _ _ _ (markable_of c.args.rows.now c.args.first c.args.marks.now c.after_first-end.ensures.whole c.after_first-end.ensures.few c.requires (search rules)) _ c.after_first-end.ensures.starts

pub gather_from-bounds-marks-first : goal.gather_from-bounds-marks-first
gather_from-bounds-marks-first t c = let size : length c.args.marks.now ≡ 32 = search rules in omega (arith, size, room_here _ _ _ (markable_of c.args.rows.now c.args.first c.args.marks.now c.after_first-end.ensures.whole c.after_first-end.ensures.few c.requires (search rules)))

pub gather_from-gather_rest-requires : goal.gather_from-gather_rest-requires
gather_from-gather_rest-requires t c = (search rules, gathering_start _ _ _ (markable_of c.args.rows.now c.args.first c.args.marks.now c.after_first-end.ensures.whole c.after_first-end.ensures.few c.requires (search rules)) _ c.after_first-end.ensures.starts _ _ _ _ (rw c.part.ensures at c.verdict.ensures))

pub gather_from-returns : goal.gather_from-returns
gather_from-returns t c = search (gathered_from, rules)

pub gather_rest-overflow_add-next : goal.gather_rest-overflow_add-next
gather_rest-overflow_add-next t c = search (begun_fits, rules)

pub gather_rest-loop-at-init : goal.gather_rest-loop-at-init
gather_rest-loop-at-init t c = c.requires

pub gather_rest-loop-at-preserved-in-Not : goal.gather_rest-loop-at-preserved-in-Not
gather_rest-loop-at-preserved-in-Not t c = let l : c.loop-at.at < length c.args.rows.now = omega (arith, c.loop-at-test.true, c.len-size.ensures.length) in search (gathering_not, l, rules)

pub gather_rest-overflow_add-end : goal.gather_rest-overflow_add-end
gather_rest-overflow_add-end t c = gathering_fits _ _ _ _ _ _ _ _ _ c.loop-at.invariant (omega (arith, c.loop-at-test.true, c.len-size.ensures.length)) _ c.row.ensures _ _ c.in-Connect.is

pub gather_rest-part-requires-clause-within : goal.gather_rest-part-requires-clause-within
gather_rest-part-requires-clause-within t c = gathering_room _ _ _ _ _ _ _ _ _ c.loop-at.invariant (omega (arith, c.loop-at-test.true, c.len-size.ensures.length)) _ c.row.ensures _ _ c.in-Connect.is

pub gather_rest-part-requires-clause-whole : goal.gather_rest-part-requires-clause-whole
gather_rest-part-requires-clause-whole t c = (gathering_second _ _ _ _ _ _ _ _ _ c.loop-at.invariant (omega (arith, c.loop-at-test.true, c.len-size.ensures.length)) _ c.row.ensures _ _ c.in-Connect.is).whole

pub gather_rest-gather_from-next-requires : goal.gather_rest-gather_from-next-requires
gather_rest-gather_from-next-requires t c = (omega (arith, c.decreases, gathering_falls _ _ _ _ _ _ _ _ _ c.loop-at.invariant (omega (arith, c.loop-at-test.true, c.len-size.ensures.length)) _ c.row.ensures _ _ c.in-Connect.is, ap (λ (n : List ℕ). length n) c.part.ensures), rw c.part.ensures (gathering_second _ _ _ _ _ _ _ _ _ c.loop-at.invariant (omega (arith, c.loop-at-test.true, c.len-size.ensures.length)) _ c.row.ensures _ _ c.in-Connect.is).room)

pub gather_rest-loop-at-preserved : goal.gather_rest-loop-at-preserved
gather_rest-loop-at-preserved t c = gathering_join _ _ _ _ _ _ _ _ _ c.loop-at.invariant (omega (arith, c.loop-at-test.true, c.len-size.ensures.length)) _ c.row.ensures _ _ c.in-Connect.is _ _ (rw c.part.ensures at c.gather_from-next.ensures)

pub gather_rest-returns-in_default : goal.gather_rest-returns-in_default
gather_rest-returns-in_default t c = let l : c.loop-at.at < length c.args.rows.now = omega (arith, c.loop-at-test.true, c.len-size.ensures.length) in search (gathering_other, l, rules)

pub gather_rest-returns : goal.gather_rest-returns
gather_rest-returns t c = let l : length c.args.rows.now ≤ c.loop-at.at = omega (arith, c.loop-at-test.false, c.len-size.ensures.length) in search (gathering_end, l, rules)
