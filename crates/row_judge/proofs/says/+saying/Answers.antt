-- `row_judge::says::rows_say` and `bracket_says` meet their contracts: rows are judged from left to right, and a test after brackets goes
-- along the entries of its parameter.
use borrow.Author.Rules.{rules}
use Prim.Native.Nat.{ℕ, ◌-◌}
use native.Mathlib.Omega.{arith}
use mathlib.Core.Path.{refl, ap}
use mathlib.Core.List.{List}
use lib.ListN.{length, drop, length-drop}
use lib.Seq.{length-take-le}
use Rattle.rows.proofs.Cells.{test_index}
use Rattle.row_judge.proofs.Saying.{brackets_start, brackets_end, brackets_room, brackets_yes, brackets_behind, brackets_less, brackets_next, telling_start, telling_end, step_test, step_not, step_connect, step_unknown, bracket_room, part-size, bracket_ready, step_bracket, ready_of, ready_says, ready-value, ready_test, ready_kept, bracketed_value, bracketed_index, bracketed_opens, bracketed_lent, bracketed_chain, bracket_known, bracket_closed}
use Rattle.row_judge.proofs.says.+saying.Goals as goal

pub bracket_says-bounds-values-0 : goal.bracket_says-bounds-values-0
bracket_says-bounds-values-0 t c = search (bracketed_value, rules)

pub bracket_says-kind_at-requires : goal.bracket_says-kind_at-requires
bracket_says-kind_at-requires t c = search (bracketed_index, rules)

pub bracket_says-chain_of-requires : goal.bracket_says-chain_of-requires
bracket_says-chain_of-requires t c = search (bracketed_index, rules)

pub bracket_says-invariant_of-asked-clause-low : goal.bracket_says-invariant_of-asked-clause-low
bracket_says-invariant_of-asked-clause-low t c = search (bracketed_index, rules)

pub bracket_says-invariant_of-asked-clause-known : goal.bracket_says-invariant_of-asked-clause-known
bracket_says-invariant_of-asked-clause-known t c = search (bracket_known, rules)

pub bracket_says-slice_bounds-inner-count : goal.bracket_says-slice_bounds-inner-count
bracket_says-slice_bounds-inner-count t c = search (bracketed_value, rules)

pub bracket_says-slice_bounds-inner-start : goal.bracket_says-slice_bounds-inner-start
bracket_says-slice_bounds-inner-start t c = search (bracketed_value, rules)

pub bracket_says-next_text-next-requires : goal.bracket_says-next_text-next-requires
bracket_says-next_text-next-requires t c = search (bracketed_chain, rules)

pub bracket_says-loop-next-init : goal.bracket_says-loop-next-init
bracket_says-loop-next-init t c =
    brackets_start c.requires _ c.probe_of-probe.ensures _ refl _ c.in-Some.is _ _ c.kind_at.ensures c.meaning_of-meaning.ensures _ _ c.args.read.keeps _ _ c.chain_of.ensures c.next_text-next.ensures

pub bracket_says-occurrence_of-requires : goal.bracket_says-occurrence_of-requires
bracket_says-occurrence_of-requires t c = record { e_bound = brackets_room _ _ _ _ _ _ _ _ _ (rw c.in-Some-next.is at c.loop-next.invariant) }

pub bracket_says-invariant_of-inner-in-Some-next : goal.bracket_says-invariant_of-inner-in-Some-next
bracket_says-invariant_of-inner-in-Some-next t c = record { opens = bracketed_opens c.requires }

pub bracket_says-rows_say-requires : goal.bracket_says-rows_say-requires
bracket_says-rows_say-requires t c = (omega (arith, c.decreases, c.requires.some_row, length-take-le (length c.args.rows.now - 1) (drop 1 c.args.rows.now) (omega (arith, length-drop 1 c.args.rows.now))), bracketed_lent c.requires)

pub bracket_says-returns-then-rows_say : goal.bracket_says-returns-then-rows_say
bracket_says-returns-then-rows_say t c = brackets_yes _ _ _ _ _ _ _ _ _ (rw c.in-Some-next.is at c.loop-next.invariant) _ c.occurrence_of.ensures _ c.rows_say.ensures _ c.if-rows_say.true c.some_says.ensures

pub bracket_says-chain_behind-requires : goal.bracket_says-chain_behind-requires
bracket_says-chain_behind-requires t c = record { e_bound = brackets_room _ _ _ _ _ _ _ _ _ (rw c.in-Some-next.is at c.loop-next.invariant) }

pub bracket_says-next_text-next-requires-in-Some-next : goal.bracket_says-next_text-next-requires-in-Some-next
bracket_says-next_text-next-requires-in-Some-next t c = brackets_behind _ _ _ _ _ _ _ _ _ (rw c.in-Some-next.is at c.loop-next.invariant) _ c.chain_behind.ensures

pub bracket_says-loop-next-smaller : goal.bracket_says-loop-next-smaller
bracket_says-loop-next-smaller t c = rw c.in-Some-next.is (brackets_less _ _ _ _ _ _ _ _ _ (rw c.in-Some-next.is at c.loop-next.invariant) _ c.chain_behind.ensures _ c.next_text-next-in-Some-next.ensures)

pub bracket_says-loop-next-preserved : goal.bracket_says-loop-next-preserved
bracket_says-loop-next-preserved t c = brackets_next _ _ _ _ _ _ _ _ _ (rw c.in-Some-next.is at c.loop-next.invariant) _ c.occurrence_of.ensures _ c.rows_say.ensures _ c.chain_behind.ensures _ c.next_text-next-in-Some-next.ensures c.if-rows_say.false

pub bracket_says-returns : goal.bracket_says-returns
bracket_says-returns t c = search (brackets_end, rules)

pub bracket_says-returns-in_default : goal.bracket_says-returns-in_default
bracket_says-returns-in_default t c = search (bracket_closed, rules)

pub rows_say-loop-at-init : goal.rows_say-loop-at-init
rows_say-loop-at-init t c = telling_start _ _ _ _ _ c.rows.invariant

pub rows_say-bounds-values-at : goal.rows_say-bounds-values-at
rows_say-bounds-values-at t c = ready-value (ready_of _ _ _ _ c.rows.view_is _ c.requires _ c.args.opened.now.opens) _ c.loop-at-test.true

pub rows_say-plain_says-verdict-requires-clause-index_bound : goal.rows_say-plain_says-verdict-requires-clause-index_bound
rows_say-plain_says-verdict-requires-clause-index_bound t c = test_index _ _ _ c.row_of.ensures c.in-Test.is

pub rows_say-plain_says-verdict-requires-clause-is_kept : goal.rows_say-plain_says-verdict-requires-clause-is_kept
rows_say-plain_says-verdict-requires-clause-is_kept t c = ready_kept (ready_of _ _ _ _ c.rows.view_is _ c.requires _ c.args.opened.now.opens) _ c.loop-at-test.true _ c.row_of.ensures _ c.in-Test.is

pub rows_say-plain_says-verdict-requires-clause-opened_value : goal.rows_say-plain_says-verdict-requires-clause-opened_value
rows_say-plain_says-verdict-requires-clause-opened_value t c = ready_test (ready_of _ _ _ _ c.rows.view_is _ c.requires _ c.args.opened.now.opens) _ c.loop-at-test.true _ c.row_of.ensures _ c.in-Test.is _ refl

pub rows_say-loop-at-preserved-in-Test : goal.rows_say-loop-at-preserved-in-Test
rows_say-loop-at-preserved-in-Test t c = search (step_test, rules)

pub rows_say-overflow_add-first : goal.rows_say-overflow_add-first
rows_say-overflow_add-first t c = search (bracket_room, rules)

pub rows_say-overflow_add-end : goal.rows_say-overflow_add-end
rows_say-overflow_add-end t c = omega (arith, (ready_of _ _ _ _ c.rows.view_is _ c.requires _ c.args.opened.now.opens).opens.room, bracket_room _ _ _ _ _ _ _ _ c.loop-at.invariant c.loop-at-test.true _ c.row_of.ensures _ c.in-Bracket.is)

pub rows_say-overflow_add-end-in-Bracket : goal.rows_say-overflow_add-end-in-Bracket
rows_say-overflow_add-end-in-Bracket t c = omega (arith, (ready_of _ _ _ _ c.rows.view_is _ c.requires _ c.args.opened.now.opens).opens.room, bracket_room _ _ _ _ _ _ _ _ c.loop-at.invariant c.loop-at-test.true _ c.row_of.ensures _ c.in-Bracket.is)

pub rows_say-slice_bounds-bracket_says-count : goal.rows_say-slice_bounds-bracket_says-count
rows_say-slice_bounds-bracket_says-count t c = search (bracket_room, rules)

pub rows_say-slice_bounds-bracket_says-start : goal.rows_say-slice_bounds-bracket_says-start
rows_say-slice_bounds-bracket_says-start t c = search (bracket_room, rules)

pub rows_say-slice_bounds-bracket_says-end : goal.rows_say-slice_bounds-bracket_says-end
rows_say-slice_bounds-bracket_says-end t c = search (bracket_room, rules)

pub rows_say-slice_bounds-bracket_says-count-in-Bracket : goal.rows_say-slice_bounds-bracket_says-count-in-Bracket
rows_say-slice_bounds-bracket_says-count-in-Bracket t c = omega (arith, (ready_of _ _ _ _ c.rows.view_is _ c.requires _ c.args.opened.now.opens).opens.room, bracket_room _ _ _ _ _ _ _ _ c.loop-at.invariant c.loop-at-test.true _ c.row_of.ensures _ c.in-Bracket.is)

pub rows_say-slice_bounds-bracket_says-start-in-Bracket : goal.rows_say-slice_bounds-bracket_says-start-in-Bracket
rows_say-slice_bounds-bracket_says-start-in-Bracket t c = omega (arith, (ready_of _ _ _ _ c.rows.view_is _ c.requires _ c.args.opened.now.opens).opens.room, bracket_room _ _ _ _ _ _ _ _ c.loop-at.invariant c.loop-at-test.true _ c.row_of.ensures _ c.in-Bracket.is)

pub rows_say-bracket_says-verdict-requires : goal.rows_say-bracket_says-verdict-requires
rows_say-bracket_says-verdict-requires t c = (omega (arith, c.decreases, ap (λ (n : List ℕ). length n) c.rows.view_is, bracket_room _ _ _ _ _ _ _ _ c.loop-at.invariant c.loop-at-test.true _ c.row_of.ensures _ c.in-Bracket.is, part-size _ _ _ _ _ _ _ _ c.loop-at.invariant c.loop-at-test.true _ c.row_of.ensures _ c.in-Bracket.is), bracket_ready _ _ _ _ _ _ _ _ c.loop-at.invariant c.loop-at-test.true _ c.row_of.ensures _ c.in-Bracket.is (ready_of _ _ _ _ c.rows.view_is _ c.requires _ c.args.opened.now.opens))

pub rows_say-loop-at-smaller-in-Bracket : goal.rows_say-loop-at-smaller-in-Bracket
rows_say-loop-at-smaller-in-Bracket t c = search (bracket_room, rules)

pub rows_say-loop-at-preserved-in-Bracket : goal.rows_say-loop-at-preserved-in-Bracket
rows_say-loop-at-preserved-in-Bracket t c = search (step_bracket, rules)

pub rows_say-loop-at-preserved-in-Not : goal.rows_say-loop-at-preserved-in-Not
rows_say-loop-at-preserved-in-Not t c = search (step_not, rules)

pub rows_say-overflow_add-at-in-Connect-2 : goal.rows_say-overflow_add-at-in-Connect-2
rows_say-overflow_add-at-in-Connect-2 t c = omega (arith, (step_connect _ _ _ _ _ _ _ _ c.loop-at.invariant c.loop-at-test.true _ c.row_of.ensures _ _ _ c.in-Connect.is c.skipped.ensures).within, (ready_of _ _ _ _ c.rows.view_is _ c.requires _ c.args.opened.now.opens).opens.room)

pub rows_say-loop-at-smaller : goal.rows_say-loop-at-smaller
rows_say-loop-at-smaller t c = search (step_connect, rules)

pub rows_say-loop-at-preserved : goal.rows_say-loop-at-preserved
rows_say-loop-at-preserved t c = search (step_connect, rules)

pub rows_say-returns-in-Unknown : goal.rows_say-returns-in-Unknown
rows_say-returns-in-Unknown t c = ready_says _ _ _ _ c.rows.view_is _ c.requires _ _ (step_unknown _ _ _ _ _ _ _ _ c.loop-at.invariant c.loop-at-test.true _ c.row_of.ensures c.in-Unknown.is)

pub rows_say-returns : goal.rows_say-returns
rows_say-returns t c = ready_says _ _ _ _ c.rows.view_is _ c.requires _ _ (telling_end _ _ _ _ _ _ _ _ c.loop-at.invariant c.loop-at-test.false)
