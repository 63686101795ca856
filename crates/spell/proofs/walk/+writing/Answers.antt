-- The cycle of `spell::walk::write_filter` and `write_item` meets its contracts: the text left falls, and each part's plain spelling is
use native.Mathlib.Omega.{arith}
use Rattle.spell.proofs.Walking.{filter_within, round_room, round_spelt, not_room, not_within, not_inner, not_inner-within, not_close_room, not_long, not_fits, not_spelt, operand-item, bracket_within, bracket_room, operand_spelt, connective_room, connective_within, operand_room, joined-fits, joined_long, joined_spelt, member-operator, item_nothing, item-operator, item_test_room, item_test_spelt, item_open_deep, item_open_room, item_open_spelt, item_choice_deep, item_choice_room, item_choice_spelt, chosen_room, chosen-within, chosen-inner, chosen-inner-within, chosen_nothing, chosen-member_room, chosen_long, chosen-fits, chosen_spelt}
use Rattle.spell.proofs.Chaining.{chained_item, chained_starts, chained_over, chained_within, chained_ends, chained_room, chained_fits, chained_ahead, chained_next}
use Rattle.syntax.proofs.Places.{head_test_placed, head_open_ahead, head_choice_ahead, member_ahead, connective_ahead}
use Rattle.spell.proofs.Parts.{choice_named, choice_room_named}
use borrow.Author.Rules.{rules}
use Rattle.spell.proofs.walk.+writing.Goals as goal

pub write_chosen-write_choice-start-requires : goal.write_chosen-write_choice-start-requires
write_chosen-write_choice-start-requires t c = choice_room_named c.part.ensures.part (chosen_room c.args.spot.levels c.args.filter.now c.args.spot.close c.args.spot.at c.args.until _ c.requires.room_for)

pub write_chosen-write_filter-inner-requires : goal.write_chosen-write_filter-inner-requires
write_chosen-write_filter-inner-requires t c = (omega arith, (search rules, chosen-inner c.args.spot.levels c.args.filter.now c.args.spot.close c.args.spot.at c.args.until _ c.requires.room_for (choice_named c.part.ensures.part c.write_choice-start.ensures) _ c.skip_after-next.ensures))

pub write_chosen-read_member-requires : goal.write_chosen-read_member-requires
write_chosen-read_member-requires t c = (filter_within _ _ _ _ c.write_filter-inner.ensures).1

pub write_chosen-invariant_of-test : goal.write_chosen-invariant_of-test
write_chosen-invariant_of-test t c = (member_ahead _ _ _ _ c.read_member.ensures.test _ c.in-Some.is).0

pub write_chosen-write_member-last-requires-clause-operator_bound : goal.write_chosen-write_member-last-requires-clause-operator_bound
write_chosen-write_member-last-requires-clause-operator_bound t c = member-operator _ _ _ _ c.read_member.ensures.test _ c.in-Some.is

pub write_chosen-write_member-last-requires-clause-room : goal.write_chosen-write_member-last-requires-clause-room
write_chosen-write_member-last-requires-clause-room t c = chosen-member_room c.args.spot.levels c.args.filter.now c.args.spot.close c.args.spot.at c.args.until _ c.requires.room_for (choice_named c.part.ensures.part c.write_choice-start.ensures) _ c.skip_after-next.ensures c.write_filter-inner.ensures _ c.read_member.ensures.test _ c.in-Some.is

pub write_chosen-returns : goal.write_chosen-returns
write_chosen-returns t c = chosen_spelt c.args.spot.levels c.args.filter.now c.args.spot.close c.args.spot.at c.args.until _ c.requires.room_for (choice_named c.part.ensures.part c.write_choice-start.ensures) _ c.skip_after-next.ensures c.write_filter-inner.ensures _ c.read_member.ensures.test _ c.in-Some.is c.write_member-last.ensures

pub write_chosen-returns-in_default : goal.write_chosen-returns-in_default
write_chosen-returns-in_default t c = chosen_nothing c.args.spot.levels c.args.filter.now c.args.spot.close c.args.spot.at c.args.until _ c.requires.room_for (choice_named c.part.ensures.part c.write_choice-start.ensures) _ c.skip_after-next.ensures c.write_filter-inner.ensures _ c.read_member.ensures.test c.in_default.is

pub write_filter-write_item-written-requires : goal.write_filter-write_item-written-requires
write_filter-write_item-written-requires t c = (omega arith, (search rules, search (chained_item, rules)))

pub write_filter-loop-link-init : goal.write_filter-loop-link-init
write_filter-loop-link-init t c = chained_starts _ _ _ _ c.requires.room_for c.write_item-written.ensures

pub write_filter-write_joined-more-requires : goal.write_filter-write_joined-more-requires
write_filter-write_joined-more-requires t c = let a = connective_ahead _ _ _ _ c.read_connective.ensures.link c.in-Some.is in (omega arith, (a.1, search (chained_room, rules)))

pub write_filter-loop-link-smaller : goal.write_filter-loop-link-smaller
write_filter-loop-link-smaller t c = let a = chained_ahead _ _ _ _ c.loop-link.invariant _ c.read_connective.ensures.link _ c.in-Some.is c.write_joined-more.ensures in omega arith

pub write_filter-loop-link-preserved : goal.write_filter-loop-link-preserved
write_filter-loop-link-preserved t c = search (chained_next, rules)

pub write_filter-returns : goal.write_filter-returns
write_filter-returns t c = chained_over _ _ _ _ c.requires.room_for c.write_item-written.ensures (chained_ends _ _ _ _ c.loop-link.invariant _ c.read_connective.ensures.link c.in_default.is)

pub write_item-invariant_of-test : goal.write_item-invariant_of-test
write_item-invariant_of-test t c = (head_test_placed _ _ _ _ c.read_head.ensures (search rules) _ c.in-Some.is _ c.in-Test.is).0

pub write_item-write_test-length-requires-clause-operator_bound : goal.write_item-write_test-length-requires-clause-operator_bound
write_item-write_test-length-requires-clause-operator_bound t c = search (item-operator, rules)

pub write_item-write_test-length-requires-clause-room : goal.write_item-write_test-length-requires-clause-room
write_item-write_test-length-requires-clause-room t c = search (item_test_room, rules)

pub write_item-overflow_sub-levels : goal.write_item-overflow_sub-levels
write_item-overflow_sub-levels t c = let z = item_open_deep c.args.spot.levels c.args.filter.now c.args.spot.close c.args.spot.at _ c.requires.room_for _ c.read_head.ensures _ c.in-Some.is _ _ c.in-Open.is in omega arith

pub write_item-write_not-requires : goal.write_item-write_not-requires
write_item-write_not-requires t c = let a = head_open_ahead _ _ _ _ c.read_head.ensures (search rules) _ c.in-Some.is _ _ c.in-Open.is in (omega arith, (a.1, search (item_open_room, rules)))

pub write_item-returns-then-negated : goal.write_item-returns-then-negated
write_item-returns-then-negated t c = search (item_open_spelt, rules)

pub write_item-overflow_sub-levels-in-Open : goal.write_item-overflow_sub-levels-in-Open
write_item-overflow_sub-levels-in-Open t c = let z = item_open_deep c.args.spot.levels c.args.filter.now c.args.spot.close c.args.spot.at _ c.requires.room_for _ c.read_head.ensures _ c.in-Some.is _ _ c.in-Open.is in omega arith

pub write_item-write_round-requires : goal.write_item-write_round-requires
write_item-write_round-requires t c = let a = head_open_ahead _ _ _ _ c.read_head.ensures (search rules) _ c.in-Some.is _ _ c.in-Open.is in (omega arith, (a.1, search (item_open_room, rules)))

pub write_item-overflow_sub-levels-in-Choice : goal.write_item-overflow_sub-levels-in-Choice
write_item-overflow_sub-levels-in-Choice t c = let z = item_choice_deep c.args.spot.levels c.args.filter.now c.args.spot.close c.args.spot.at _ c.requires.room_for _ c.read_head.ensures _ c.in-Some.is _ c.in-Choice.is in omega arith

pub write_item-write_chosen-requires : goal.write_item-write_chosen-requires
write_item-write_chosen-requires t c = let a = head_choice_ahead _ _ _ _ c.read_head.ensures c.requires.at_in_bounds _ c.in-Some.is _ c.in-Choice.is in (omega arith, (omega arith, (omega arith, search (item_choice_room, rules))))

pub write_item-returns-in-Test : goal.write_item-returns-in-Test
write_item-returns-in-Test t c = search (item_test_spelt, rules)

pub write_item-returns-else-negated : goal.write_item-returns-else-negated
write_item-returns-else-negated t c = search (item_open_spelt, rules)

pub write_item-returns-in-Choice : goal.write_item-returns-in-Choice
write_item-returns-in-Choice t c = search (item_choice_spelt, rules)

pub write_item-returns-in_default : goal.write_item-returns-in_default
write_item-returns-in_default t c = item_nothing c.args.spot.levels c.args.filter.now c.args.spot.close c.args.spot.at _ c.requires.room_for _ c.read_head.ensures c.in_default.is

pub write_joined-write_connective-start-requires : goal.write_joined-write_connective-start-requires
write_joined-write_connective-start-requires t c = search (connective_room, rules)

pub write_joined-write_operand-item-requires : goal.write_joined-write_operand-item-requires
write_joined-write_operand-item-requires t c = (omega arith, (search rules, search (operand_room, rules)))

pub write_joined-returns : goal.write_joined-returns
write_joined-returns t c = search (joined_spelt, rules)

pub write_not-write_word-start-requires : goal.write_not-write_word-start-requires
write_not-write_word-start-requires t c = search (not_room, rules)

pub write_not-write_filter-inner-requires : goal.write_not-write_filter-inner-requires
write_not-write_filter-inner-requires t c = (omega arith, (search rules, search (not_inner, rules)))

pub write_not-write_word-last-requires : goal.write_not-write_word-last-requires
write_not-write_word-last-requires t c = search (not_close_room, rules)

pub write_not-skip-requires : goal.write_not-skip-requires
write_not-skip-requires t c = (filter_within _ _ _ _ c.write_filter-inner.ensures).1

pub write_not-returns : goal.write_not-returns
write_not-returns t c = search (not_spelt, rules)

pub write_operand-returns : goal.write_operand-returns
write_operand-returns t c = search (operand_spelt, rules)

pub write_round-write_filter-inner-requires : goal.write_round-write_filter-inner-requires
write_round-write_filter-inner-requires t c = (omega arith, (search rules, search (round_room, rules)))

pub write_round-skip-requires : goal.write_round-skip-requires
write_round-skip-requires t c = (filter_within _ _ _ _ c.write_filter-inner.ensures).1

pub write_round-returns : goal.write_round-returns
write_round-returns t c = search (round_spelt, rules)
