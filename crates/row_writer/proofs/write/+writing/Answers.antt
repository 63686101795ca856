-- `row_writer::write::write_filter` and what it calls in a cycle meet their contracts: the text is read as the definition reads it, and each
use borrow.Author.Rules.{rules}
use mathlib.Core.Path.{refl}
use Rattle.syntax.proofs.Places.{test_in_place}
use Rattle.row_writer.proofs.Numbers.{head_read}
use Rattle.row_writer.proofs.Writing.{chain_ends, chain_falls, chain_less, chain_no_item, chain_room, chain_starts, chain_takes, chain_joins, choice_low}
use Rattle.row_writer.proofs.Writing.{choice_within, chosen-member, chosen_no_filter, filter_no_item, filter_rest}
use Rattle.row_writer.proofs.Writing.{filter_within, inside-less, inside_room, open_less, open_low, open_room, round-closed, round_no_filter, round_room}
use Rattle.row_writer.proofs.Writing.{test_room, wrote_choice_deep, wrote_chosen, wrote_deep, wrote_nothing, wrote_opened, wrote_test}
use Rattle.row_writer.proofs.Writing.{chosen_room, chosen-cells, chosen_tests}
use Rattle.row_writer.proofs.write.+writing.Goals as goal

pub write_chosen-returns-in_err-inner : goal.write_chosen-returns-in_err-inner
write_chosen-returns-in_err-inner t c = rw c.from_residual.ensures (chosen_no_filter _ _ _ _ _ _ c.inside_of-inside.ensures _ _ _ c.write_filter.ensures c.in_err-inner.was)

pub write_chosen-returns : goal.write_chosen-returns
write_chosen-returns t c = chosen-member _ _ _ _ _ _ c.inside_of-inside.ensures _ _ _ c.write_filter.ensures _ c.in_ok-inner.was _ _ c.write_member.ensures

pub write_filter-returns-in_err-first : goal.write_filter-returns-in_err-first
write_filter-returns-in_err-first t c = rw c.from_residual.ensures (filter_no_item _ _ _ _ _ _ _ _ _ _ c.write_item.ensures c.in_err-first.was)

pub write_filter-write_rest-requires : goal.write_filter-write_rest-requires
write_filter-write_rest-requires t c = (search rules, search (chain_starts, rules))

pub write_filter-returns : goal.write_filter-returns
write_filter-returns t c = filter_rest _ _ _ _ _ _ _ _ _ _ c.write_item.ensures _ c.in_ok-first.was c.requires.room _ _ c.write_rest.ensures

pub write_item-write_test-requires-clause-placed : goal.write_item-write_test-requires-clause-placed
write_item-write_test-requires-clause-placed t c = search (test_in_place, rules)

pub write_item-write_test-requires-clause-read : goal.write_item-write_test-requires-clause-read
write_item-write_test-requires-clause-read t c = search (head_read, rules)

pub write_item-write_test-requires-clause-row_in_bounds : goal.write_item-write_test-requires-clause-row_in_bounds
write_item-write_test-requires-clause-row_in_bounds t c = test_room _ _ _ _ _ _ _ _ c.read_head.ensures c.in_ok-head.was c.in-Test.is c.requires.room

pub write_item-returns-then-levels-eq0 : goal.write_item-returns-then-levels-eq0
write_item-returns-then-levels-eq0 t c = wrote_deep _ _ _ _ _ _ _ _ c.read_head.ensures _ c.in_ok-head.was _ _ c.in-Open.is _ c.if-levels-eq0.true

pub write_item-write_round-requires : goal.write_item-write_round-requires
write_item-write_round-requires t c = (search (open_less _ _ _ _ _ _ c.read_head.ensures c.requires.room _ c.in_ok-head.was _ _ c.in-Open.is, rules), (open_room _ _ _ _ _ _ c.read_head.ensures c.requires.room _ c.in_ok-head.was _ _ c.in-Open.is, open_low _ _ _ _ _ _ c.read_head.ensures c.requires.room _ c.in_ok-head.was _ _ c.in-Open.is))

pub write_item-returns-then-levels-eq0-2 : goal.write_item-returns-then-levels-eq0-2
write_item-returns-then-levels-eq0-2 t c = wrote_choice_deep _ _ _ _ _ _ _ _ c.read_head.ensures _ c.in_ok-head.was _ c.in-Choice.is _ c.if-levels-eq0-2.true

pub write_item-write_chosen-requires : goal.write_item-write_chosen-requires
write_item-write_chosen-requires t c = (search rules, (search rules, (choice_low _ _ _ _ _ _ c.read_head.ensures c.requires.room _ c.in_ok-head.was _ c.in-Choice.is, choice_within _ _ _ _ _ _ c.read_head.ensures c.requires.room _ c.in_ok-head.was _ c.in-Choice.is)))

pub write_item-returns-in-Test : goal.write_item-returns-in-Test
write_item-returns-in-Test t c = wrote_test _ _ _ _ _ _ _ _ c.read_head.ensures _ _ _ _ _ c.in_ok-head.was c.in-Test.is c.write_test.ensures

pub write_item-returns-else-levels-eq0 : goal.write_item-returns-else-levels-eq0
write_item-returns-else-levels-eq0 t c = wrote_opened _ _ _ _ _ _ _ _ c.read_head.ensures _ c.in_ok-head.was _ _ c.in-Open.is _ _ _ c.if-levels-eq0.false c.write_round.ensures

pub write_item-returns-else-levels-eq0-2 : goal.write_item-returns-else-levels-eq0-2
write_item-returns-else-levels-eq0-2 t c = wrote_chosen _ _ _ _ _ _ _ _ c.read_head.ensures _ c.in_ok-head.was _ c.in-Choice.is _ _ _ c.if-levels-eq0-2.false c.write_chosen.ensures

pub write_item-returns-in_err-head : goal.write_item-returns-in_err-head
write_item-returns-in_err-head t c = rw c.from_residual.ensures (wrote_nothing _ _ _ _ _ _ _ _ c.read_head.ensures _ c.in_err-head.was)

pub write_rest-write_item-requires : goal.write_rest-write_item-requires
write_rest-write_item-requires t c = (search (chain_falls, rules), search (chain_room, rules))

pub write_rest-write_join-requires : goal.write_rest-write_join-requires
write_rest-write_join-requires t c = chain_joins _ _ _ _ _ _ _ _ _ _ _ c.loop-link.invariant _ c.read_connective.ensures.link _ c.in-Some.is _ _ c.write_item.ensures _ c.in_ok-item.was

pub write_rest-loop-link-smaller : goal.write_rest-loop-link-smaller
write_rest-loop-link-smaller t c = chain_less _ _ _ _ _ _ _ _ _ _ _ c.loop-link.invariant _ c.read_connective.ensures.link _ c.in-Some.is _ _ c.write_item.ensures _ c.in_ok-item.was

pub write_rest-loop-link-preserved : goal.write_rest-loop-link-preserved
write_rest-loop-link-preserved t c = chain_takes _ _ _ _ _ _ _ _ _ _ _ c.loop-link.invariant _ c.read_connective.ensures.link _ c.in-Some.is _ _ c.write_item.ensures _ c.in_ok-item.was _ _ c.write_join.ensures

pub write_rest-returns-in_err-item : goal.write_rest-returns-in_err-item
write_rest-returns-in_err-item t c = rw c.from_residual.ensures (chain_no_item _ _ _ _ _ _ _ _ _ _ _ c.loop-link.invariant _ c.read_connective.ensures.link _ c.in-Some.is _ _ c.write_item.ensures c.in_err-item.was)

pub write_rest-returns : goal.write_rest-returns
write_rest-returns t c = chain_ends _ _ _ _ _ _ _ _ _ _ _ c.loop-link.invariant _ c.read_connective.ensures.link c.in_default.is

pub write_round-returns-in_err-inner : goal.write_round-returns-in_err-inner
write_round-returns-in_err-inner t c = rw c.from_residual.ensures (round_no_filter _ _ _ _ _ _ _ refl _ _ _ _ c.write_filter.ensures c.in_err-inner.was)

pub write_round-close_round-requires-clause-end_in_bounds : goal.write_round-close_round-requires-clause-end_in_bounds
write_round-close_round-requires-clause-end_in_bounds t c = filter_within _ _ _ _ _ _ _ _ _ _ _ c.write_filter.ensures c.in_ok-inner.was

pub write_round-close_round-requires-clause-cells_in_bounds : goal.write_round-close_round-requires-clause-cells_in_bounds
write_round-close_round-requires-clause-cells_in_bounds t c = round_room _ _ _ _ _ _ _ _ _ _ _ c.write_filter.ensures c.in_ok-inner.was c.requires.room c.requires.row_lt_at

pub write_round-returns : goal.write_round-returns
write_round-returns t c = round-closed _ _ _ _ _ _ _ refl _ _ _ _ c.write_filter.ensures _ c.in_ok-inner.was _ _ c.close_round.ensures

pub write_chosen-write_member-requires-clause-end_in_bounds : goal.write_chosen-write_member-requires-clause-end_in_bounds
write_chosen-write_member-requires-clause-end_in_bounds t c = filter_within _ _ _ _ _ _ _ _ _ _ _ c.write_filter.ensures c.in_ok-inner.was

pub write_chosen-write_member-requires-clause-cells_in_bounds : goal.write_chosen-write_member-requires-clause-cells_in_bounds
write_chosen-write_member-requires-clause-cells_in_bounds t c = chosen_room _ _ _ _ _ _ c.inside_of-inside.ensures _ _ _ c.write_filter.ensures _ c.in_ok-inner.was c.requires.room c.requires.at_lt_until

pub write_chosen-write_member-requires-clause-cells_bound : goal.write_chosen-write_member-requires-clause-cells_bound
write_chosen-write_member-requires-clause-cells_bound t c = chosen-cells _ _ _ _ _ _ c.inside_of-inside.ensures _ _ _ c.write_filter.ensures _ c.in_ok-inner.was c.requires.room c.requires.at_lt_until

pub write_chosen-write_member-requires-clause-tests_bound : goal.write_chosen-write_member-requires-clause-tests_bound
write_chosen-write_member-requires-clause-tests_bound t c = chosen_tests _ _ _ _ _ _ c.inside_of-inside.ensures _ _ _ c.write_filter.ensures _ c.in_ok-inner.was c.requires.room c.requires.at_lt_until
