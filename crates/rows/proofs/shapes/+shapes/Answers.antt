-- `rows::shapes::shape_of` and what it calls in a cycle meet their contracts: the calls that are left fall. The loop keeps `InHand`.
use native.Mathlib.Omega.{arith}
use Rattle.rows.proofs.Cells.{test_index}
use Rattle.rows.proofs.Reading.{part_few, tests_few, levels_few, brackets_few, hand_few_tests, hand_few_levels, hand_end, hand_other, hand_not, hand_large, hand_nothing, hand_join}
use Rattle.rows.proofs.Reading.{first_misfits, first_fits, first-inside, first_bracket, first_other, brackets_short, brackets_large, brackets_no_member, brackets_nothing, brackets_found, no_calls, no_rows, began_hand, began_none, began_read}
use borrow.Author.Rules.{rules}
use mathlib.Core.Path.{◌∙◌}
use Rattle.rows.proofs.shapes.+shapes.Goals as goal

pub shape_in_brackets-returns-then-rows-lt2 : goal.shape_in_brackets-returns-then-rows-lt2
shape_in_brackets-returns-then-rows-lt2 t c = search (brackets_short, rules)

pub shape_in_brackets-returns-then-size-rows : goal.shape_in_brackets-returns-then-size-rows
shape_in_brackets-returns-then-size-rows t c = search (brackets_large, rules)

pub shape_in_brackets-returns-then-bundle-eq0 : goal.shape_in_brackets-returns-then-bundle-eq0
shape_in_brackets-returns-then-bundle-eq0 t c = search (brackets_no_member, rules)

pub shape_in_brackets-deeper-requires-clause-tests_bound : goal.shape_in_brackets-deeper-requires-clause-tests_bound
shape_in_brackets-deeper-requires-clause-tests_bound t c = tests_few _ _ _ c.requires.rows_len_bound _ _ _ c.shape_of.ensures _ c.in_ok-inner.was

pub shape_in_brackets-deeper-requires-clause-chain_bound : goal.shape_in_brackets-deeper-requires-clause-chain_bound
shape_in_brackets-deeper-requires-clause-chain_bound t c = levels_few _ _ _ c.requires.rows_len_bound _ _ _ c.shape_of.ensures _ c.in_ok-inner.was

pub shape_in_brackets-returns : goal.shape_in_brackets-returns
shape_in_brackets-returns t c = brackets_found _ _ _ _ _ _ c.if-rows-lt2.false _ c.member_of-bundle.ensures c.if-bundle-eq0.false c.if-size-rows.false _ c.shape_of.ensures _ _ c.in_ok-inner.was c.deeper.ensures

pub shape_in_brackets-returns-in_err-inner : goal.shape_in_brackets-returns-in_err-inner
shape_in_brackets-returns-in_err-inner t c = search (brackets_nothing, rules)

pub shape_of-returns-then-calls-eq0 : goal.shape_of-returns-then-calls-eq0
shape_of-returns-then-calls-eq0 t c = search (no_calls, rules)

pub shape_of-returns-then-rows-eq0 : goal.shape_of-returns-then-rows-eq0
shape_of-returns-then-rows-eq0 t c = search (no_rows, rules)

pub shape_of_first-stands-requires : goal.shape_of_first-stands-requires
shape_of_first-stands-requires t c = search (test_index, rules)

pub shape_of_first-returns-then-stands : goal.shape_of_first-returns-then-stands
shape_of_first-returns-then-stands t c = search (first_fits, rules)

pub shape_of_first-returns-then-scope-gt0 : goal.shape_of_first-returns-then-scope-gt0
shape_of_first-returns-then-scope-gt0 t c = search (first-inside, rules)

pub shape_of_first-returns-else-stands : goal.shape_of_first-returns-else-stands
shape_of_first-returns-else-stands t c = search (first_misfits, rules)

pub shape_with-loop-at-preserved-in-Not : goal.shape_with-loop-at-preserved-in-Not
shape_with-loop-at-preserved-in-Not t c = search (hand_not, rules)

pub shape_with-returns-then-size-rows : goal.shape_with-returns-then-size-rows
shape_with-returns-then-size-rows t c = search (hand_large, rules)

pub shape_with-joined-shape-requires-clause-tests_bound_2 : goal.shape_with-joined-shape-requires-clause-tests_bound_2
shape_with-joined-shape-requires-clause-tests_bound_2 t c = search (tests_few, rules)

pub shape_with-joined-shape-requires-clause-item_bound : goal.shape_with-joined-shape-requires-clause-item_bound
shape_with-joined-shape-requires-clause-item_bound t c = search (brackets_few, rules)

pub shape_with-loop-at-preserved : goal.shape_with-loop-at-preserved
shape_with-loop-at-preserved t c = search (hand_join, rules)

pub shape_with-returns-in_err-second-in-Connect : goal.shape_with-returns-in_err-second-in-Connect
shape_with-returns-in_err-second-in-Connect t c = c.from_residual.ensures ∙ hand_nothing _ _ _ _ _ _ _ _ c.loop-at.invariant (search rules) _ c.row_of.ensures _ _ c.in-Connect.is (search rules) _ c.shape_of.ensures c.in_err-second-in-Connect.was

pub shape_with-returns : goal.shape_with-returns
shape_with-returns t c = search (hand_end, rules)

pub shape_of_first-returns-in_default : goal.shape_of_first-returns-in_default
shape_of_first-returns-in_default t c = search (first_other, rules)

pub shape_with-returns-in_default : goal.shape_with-returns-in_default
shape_with-returns-in_default t c = search (hand_other, rules)
