-- `filter::check::check_filter` and what it calls in a cycle meet their contracts: the text left falls, and each answers what reading gathers
use native.Mathlib.Omega.{arith}
use Rattle.syntax.proofs.Places.{test_in_place, head_open_ahead, head_choice_order, head_choice_within, member_in_place, connective_ahead}
use Rattle.filter.specs.Folds.{walked, reading}
use Rattle.filter.proofs.Walk.{item_test, item_nothing, item_deep, item-opened, choice_deep, item-chosen, round_no_filter, round_open, round-closed, chosen_no_filter, chosen_no_member, chosen-member, item_ahead, filter_within, filter_no_item, chain_starts, chain_ends, chain_no_item, chain_goes_on}
use Rattle.filter.proofs.Reading.{walked_cases, tests_fit, member-fits, summary_negated, summary_inside}
use borrow.Author.Rules.{rules}
use mathlib.Core.Path.{refl, ap, ◌∙◌}
use mathlib.Core.List.{List}
use Prim.Native.Nat.{ℕ}
use Rattle.sheet.specs.Sheet.{parameters_of}
use Rattle.sheet.specs.Find.{enter}
use Rattle.filter.proofs.check.+checking.Goals as goal

pub check_chosen-returns-in_err-inner : goal.check_chosen-returns-in_err-inner
check_chosen-returns-in_err-inner t c = search (chosen_no_filter, walked_cases, rules)

pub check_chosen-read_member-requires : goal.check_chosen-read_member-requires
check_chosen-read_member-requires t c = filter_within walked walked_cases (reading _ _) _ _ _ _ _ _ _ c.check_filter.ensures c.in_ok-inner.was

pub check_chosen-returns-in_err-raw : goal.check_chosen-returns-in_err-raw
check_chosen-returns-in_err-raw t c = c.from_residual-in_err-raw.ensures ∙ chosen_no_member walked walked_cases (reading _ _) _ _ _ _ _ _ c.skip_after.ensures (reading _ _) _ c.check_filter.ensures _ _ c.in_ok-inner.was _ c.read_member.ensures.test c.in_err-raw.was

pub check_chosen-invariant_of-test : goal.check_chosen-invariant_of-test
check_chosen-invariant_of-test t c = search (member_in_place, rules)

pub check_chosen-join_summaries-requires : goal.check_chosen-join_summaries-requires
check_chosen-join_summaries-requires t c = member-fits _ _ _ _ _ _ _ _ _ _ _ _ c.skip_after.ensures c.check_filter.ensures c.in_ok-inner.was c.test_summary-outer.ensures c.read_member.ensures.most

pub check_chosen-returns : goal.check_chosen-returns
check_chosen-returns t c = chosen-member walked walked_cases (reading _ _) _ _ _ _ _ _ c.skip_after.ensures (reading _ _) _ c.check_filter.ensures _ _ c.in_ok-inner.was _ c.read_member.ensures.test _ _ c.in_ok-raw.was (λ g r s. summary_inside _ _ _ _ _ _ _ _ _ (c.enter-bundle.ensures ∙ ap (λ (n : List ℕ). enter (parameters_of c.args.sheet.now) c.args.spot.bundle n) c.part.ensures.part) c.test_summary-outer.ensures c.join_summaries.ensures g s)

pub check_filter-returns-in_err-read : goal.check_filter-returns-in_err-read
check_filter-returns-in_err-read t c = search (filter_no_item, walked_cases, rules)

pub check_filter-loop-link-init : goal.check_filter-loop-link-init
check_filter-loop-link-init t c = search (chain_starts, rules)

pub check_filter-check_item-requires-in-Some : goal.check_filter-check_item-requires-in-Some
check_filter-check_item-requires-in-Some t c = let a = connective_ahead _ _ _ _ c.read_connective.ensures.link c.in-Some.is in (omega arith, a.1)

pub check_filter-join_summaries-requires : goal.check_filter-join_summaries-requires
check_filter-join_summaries-requires t c = tests_fit _ _ _ _ _ _ _ _ _ _ _ _ _ c.loop-link.invariant c.read_connective.ensures.link c.in-Some.is c.check_item-in-Some.ensures c.in_ok-item.was c.read_connective.ensures.most

pub check_filter-loop-link-smaller : goal.check_filter-loop-link-smaller
check_filter-loop-link-smaller t c = let j = connective_ahead _ _ _ _ c.read_connective.ensures.link c.in-Some.is in let a = item_ahead walked walked_cases (reading _ _) _ _ _ _ _ _ _ c.check_item-in-Some.ensures c.in_ok-item.was in omega arith

pub check_filter-loop-link-preserved : goal.check_filter-loop-link-preserved
check_filter-loop-link-preserved t c = chain_goes_on walked walked_cases (reading _ _) _ _ _ _ _ _ c.loop-link.invariant _ c.read_connective.ensures.link _ c.in-Some.is _ c.check_item-in-Some.ensures _ _ _ c.in_ok-item.was c.join_summaries.ensures

pub check_filter-returns-in_err-item : goal.check_filter-returns-in_err-item
check_filter-returns-in_err-item t c = c.from_residual-in_err-item.ensures ∙ chain_no_item walked walked_cases (reading _ _) _ _ _ _ _ _ c.loop-link.invariant _ c.read_connective.ensures.link _ c.in-Some.is (reading _ _) _ c.check_item-in-Some.ensures c.in_err-item.was

pub check_filter-returns : goal.check_filter-returns
check_filter-returns t c = chain_ends walked walked_cases (reading _ _) _ _ _ _ _ _ c.loop-link.invariant _ c.read_connective.ensures.link c.in_default.is

pub check_item-invariant_of-test : goal.check_item-invariant_of-test
check_item-invariant_of-test t c = search (test_in_place, rules)

pub check_item-returns-then-levels-eq0 : goal.check_item-returns-then-levels-eq0
check_item-returns-then-levels-eq0 t c = search (item_deep, walked_cases, rules)

pub check_item-check_round-requires : goal.check_item-check_round-requires
check_item-check_round-requires t c = let a = head_open_ahead _ _ _ _ c.read_head.ensures (search rules) _ c.in_ok-head.was _ _ c.in-Open.is in (omega arith, a.1)

pub check_item-returns-then-levels-eq0-2 : goal.check_item-returns-then-levels-eq0-2
check_item-returns-then-levels-eq0-2 t c = search (choice_deep, walked_cases, rules)

pub check_item-check_chosen-requires : goal.check_item-check_chosen-requires
check_item-check_chosen-requires t c = (omega arith, (search (head_choice_order, rules), search (head_choice_within, rules)))

pub check_item-returns-in-Test : goal.check_item-returns-in-Test
check_item-returns-in-Test t c = item_test walked walked_cases (reading _ _) _ _ _ _ _ c.read_head.ensures _ _ _ c.in_ok-head.was c.in-Test.is c.test_summary.ensures

pub check_item-returns-else-levels-eq0 : goal.check_item-returns-else-levels-eq0
check_item-returns-else-levels-eq0 t c = item-opened walked walked_cases (reading _ _) _ _ _ _ _ c.read_head.ensures _ c.in_ok-head.was _ _ c.in-Open.is c.if-levels-eq0.false _ (c.check_round.ensures _)

pub check_item-returns-else-levels-eq0-2 : goal.check_item-returns-else-levels-eq0-2
check_item-returns-else-levels-eq0-2 t c = search (item-chosen, walked_cases, rules)

pub check_item-returns-in_err-head : goal.check_item-returns-in_err-head
check_item-returns-in_err-head t c = search (item_nothing, walked_cases, rules)

pub check_round-returns-in_err-inner : goal.check_round-returns-in_err-inner
check_round-returns-in_err-inner t c b = search (round_no_filter, walked_cases, rules)

pub check_round-read_close-requires : goal.check_round-read_close-requires
check_round-read_close-requires t c = filter_within walked walked_cases (reading _ _) _ _ _ _ _ _ _ c.check_filter.ensures c.in_ok-inner.was

pub check_round-returns-in_err-read_close : goal.check_round-returns-in_err-read_close
check_round-returns-in_err-read_close t c b = c.from_residual-in_err-read_close.ensures ∙ round_open walked walked_cases (reading _ _) _ _ _ _ refl b _ c.check_filter.ensures _ _ c.in_ok-inner.was _ c.read_close.ensures c.in_err-read_close.was

pub check_round-returns : goal.check_round-returns
check_round-returns t c b = round-closed walked walked_cases (reading _ _) _ _ _ _ refl b _ c.check_filter.ensures _ _ c.in_ok-inner.was _ c.read_close.ensures _ _ c.in_ok-read_close.was (summary_negated b _)
