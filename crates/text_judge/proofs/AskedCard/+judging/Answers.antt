-- `text_judge::AskedCard::judge_filter` and what it calls in a cycle meet their contracts: the text left falls, and each answers what judging
use native.Mathlib.Omega.{arith}
use Prim.Native.Nat.{ℕ}
use mathlib.Core.List.{List}
use mathlib.Core.Path.{refl, ap, ◌∙◌}
use Rattle.sheet.specs.Sheet.{parameters_of}
use Rattle.sheet.specs.Find.{enter}
use Rattle.kind.specs.Table.{meaning_of}
use Rattle.syntax.proofs.Places.{test_in_place, head_open_ahead, head_choice_order, head_choice_within, member_in_place, connective_ahead}
use Rattle.text_judge.specs.Folds.{judged, judging}
use Rattle.filter.proofs.Walk.{item_test, item_nothing, item_deep, item-opened, choice_deep, item-chosen, round_no_filter, round_open, round-closed, chosen_no_filter, chosen_no_member, chosen-member, item_ahead, filter_within, filter_no_item, chain_starts, chain_ends, chain_no_item, chain_takes}
use Rattle.text_judge.proofs.Judging.{judged_cases, verdict_after, verdict_negated, verdict_inside, chosen_judged, chosen-here, chosen-next, chosen_end, member-found, member_missing}
use Rattle.block.proofs.Walking.{walked_next, walked_decides, walked_end}
use Rattle.card.specs.Card.{entry}
use Rattle.text_judge.specs.Members.{some_chosen}
use borrow.Author.Rules.{rules}
use Rattle.text_judge.proofs.AskedCard.+judging.Goals as goal

pub entry_chosen-returns-then-counts : goal.entry_chosen-returns-then-counts
entry_chosen-returns-then-counts t c = search (chosen_judged, rules)

pub judge_chosen-returns-in_err-inner : goal.judge_chosen-returns-in_err-inner
judge_chosen-returns-in_err-inner t c = search (chosen_no_filter, judged_cases, rules)

pub judge_chosen-read_member-requires : goal.judge_chosen-read_member-requires
judge_chosen-read_member-requires t c = filter_within judged judged_cases (judging _ _ _ _) _ _ _ _ _ _ _ c.judge_filter.ensures c.in_ok-inner.was

pub judge_chosen-returns-in_err-raw : goal.judge_chosen-returns-in_err-raw
judge_chosen-returns-in_err-raw t c = c.from_residual-in_err-raw.ensures ∙ chosen_no_member judged judged_cases (judging _ _ _ _) _ _ _ _ _ _ c.skip_after.ensures (judging _ _ _ _) _ c.judge_filter.ensures _ _ c.in_ok-inner.was _ c.read_member.ensures.test c.in_err-raw.was

pub judge_chosen-invariant_of-test : goal.judge_chosen-invariant_of-test
judge_chosen-invariant_of-test t c = search (member_in_place, rules)

pub judge_chosen-returns : goal.judge_chosen-returns
judge_chosen-returns t c = chosen-member judged judged_cases (judging _ _ _ _) _ _ _ _ _ _ c.skip_after.ensures (judging _ _ _ _) _ c.judge_filter.ensures _ _ c.in_ok-inner.was _ c.read_member.ensures.test _ _ c.in_ok-raw.was (λ g r s. verdict_inside _ _ _ _ _ _ _ _ _ _ _ (c.enter-bundle.ensures ∙ ap (λ (n : List ℕ). enter (parameters_of c.args.self.now.sheet.now) c.args.spot.bundle n) c.part.ensures.part) c.member_verdict.ensures _ g r)

pub judge_filter-returns-in_err-judged : goal.judge_filter-returns-in_err-judged
judge_filter-returns-in_err-judged t c = search (filter_no_item, judged_cases, rules)

pub judge_filter-loop-link-init : goal.judge_filter-loop-link-init
judge_filter-loop-link-init t c = search (chain_starts, rules)

pub judge_filter-judge_item-requires-in-Some : goal.judge_filter-judge_item-requires-in-Some
judge_filter-judge_item-requires-in-Some t c = let a = connective_ahead _ _ _ _ c.read_connective.ensures.link c.in-Some.is in (omega arith, a.1)

pub judge_filter-loop-link-smaller : goal.judge_filter-loop-link-smaller
judge_filter-loop-link-smaller t c = let j = connective_ahead _ _ _ _ c.read_connective.ensures.link c.in-Some.is in let a = item_ahead judged judged_cases _ _ _ _ _ _ _ _ c.judge_item-in-Some.ensures c.in_ok-item.was in omega arith

pub judge_filter-loop-link-preserved : goal.judge_filter-loop-link-preserved
judge_filter-loop-link-preserved t c = chain_takes judged judged_cases (judging _ _ _ _) _ _ _ _ _ _ c.loop-link.invariant _ c.read_connective.ensures.link _ c.in-Some.is (judging _ _ _ _) _ c.judge_item-in-Some.ensures _ _ _ c.in_ok-item.was (verdict_after _ _ _ _ _ _ _ _ _ c.item_needed-asked.ensures c.after_item.ensures)

pub judge_filter-returns-in_err-item : goal.judge_filter-returns-in_err-item
judge_filter-returns-in_err-item t c = c.from_residual-in_err-item.ensures ∙ chain_no_item judged judged_cases (judging _ _ _ _) _ _ _ _ _ _ c.loop-link.invariant _ c.read_connective.ensures.link _ c.in-Some.is (judging _ _ _ _) _ c.judge_item-in-Some.ensures c.in_err-item.was

pub judge_filter-returns : goal.judge_filter-returns
judge_filter-returns t c = chain_ends judged judged_cases _ _ _ _ _ _ _ c.loop-link.invariant _ c.read_connective.ensures.link c.in_default.is

pub judge_item-invariant_of-test : goal.judge_item-invariant_of-test
judge_item-invariant_of-test t c = search (test_in_place, rules)

pub judge_item-returns-then-levels-eq0 : goal.judge_item-returns-then-levels-eq0
judge_item-returns-then-levels-eq0 t c = search (item_deep, judged_cases, rules)

pub judge_item-judge_round-requires : goal.judge_item-judge_round-requires
judge_item-judge_round-requires t c = let a = head_open_ahead _ _ _ _ c.read_head.ensures (search rules) _ c.in_ok-head.was _ _ c.in-Open.is in (omega arith, a.1)

pub judge_item-returns-then-levels-eq0-2 : goal.judge_item-returns-then-levels-eq0-2
judge_item-returns-then-levels-eq0-2 t c = search (choice_deep, judged_cases, rules)

pub judge_item-judge_chosen-requires : goal.judge_item-judge_chosen-requires
judge_item-judge_chosen-requires t c = (omega arith, (search (head_choice_order, rules), search (head_choice_within, rules)))

pub judge_item-returns-in-Test : goal.judge_item-returns-in-Test
judge_item-returns-in-Test t c = item_test judged judged_cases (judging _ _ _ _) _ _ _ _ _ c.read_head.ensures _ _ _ c.in_ok-head.was c.in-Test.is c.test_verdict.ensures

pub judge_item-returns-else-levels-eq0 : goal.judge_item-returns-else-levels-eq0
judge_item-returns-else-levels-eq0 t c = search (item-opened, judged_cases, rules)

pub judge_item-returns-else-levels-eq0-2 : goal.judge_item-returns-else-levels-eq0-2
judge_item-returns-else-levels-eq0-2 t c = search (item-chosen, judged_cases, rules)

pub judge_item-returns-in_err-head : goal.judge_item-returns-in_err-head
judge_item-returns-in_err-head t c = search (item_nothing, judged_cases, rules)

pub judge_round-returns-in_err-inner : goal.judge_round-returns-in_err-inner
judge_round-returns-in_err-inner t c = search (round_no_filter, judged_cases, rules)

pub judge_round-read_close-requires : goal.judge_round-read_close-requires
judge_round-read_close-requires t c = filter_within judged judged_cases (judging _ _ _ _) _ _ _ _ _ _ _ c.judge_filter.ensures c.in_ok-inner.was

pub judge_round-returns-in_err-read_close : goal.judge_round-returns-in_err-read_close
judge_round-returns-in_err-read_close t c = c.from_residual-in_err-read_close.ensures ∙ round_open judged judged_cases (judging _ _ _ _) _ _ _ _ refl c.args.negate _ c.judge_filter.ensures _ _ c.in_ok-inner.was _ c.read_close.ensures c.in_err-read_close.was

pub judge_round-returns : goal.judge_round-returns
judge_round-returns t c = round-closed judged judged_cases (judging _ _ _ _) _ _ _ _ refl c.args.negate _ c.judge_filter.ensures _ _ c.in_ok-inner.was _ c.read_close.ensures _ _ c.in_ok-read_close.was (verdict_negated _ _ _ _ c.args.negate _ _ c.negated_if.ensures)

pub member_verdict-returns-in_default : goal.member_verdict-returns-in_default
member_verdict-returns-in_default t c = member_missing _ _ _ _ _ _ _ _ c.test_found.ensures c.in_default.is c.if-not-needed.false

pub member_verdict-returns : goal.member_verdict-returns
member_verdict-returns t c = member-found _ _ _ _ _ _ _ _ c.test_found.ensures _ _ _ _ _ c.in-Some.is (c.meaning_of-meaning.ensures ∙ ap (λ (o : ℕ). meaning_of o c.in-Some.found.kind) c.operator.ensures) c.some_chosen-some.ensures c.member_truth.ensures c.some_says.ensures c.if-not-needed.false

pub some_chosen-returns-then-entry_chosen : goal.some_chosen-returns-then-entry_chosen
some_chosen-returns-then-entry_chosen t c =
    walked_decides entry (some_chosen _ _ _ _ _ _ _ _) _ _ c.loop-e.invariant _ _ c.in-Some.ensures.steps _ (chosen-here _ _ _ _ _ _ _ _ _ _ _ _ _ _ _ c.is_under-under.ensures c.entry_counts-counts.ensures c.entry_chosen.ensures c.if-entry_chosen.true)

pub some_chosen-loop-e-preserved : goal.some_chosen-loop-e-preserved
some_chosen-loop-e-preserved t c =
    walked_next entry (some_chosen _ _ _ _ _ _ _ _) _ _ c.loop-e.invariant _ _ c.in-Some.ensures.steps (some_chosen _ _ _ _ _ _ _ _) (chosen-next _ _ _ _ _ _ _ _ _ _ _ _ _ _ _ c.is_under-under.ensures c.entry_counts-counts.ensures c.entry_chosen.ensures c.if-entry_chosen.false)

pub some_chosen-returns : goal.some_chosen-returns
some_chosen-returns t c = walked_end entry (some_chosen _ _ _ _ _ _ _ _) _ c.loop-e.e-iterator c.loop-e.invariant c.in-None.ensures.steps.0 _ (chosen_end _ _ _ _ _ _ _ _)
