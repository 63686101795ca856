-- `text_judge::AskedCard::judge_filter` and what it calls in a cycle meet their contracts: the text left falls, and each answers what judging
-- gathers over the tree that the reader finds there. Assumes nothing.
use Prim.Native.Nat.{◌+◌, ◌*◌, ◌-◌}
use mathlib.Core.Path.{◌≡◌}
use lib.ListN.{length}
use Rattle.sheet.specs.Sheet.{parameters_of}
use Rattle.card.specs.Card.{entry, entries_of}
use Rattle.text_judge.specs.Folds.{judged, judging}
use Rattle.filter.proofs.Walk.{Chain}
use Rattle.text_judge.proofs.Judging.{judged_cases}
use Rattle.block.specs.Walking.{coming}
use Rattle.syntax.specs.Reader.{filter_at}
use Rattle.judge.specs.Sets.{chosen_of}
use Rattle.text_judge.specs.Members.{some_chosen}
use Rattle.text_judge.proofs.AskedCard.+judging.Given as goal

abbrev pub decreases-entry_chosen : goal.decreases-entry_chosen
decreases-entry_chosen l = 8 * (length l.self.now.filter.now - l.spot.at) + 3

abbrev pub decreases-judge_chosen : goal.decreases-judge_chosen
decreases-judge_chosen l = 8 * (length l.self.now.filter.now - l.spot.at)

abbrev pub decreases-judge_filter : goal.decreases-judge_filter
decreases-judge_filter l = 8 * (length l.self.now.filter.now - l.spot.at) + 2

abbrev pub decreases-judge_item : goal.decreases-judge_item
decreases-judge_item l = 8 * (length l.self.now.filter.now - l.spot.at) + 1

abbrev pub decreases-judge_round : goal.decreases-judge_round
decreases-judge_round l = 8 * (length l.self.now.filter.now - l.spot.at) + 3

abbrev pub decreases-member_verdict : goal.decreases-member_verdict
decreases-member_verdict l = 8 * (length l.self.now.filter.now - l.spot.at) + 5

abbrev pub decreases-some_chosen : goal.decreases-some_chosen
decreases-some_chosen l = 8 * (length l.self.now.filter.now - l.spot.at) + 4

abbrev pub invariant-judge_filter-loop-link : goal.invariant-judge_filter-loop-link
invariant-judge_filter-loop-link l = Chain judged judged_cases (judging l.needed (parameters_of l.self.sheet.now) l.spot.bundle (chosen_of l.self.chosen (entries_of l.self.card.now))) l.self.filter.now l.spot.close l.spot.levels l.spot.at l.judged.end l.judged.says

abbrev pub decreases-judge_filter-loop-link : goal.decreases-judge_filter-loop-link
decreases-judge_filter-loop-link l = length l.self.filter.now - l.judged.end

abbrev pub invariant-some_chosen-loop-e : goal.invariant-some_chosen-loop-e
invariant-some_chosen-loop-e l =
    some_chosen (parameters_of l.self.sheet.now) l.spot.bundle (entries_of l.self.card.now) l.self.chosen (filter_at l.spot.levels l.self.filter.now l.spot.close l.spot.at) l.index l.meaning l.test.value (coming entry l.e-iterator)
    ≡ some_chosen (parameters_of l.self.sheet.now) l.spot.bundle (entries_of l.self.card.now) l.self.chosen (filter_at l.spot.levels l.self.filter.now l.spot.close l.spot.at) l.index l.meaning l.test.value (entries_of l.self.card.now)
