-- `matching::judging::judge_rows` meets its contract: the text, the rows, the card. Assumes nothing.
use Rattle.std.proofs.lemmas.Result.{err_from_is_err_and}
use Rattle.refusal.proofs.Answers.{refusal_matched}
use Rattle.matching.proofs.RowsJudged.{judge_size, judge_bad, judge_whole, judge_few, judge_verdict}
use Rattle.matching.proofs.judging.judge_rows.Goals as goal

pub returns-in_err-text : goal.returns-in_err-text
returns-in_err-text c = let p = err_from_is_err_and c.from_residual.result c.from_residual.ensures.1 in rw (p.1, p.2) (judge_size _ _ _ _ _ c.in_err-text.ensures.refused)

pub returns-then-not-are_good : goal.returns-then-not-are_good
returns-then-not-are_good c =
    judge_bad _ _ _ _ _ c.kinds.ensures.well_formed c.in_ok-text.ensures.accepted _ _ c.kinds.ensures.kinds c.parents.ensures _ c.are_good.ensures _ c.if-not-are_good.true (refusal_matched _ _ _ c.refuse.ensures)

pub invariant_of-rows : goal.invariant_of-rows
invariant_of-rows c = (
  judge_whole _ _ _ _ c.args.card.now c.kinds.ensures.well_formed c.in_ok-text.ensures.accepted _ _ c.kinds.ensures.kinds c.parents.ensures _ c.are_good.ensures c.if-not-are_good.false,
  judge_few _ _ _ _ c.args.card.now c.kinds.ensures.well_formed c.in_ok-text.ensures.accepted _ _ c.kinds.ensures.kinds c.parents.ensures _ c.are_good.ensures c.if-not-are_good.false,
)

pub returns : goal.returns
returns c =
    judge_verdict _ _ _ _ _ c.kinds.ensures.well_formed c.in_ok-text.ensures.accepted _ _ c.kinds.ensures.kinds c.parents.ensures _ c.are_good.ensures c.if-not-are_good.false _ c.judge_once.ensures _ c.answered.ensures
