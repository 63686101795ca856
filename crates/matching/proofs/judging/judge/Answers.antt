-- `matching::judging::judge` meets its contract: the sheet first, then the rows. Assumes nothing.
use borrow.Author.Rules.{rules}
use Rattle.std.proofs.lemmas.Result.{err_from_is_err_and}
use Rattle.matching.proofs.RowsJudged.{judge_refused, judge_right}
use Rattle.matching.proofs.judging.judge.Goals as goal

pub returns-in_err-sheet : goal.returns-in_err-sheet
returns-in_err-sheet c = let p = err_from_is_err_and c.from_residual.result c.from_residual.ensures.1 in rw (p.1, p.2) (search (judge_refused, c.in_err-sheet.ensures.refused, rules))

pub returns : goal.returns
returns c = search (judge_right, c.in_ok-sheet.ensures.accepted, rules)
