-- `explain::operation::explain` meets its contract: it is prepare, judge and the marks, and slices hold bytes. Assumes nothing.
use borrow.Author.Rules.{rules}
use native.Mathlib.Omega.{arith}
use Rattle.std.proofs.lemmas.Result.{err_from_is_err_and}
use Rattle.explain.proofs.Explaining.{filled_within, prepare_refuses, judge_refuses, judged_says}
use Rattle.explain.proofs.Contracts.{explains_into}
use Rattle.explain.proofs.operation.explain.Goals as goal

pub mark-requires : goal.mark-requires
mark-requires c = judged_says _ _ _ _ _ c.prepare.ensures (λ i. omega (arith, c.shared_slice_known-1.given i)) _ c.in_ok-filled.was _ c.judge.ensures _ c.in_ok-yes.was

pub returns : goal.returns
returns c = explains_into _ _ _ _ _ _ c.mark.ensures (λ i. omega (arith, c.shared_slice_known-1.given i)) (λ i. omega (arith, c.shared_slice_known-3-1.given i))

pub returns-in_err-yes : goal.returns-in_err-yes
returns-in_err-yes c =
    let p = err_from_is_err_and c.from_residual-in_err-yes.result c.from_residual-in_err-yes.ensures.1 in
    rw (p.1, p.2) (explains_into _ _ _ _ _ _ (judge_refuses _ _ _ _ _ c.prepare.ensures (λ i. omega (arith, c.shared_slice_known-1.given i)) _ c.in_ok-filled.was _ c.judge.ensures _ _ c.in_err-yes.was) (λ i. omega (arith, c.shared_slice_known-1.given i)) (λ i. omega (arith, c.shared_slice_known-3-1.given i)))

pub returns-in_err-filled : goal.returns-in_err-filled
returns-in_err-filled c =
    let p = err_from_is_err_and c.from_residual.result c.from_residual.ensures.1 in
    rw (p.1, p.2) (explains_into _ _ _ _ _ _ (prepare_refuses _ _ _ _ _ c.prepare.ensures (λ i. omega (arith, c.shared_slice_known-1.given i)) _ _ c.in_err-filled.was) (λ i. omega (arith, c.shared_slice_known-1.given i)) (λ i. omega (arith, c.shared_slice_known-3-1.given i)))

pub slice_bounds-judge-end : goal.slice_bounds-judge-end
slice_bounds-judge-end c = let room = filled_within _ _ _ _ _ c.prepare.ensures _ c.in_ok-filled.was in search (room, rules)
