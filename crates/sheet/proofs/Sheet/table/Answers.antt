-- `sheet::Sheet::table` meets its contract: each turn fills the cell of the first parameter to come. Assumes nothing.
use native.Mathlib.Omega.{arith}
use mathlib.Core.Path.{ap}
use mathlib.Core.Logic.{inl}
use lib.ListN.{length}
use Rattle.sheet.specs.Sheet.{parameter}
use Rattle.block.proofs.Walking.{step_first, none_coming}
use Rattle.sheet.proofs.Search.{counted_start}
use Rattle.sheet.proofs.Filling.{filling-start, filling-next, filling_end}
use Rattle.sheet.proofs.Sheet.table.Goals as goal

pub loop-i-init-derived : goal.loop-i-init-derived
loop-i-init-derived g c =
    let s = counted_start _ _ _ c.into_iter-i-iterator.ensures.into_iter_gives c.enumerate-i-items.ensures.count c.enumerate-i-items.ensures.source c.parameters.ensures.parameters in
    ((tt, tt, inl (omega (arith, s.0, ap length s.1, c.parameters.ensures.most))), tt)

pub loop-i-init : goal.loop-i-init
loop-i-init g c =
    let s = counted_start _ _ _ c.into_iter-i-iterator.ensures.into_iter_gives c.enumerate-i-items.ensures.count c.enumerate-i-items.ensures.source c.parameters.ensures.parameters in (
      omega (arith, s.0, ap length s.1, c.parameters.ensures.most),
      λ of computes. rw (s.0, s.1) (filling-start of _ c.parameters.ensures.most),
    )

pub bounds-table-i : goal.bounds-table-i
bounds-table-i g c = let h = c.in-Some.ensures.steps in omega (arith, c.loop-i.invariant.0, h.1, ap length (step_first parameter _ _ _ h.0))

pub loop-i-preserved : goal.loop-i-preserved
loop-i-preserved g c =
    let h = c.in-Some.ensures.steps in (
      omega (arith, c.loop-i.invariant.0, h.2, ap length (step_first parameter _ _ _ h.0)),
      λ of computes. rw (h.1, h.2) (filling-next of _ _ _ _ (c.loop-i.invariant.1 of computes) _ _ (step_first parameter _ _ _ h.0) _ (computes c.in-Some.p c.part.result c.part.ensures)),
    )

pub returns : goal.returns
returns g c = λ of computes. filling_end of _ _ _ _ (c.loop-i.invariant.1 of computes) (none_coming parameter c.loop-i.i-iterator.iter c.in-None.ensures.steps.0.0)
