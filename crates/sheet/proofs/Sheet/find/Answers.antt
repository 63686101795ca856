-- `sheet::Sheet::find` meets its contract: the parameters to come decide, the first of which has the index at hand. Assumes nothing.
use native.Mathlib.Omega.{arith}
use mathlib.Core.Path.{sym, ap, ◌∙◌}
use lib.ListN.{length}
use Rattle.base.proofs.Lists.{pointwise_equal}
use Rattle.block.proofs.Walking.{step_first, none_coming}
use Rattle.sheet.specs.Sheet.{parameter}
use Rattle.sheet.proofs.Search.{counted_start, find-start, find-here, find_other_bundle, find_other_name, find_end}
use Rattle.sheet.proofs.Sheet.find.Goals as goal
use Rattle.sheet.proofs.Sheet.find.Goals.{else-p-bundle-via-then-p-bundle+else-eq, else-p-bundle-via-else-p-bundle}

pub loop-index-init : goal.loop-index-init
loop-index-init c =
    let s = counted_start _ _ _ c.into_iter-index-iterator.ensures.into_iter_gives c.enumerate-index-items.ensures.count c.enumerate-index-items.ensures.source c.parameters.ensures.parameters in
    (omega (arith, s.0, ap length s.1, c.parameters.ensures.most), rw s.0 (find-start _ _ s.1))

pub returns-then-eq : goal.returns-then-eq
returns-then-eq c =
    let h = c.in-Some.ensures.steps in record {
      found = rw h.1 (find-here _ _ _ _ _ c.loop-index.invariant.1 _ _ (step_first parameter _ _ _ h.0) c.if-p-bundle.true (sym (pointwise_equal _ _) ∙ sym c.if-eq.ensures));
      below = omega (arith, c.loop-index.invariant.0, h.1, ap length (step_first parameter _ _ _ h.0));
    }

pub loop-index-preserved : goal.loop-index-preserved
loop-index-preserved c =
    let h = c.in-Some.ensures.steps in (
      omega (arith, c.loop-index.invariant.0, h.2, ap length (step_first parameter _ _ _ h.0)),
      rw h.2 (elim c.else-p-bundle.branch [
        | else-p-bundle-via-then-p-bundle+else-eq w ↦ find_other_name _ _ _ _ _ c.loop-index.invariant.1 _ _ (step_first parameter _ _ _ h.0) (sym (pointwise_equal _ _) ∙ sym w.if-eq.ensures)
        | else-p-bundle-via-else-p-bundle w ↦ find_other_bundle _ _ _ _ _ c.loop-index.invariant.1 _ _ (step_first parameter _ _ _ h.0) w.if-p-bundle.false
      ]),
    )

pub returns : goal.returns
returns c = record { found = find_end _ _ _ _ _ c.loop-index.invariant.1 (none_coming parameter c.loop-index.index-iterator.iter c.in-None.ensures.steps.0.0); below = tt }
