-- `sheet::distinct` meets its contract: the parameters to come decide. Assumes nothing.
use mathlib.Core.Path.{sym, ◌∙◌}
use Rattle.block.proofs.Walking.{step_first, none_coming}
use Rattle.sheet.specs.Sheet.{parameter}
use Rattle.sheet.proofs.Rules.{distinct-next, distinct_not, distinct_end}
use Rattle.sheet.proofs.distinct.Goals as goal

pub returns-then-not-absent : goal.returns-then-not-absent
returns-then-not-absent c = distinct_not _ _ c.loop-p.invariant _ _ (step_first parameter _ _ _ c.in-Some.ensures.steps) (sym c.absent.ensures ∙ c.if-not-absent.true)

pub loop-p-preserved : goal.loop-p-preserved
loop-p-preserved c = distinct-next _ _ c.loop-p.invariant _ _ (step_first parameter _ _ _ c.in-Some.ensures.steps) (sym c.absent.ensures ∙ c.if-not-absent.false)

pub returns : goal.returns
returns c = distinct_end _ _ c.loop-p.invariant (none_coming parameter c.loop-p.parameters c.in_default.ensures.steps.0)
