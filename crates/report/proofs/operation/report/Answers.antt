-- `report::operation::report` meets its contract: the plan says which steps, and the rows are ready for each. Assumes nothing.
use Rattle.report.proofs.Contracts.{plan_ready, plan_reports}
use Rattle.report.proofs.operation.report.Goals as goal

pub raise_all-requires : goal.raise_all-requires
raise_all-requires c = plan_ready _ _ _ _ _ c.plan_of-plan.ensures

pub returns : goal.returns
returns c = plan_reports _ _ _ _ _ _ c.plan_of-plan.ensures c.raise_all.ensures
