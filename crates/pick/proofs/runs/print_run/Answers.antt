-- `pick::runs::print_run` meets its contract: the turn is the run's. Assumes nothing.
use Rattle.std.proofs.Common.{rules}
use Rattle.pick.proofs.Selecting.{run_added}
use Rattle.pick.proofs.runs.print_run.Goals as goal

pub returns : goal.returns
returns g c = search (run_added, rules)
