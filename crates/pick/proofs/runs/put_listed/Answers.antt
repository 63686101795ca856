-- `pick::runs::put_listed` meets its contract: the end of the run stands behind the lines. Assumes nothing.
use Rattle.std.proofs.Common.{arith, rules}
use Rattle.base.proofs.Writing.{last_room}
use Rattle.pick.specs.Runs.{last_line}
use Rattle.pick.proofs.Selecting.{listed_room}
use Rattle.pick.proofs.runs.put_listed.Goals as goal

pub end_run-end-requires : goal.end_run-end-requires
end_run-end-requires c =
    last_room _ (last_line _ _ _) _ (listed_room _ _ _ _ (λ i. omega (arith, c.type_inv.numbers i)) (search rules) (search rules) (search rules) (search rules)) c.put_lines-size.ensures
