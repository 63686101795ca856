-- `sealing::seal` meets its contract: what is no block stays, and a block gets the seal of its body. Assumes nothing.
use mathlib.Core.Path.{ap, ◌∙◌}
use borrow.Author.Rules.{rules}
use Rattle.block.specs.Sum.{check_sum}
use Rattle.sealing.proofs.Sealing.{seal_refused, bytes_stay, sum_told, sealed_written}
use Rattle.sealing.proofs.seal.Goals as goal

pub returns-in_default : goal.returns-in_default
returns-in_default c = record { result_value = seal_refused _ c.in_default.ensures.1 _ c.wrong_size.ensures; block_after = bytes_stay _ c.in_default.ensures.1 }

pub put_sum-requires : goal.put_sum-requires
put_sum-requires c = c.in-Ok.ensures.1.long

pub returns : goal.returns
returns c =
    let long = c.in-Ok.ensures.1.long in
    let sum = c.check_sum-sum.ensures ∙ ap check_sum c.in-Ok.ensures.1.same in
    search (sum_told, sealed_written, sum, long, rules)
