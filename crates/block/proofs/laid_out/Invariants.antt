-- `block::laid_out` meets its contract: the items that are left decide, and after the last the padding. Assumes nothing.
use Rattle.block.proofs.Invariants.{LaidTo}
use Rattle.block.proofs.laid_out.Given as goal

abbrev pub invariant-loop : goal.invariant-loop
invariant-loop l = LaidTo l.block l.from l.count l.at l.counter
