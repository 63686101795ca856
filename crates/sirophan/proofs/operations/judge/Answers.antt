-- `sirophan::operations::judge` meets its contract: the table is that of the definition, and slices hold bytes. Assumes nothing.
use native.Mathlib.Omega.{arith}
use Rattle.sirophan.proofs.Contracts.{judges}
use Rattle.sirophan.proofs.operations.judge.Goals as goal

pub returns : goal.returns
returns c = judges _ _ _ _ _ c.judge.ensures (λ i. omega (arith, c.shared_slice_known-1.given i)) (λ i. omega (arith, c.shared_slice_known-4-1.given i))
