-- `sirophan::operations::prepare` meets its contract: the table is that of the definition, and slices hold bytes. Assumes nothing.
use native.Mathlib.Omega.{arith}
use Rattle.sirophan.proofs.Contracts.{prepares_into}
use Rattle.sirophan.proofs.operations.prepare.Goals as goal

pub returns : goal.returns
returns c = prepares_into _ _ _ _ _ c.prepare.ensures (λ i. omega (arith, c.shared_slice_known-1.given i))
