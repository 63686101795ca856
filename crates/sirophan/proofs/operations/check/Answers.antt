-- `sirophan::operations::check` meets its contract: the table is that of the definition, and slices hold bytes. Assumes nothing.
use native.Mathlib.Omega.{arith}
use Rattle.sirophan.proofs.Contracts.{checks}
use Rattle.sirophan.proofs.operations.check.Goals as goal

pub returns : goal.returns
returns c = checks _ _ _ c.check.ensures (λ i. omega (arith, c.shared_slice_known-1.given i))
