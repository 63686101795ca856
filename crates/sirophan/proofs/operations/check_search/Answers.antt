-- `sirophan::operations::check_search` meets its contract: the table is that of the definition, and slices hold bytes. Assumes nothing.
use native.Mathlib.Omega.{arith}
use Rattle.sirophan.proofs.Contracts.{checks_search}
use Rattle.sirophan.proofs.operations.check_search.Goals as goal

pub returns : goal.returns
returns c = checks_search _ _ _ c.check_search.ensures (λ i. omega (arith, c.shared_slice_known-1.given i))
