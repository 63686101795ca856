-- `sirophan::operations::match_search` meets its contract: the table is that of the definition, and slices hold bytes. Assumes nothing.
use native.Mathlib.Omega.{arith}
use Rattle.sirophan.proofs.Contracts.{matches_search}
use Rattle.sirophan.proofs.operations.match_search.Goals as goal

pub returns : goal.returns
returns c = matches_search _ _ _ _ c.match_search.ensures (λ i. omega (arith, c.shared_slice_known-1.given i)) (λ i. omega (arith, c.shared_slice_known-3-1.given i))
