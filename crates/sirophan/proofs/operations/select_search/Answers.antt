-- `sirophan::operations::select_search` meets its contract: the table is that of the definition, and slices hold bytes. Assumes nothing.
use native.Mathlib.Omega.{arith}
use Rattle.sirophan.proofs.Contracts.{selects_search_into}
use Rattle.sirophan.proofs.operations.select_search.Goals as goal

pub returns : goal.returns
returns c = selects_search_into _ _ _ _ _ _ c.select_search.ensures (λ i. omega (arith, c.shared_slice_known-1.given i)) (λ i. omega (arith, c.shared_slice_known-3-1.given i))
