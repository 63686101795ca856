-- `sirophan::operations::match_card` meets its contract: the table is that of the definition, and slices hold bytes. Assumes nothing.
use native.Mathlib.Omega.{arith}
use Rattle.sirophan.proofs.Contracts.{matches}
use Rattle.sirophan.proofs.operations.match_card.Goals as goal

pub returns : goal.returns
returns c = matches _ _ _ _ c.match_card.ensures (λ i. omega (arith, c.shared_slice_known-1.given i)) (λ i. omega (arith, c.shared_slice_known-3-1.given i))
