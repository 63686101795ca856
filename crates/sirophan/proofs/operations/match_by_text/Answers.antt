-- `sirophan::operations::match_by_text` meets its contract, which is that of match_card. Assumes nothing.
use native.Mathlib.Omega.{arith}
use Rattle.sirophan.proofs.Contracts.{matches}
use Rattle.sirophan.proofs.operations.match_by_text.Goals as goal

pub returns : goal.returns
returns c = matches _ _ _ _ c.match_by_text.ensures (λ i. omega (arith, c.shared_slice_known-1.given i)) (λ i. omega (arith, c.shared_slice_known-3-1.given i))
