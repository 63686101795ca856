-- `base::first_of` meets its contract: the run of other bytes ends at the first place of the byte. Assumes nothing.
use Rattle.base.proofs.Split.{first_place}
use Rattle.base.proofs.first_of.Goals as goal

pub returns : goal.returns
returns c = first_place _ _ _ c.first_from.ensures
