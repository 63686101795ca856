-- `sealing::put_sum` meets its contract: the bytes from 508 on are those of the number. Assumes nothing.
use mathlib.Core.Path.{◌∙◌}
use Rattle.sealing.proofs.Sealing.{four-stored}
use Rattle.sealing.proofs.put_sum.Goals as goal

pub returns : goal.returns
returns c = four-stored _ c.requires _ (c.copy_from_slice.ensures.after ∙ c.to_le_bytes.ensures)
