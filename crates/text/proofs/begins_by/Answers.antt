-- `text::begins_by` meets its contract: where the last five bits of the first bytes differ, b does not begin there. Assumes nothing.
use mathlib.Core.Path.{refl}
use Rattle.text.proofs.Compare.{begins_differ}
use Rattle.text.proofs.begins_by.Goals as goal

pub returns-then-a-at : goal.returns-then-a-at
returns-then-a-at c = begins_differ _ _ _ _ _ c.requires.b_in_bounds c.requires.b_nonzero refl c.requires.first_value c.if-a-at.true
