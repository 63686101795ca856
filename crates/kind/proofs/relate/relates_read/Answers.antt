-- `kind::relate::relates_read` meets its contract: what is read keeps to the bounds. Assumes nothing.
use mathlib.Core.Path.{sym, ◌∙◌}
use Rattle.std.proofs.iter.Serving.{serving}
use Rattle.kind.proofs.Values.{both_bounded}
use Rattle.kind.proofs.relate.relates_read.Goals as goal

pub is_some_and-requires : goal.is_some_and-requires
is_some_and-requires c = λ x e. let b = both_bounded _ _ _ x c.read.ensures c.requires (sym c.zip.ensures ∙ e) in grind (serving, b.0, b.1)
