-- `block::zeros` meets its contract: the fold joins the test of each byte. Assumes nothing.
use mathlib.Core.Path.{◌∙◌}
use Prim.Native.Nat.{ℕ}
use mathlib.Core.Bool.{Bool, true, ◌&&◌}
use lib.Dec.{eqb}
use borrow.Author.Rules.{rules}
use Rattle.std.proofs.lemmas.Iterator.{YieldsList-from_slice}
use Rattle.std.proofs.lemmas.Iterator.Consumers.{fold_from_yields_List}
use Rattle.base.proofs.Loops.{fold_every}
use Rattle.block.specs.Items.{zeros}
use Rattle.block.proofs.zeros.Goals as goal

pub returns : goal.returns
unfolding zeros
returns c =
    fold_from_yields_List _ (λ (all : Bool) (b : ℕ). all && eqb b 0) _ _ c.fold.ensures.ran (YieldsList-from_slice c.args.s.now c.iter.ensures.rest) (λ a x b q k. search rules)
    ∙ fold_every (λ (b : ℕ). eqb b 0) true c.args.s.now
