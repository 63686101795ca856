-- `base::first_from` meets its contract: the byte's place among what is left is where the run of others ends. Assumes nothing.
use mathlib.Core.Path.{◌∙◌}
use lib.Dec.{eqb}
use borrow.Author.Rules.{rules}
use Rattle.std.proofs.lemmas.Iterator.{YieldsList-from_slice}
use Rattle.std.proofs.lemmas.Iterator.Search.{position_from_yields_List}
use Rattle.base.proofs.Lists.{rest}
use Rattle.base.proofs.Runs.{place_ended}
use Rattle.base.proofs.first_from.Goals as goal

pub returns : goal.returns
returns c =
    place_ended _ _ _ c.requires _ _ _ (position_from_yields_List (λ b. eqb b c.args.byte) _ _ _ c.position.ensures.ran (YieldsList-from_slice _ (c.iter.ensures.rest ∙ rest c.args.s.now c.args.from)) (λ x b q k. search rules)) c.map_or.ensures (λ n k. search rules)
