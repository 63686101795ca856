-- `base::name::all_name_parts` meets its contract: the closure is the definition's test. Assumes nothing.
use mathlib.Core.Path.{◌∙◌}
use borrow.Author.Rules.{rules}
use Rattle.std.proofs.lemmas.Iterator.{YieldsList-from_slice}
use Rattle.std.proofs.lemmas.Iterator.Search.{all_from_yields_List}
use Rattle.base.specs.Names.{is_name_part}
use Rattle.base.proofs.Lists.{list_all_every}
use Rattle.base.proofs.name.all_name_parts.Goals as goal

pub returns : goal.returns
returns c =
    all_from_yields_List is_name_part _ _ _ c.all.ensures.ran (YieldsList-from_slice c.args.s.now cc) (λ x b q k. search rules) ∙ list_all_every is_name_part c.args.s.now
