-- `sheet::absent` meets its contract: the closure is the definition's test. Assumes nothing.
use mathlib.Core.Bool.{not}
use mathlib.Core.Path.{◌∙◌}
use borrow.Author.Rules.{rules}
use Rattle.std.proofs.lemmas.Iterator.Search.{all_from_yields_List}
use Rattle.base.specs.Lists.{equal}
use Rattle.base.proofs.Lists.{pointwise_equal}
use Rattle.sheet.specs.Sheet.{Parameter, clashes, parameter}
use Rattle.block.proofs.Walking.{walk_listed}
use Rattle.block.specs.Walking.{coming}
use Rattle.sheet.proofs.Rules.{absent_all}
use Rattle.sheet.proofs.absent.Goals as goal

pub returns : goal.returns
returns c =
    all_from_yields_List (λ (p : Parameter). not (clashes p.bundle c.args.bundle (equal p.name c.args.name.now))) c.all.new.self _ _ c.all.ensures.ran
    (walk_listed parameter c.args.parameters) (λ x b q k. search (pointwise_equal, rules))
    ∙ absent_all c.args.bundle c.args.name.now (coming parameter c.args.parameters)
