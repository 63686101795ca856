-- `sheet::are_parameters` meets its contract: the closure is the definition's test. Assumes nothing.
use mathlib.Core.Path.{◌∙◌}
use borrow.Author.Rules.{rules}
use Rattle.std.proofs.lemmas.Iterator.Search.{all_from_yields_List}
use Rattle.sheet.specs.Sheet.{is_parameter, parameter}
use Rattle.block.proofs.Walking.{walk_listed}
use Rattle.block.specs.Walking.{coming}
use Rattle.sheet.proofs.Rules.{are_all}
use Rattle.sheet.proofs.are_parameters.Goals as goal

pub returns : goal.returns
returns c =
    all_from_yields_List (is_parameter c.args.marked) c.all.new.self _ _ c.all.ensures.ran (walk_listed parameter c.args.parameters) (λ x b q k. search rules)
    ∙ are_all c.args.marked (coming parameter c.args.parameters)
