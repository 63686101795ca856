-- `sheet::have_parents` meets its contract: the closure is the definition's test. Assumes nothing.
use mathlib.Core.Path.{◌∙◌}
use borrow.Author.Rules.{rules}
use Rattle.std.proofs.lemmas.Iterator.Search.{all_from_yields_List}
use Rattle.sheet.specs.Sheet.{Parameter, has_parent, parameter}
use Rattle.block.proofs.Walking.{walk_listed}
use Rattle.block.specs.Walking.{coming}
use Rattle.sheet.proofs.Rules.{parents_all}
use Rattle.sheet.proofs.have_parents.Goals as goal

pub returns : goal.returns
returns c =
    all_from_yields_List (λ (p : Parameter). has_parent (coming parameter c.args.parameters) p.kind p.bundle) c.all.new.self _ _ c.all.ensures.ran (walk_listed parameter c.args.parameters)
    (λ x b q k. search rules)
    ∙ parents_all (coming parameter c.args.parameters) (coming parameter c.args.parameters)
