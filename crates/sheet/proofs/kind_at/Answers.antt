-- `sheet::kind_at` meets its contract: the parameter at the index tells its kind. Assumes nothing.
use mathlib.Core.Path.{◌≡◌, ◌∙◌}
use borrow.Author.Rules.{rules}
use Rattle.std.specs.Option.{option_map, option_map_or}
use Rattle.std.specs.List.{slice_get}
use Rattle.std.proofs.lemmas.Iterator.Consumers.{nth_from_yields_List}
use Rattle.block.proofs.Walking.{walk_listed}
use Rattle.block.specs.Walking.{made, coming}
use Rattle.sheet.specs.Sheet.{parameter}
use Rattle.sheet.proofs.Search.{kind_got}
use Rattle.sheet.proofs.kind_at.Goals as goal

pub returns : goal.returns
returns c =
    let got : option_map (made parameter) c.nth.result ≡ slice_get (coming parameter c.args.parameters) c.args.index = rw (← c.from.ensures) (nth_from_yields_List c.nth.result c.nth.new.self _ c.nth.ensures.ran (walk_listed parameter c.args.parameters)) in
    let told : c.map_or.result ≡ option_map_or (λ p. p.tag) c.nth.result 0 = search rules in
    told ∙ kind_got (coming parameter c.args.parameters) c.args.index c.nth.result got
