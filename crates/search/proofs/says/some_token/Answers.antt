-- `search::says::some_token` meets its contract: the closure is the test of an entry. Assumes nothing.
use mathlib.Core.Bool.{◌&&◌}
use mathlib.Core.Path.{ap, ◌∙◌}
use lib.Dec.{eqb}
use borrow.Author.Rules.{rules}
use Rattle.std.proofs.lemmas.Iterator.Search.{any_from_yields_List}
use Rattle.block.proofs.Walking.{walk_listed}
use Rattle.token.specs.Match.{matches_at}
use Rattle.card.specs.Card.{Entry, entry}
use Rattle.judge.specs.Sets.{values_at}
use Rattle.judge.specs.Verdicts.{some_value}
use Rattle.judge.proofs.Entries.{value_any}
use Rattle.search.proofs.says.some_token.Goals as goal

pub returns : goal.returns
returns c =
    any_from_yields_List (λ (e : Entry). eqb e.index c.args.index && matches_at e.text c.args.split c.args.asked.now) c.any.new.self _ _ c.any.ensures.ran (walk_listed entry c.entries.result)
    (λ x b q k. search rules)
    ∙ value_any _ _ _
    ∙ ap (λ es. some_value (λ x. matches_at x c.args.split c.args.asked.now) (values_at c.args.index es)) c.entries.ensures.entries
