-- `judge::sets::some_counts` meets its contract: the closure is the test of an entry. Assumes nothing.
use mathlib.Core.Bool.{◌&&◌}
use mathlib.Core.Path.{ap, ◌∙◌}
use lib.Dec.{eqb}
use borrow.Author.Rules.{rules}
use Rattle.std.proofs.lemmas.Iterator.Search.{any_from_yields_List}
use Rattle.block.proofs.Walking.{walk_listed}
use Rattle.card.specs.Card.{Entry, entry}
use Rattle.judge.specs.Sets.{values_at, counts, chosen_of}
use Rattle.judge.specs.Verdicts.{some_value, text_counts}
use Rattle.judge.proofs.Entries.{chosen_any}
use Rattle.judge.proofs.sets.some_counts.Goals as goal

pub returns : goal.returns
returns c =
    any_from_yields_List (λ (e : Entry). (counts c.args.chosen e.occurrence && eqb e.index c.args.index) && text_counts c.args.meaning c.args.value.now e.text) c.any.new.self _ _ c.any.ensures.ran
    (walk_listed entry c.entries.result) (λ x b q k. search rules)
    ∙ chosen_any _ _ _ _
    ∙ ap (λ es. some_value (text_counts c.args.meaning c.args.value.now) (values_at c.args.index (chosen_of c.args.chosen es))) c.entries.ensures.entries
