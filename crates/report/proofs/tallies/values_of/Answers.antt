-- `report::tallies::values_of` meets its contract: the entries that pass the closure's test are those under the parameter. Assumes nothing.
use mathlib.Core.Path.{◌≡◌, ap, ◌∙◌}
use native.Mathlib.Omega.{arith}
use lib.Dec.{eqb}
use lib.ListN.{length}
use borrow.Author.Rules.{rules}
use Rattle.std.specs.List.{filter}
use Rattle.std.proofs.lemmas.Iterator.Consumers.{YieldsList-from_filter, count_from_yields_List}
use Rattle.block.specs.Walking.{coming}
use Rattle.block.proofs.Walking.{walk_listed}
use Rattle.card.specs.Card.{Entry, entry, entries_of}
use Rattle.judge.specs.Sets.{values_at}
use Rattle.report.proofs.Values.{values_filtered, card_values_most}
use Rattle.report.proofs.tallies.values_of.Goals as goal

pub returns : goal.returns
returns c =
    let under = λ (e : Entry). eqb e.index c.args.index in
    let counted : c.count.result ≡ length (values_at c.args.index (entries_of c.args.card.now)) =
    count_from_yields_List _ c.count.result c.count.ensures.ran (YieldsList-from_filter _ under (walk_listed entry _) c.filter.ensures.closure (λ x b q k. search rules))
    ∙ ap (λ es. length (filter under es)) (ap (coming entry) c.filter.ensures.source ∙ c.entries.ensures.entries)
    ∙ values_filtered c.args.index (entries_of c.args.card.now)
    in
    record { count = counted; most = omega (arith, counted, card_values_most c.args.index c.args.card.now c.entries.ensures.well_formed) }
