-- `judge::sets::conforms` meets its contract: the closure is the definition's test. Assumes nothing.
use mathlib.Core.Path.{ap, ◌∙◌}
use lib.ListN.{get_or}
use borrow.Author.Rules.{rules}
use Rattle.std.proofs.lemmas.Iterator.Search.{all_from_yields_List}
use Rattle.block.proofs.Walking.{walk_listed}
use Rattle.card.specs.Card.{Entry, entry}
use Rattle.kind.specs.Readable.{card_readable}
use Rattle.judge.specs.Sets.{conforms_to}
use Rattle.judge.proofs.Entries.{conforms_all}
use Rattle.judge.proofs.sets.conforms.Goals as goal

pub returns : goal.returns
returns c =
    all_from_yields_List (λ (e : Entry). card_readable (get_or c.args.kinds.now e.index 0) e.text) c.all.new.self _ _ c.all.ensures.ran (walk_listed entry c.entries.result)
    (λ x b q k. search rules)
    ∙ conforms_all c.args.kinds.now _
    ∙ ap (conforms_to c.args.kinds.now) c.entries.ensures.entries
