-- `one_card::by_text::text_says` meets its contract. Assumes nothing.
use borrow.Author.Rules.{rules}
use mathlib.Core.Path.{◌∙◌, ap}
use Rattle.filter.specs.Walks.{top_spot}
use Rattle.filter.proofs.Walk.{top_within}
use Rattle.one_card.proofs.Judging.{says_asked}
use Rattle.one_card.proofs.by_text.text_says.Goals as goal

pub judge_filter-requires : goal.judge_filter-requires
judge_filter-requires c = top_within _ _ (c.top.ensures ∙ ap top_spot c.filter.view_is)

pub returns : goal.returns
returns c = says_asked _ _ _ _ c.requires.passing _ (c.top.ensures ∙ ap top_spot c.filter.view_is) _ c.judge_filter.ensures _ _ c.is_some_and.ensures (λ j h. search rules)
