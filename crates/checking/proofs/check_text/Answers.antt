-- `checking::check_text` meets its contract: the steps are those of the definition. Assumes nothing.
use borrow.Author.Rules.{rules}
use mathlib.Core.Path.{◌∙◌, ap, sym}
use Rattle.filter.specs.Walks.{top_spot}
use Rattle.std.proofs.lemmas.Result.{err_from_is_err_and}
use Rattle.filter.specs.Folds.{walked, reading}
use Rattle.filter.proofs.Walk.{top_within, filter_ahead}
use Rattle.filter.proofs.Reading.{walked_cases}
use Rattle.checking.proofs.Checking.{text_refused, text_nothing, text_unread, text_answered}
use Rattle.checking.proofs.check_text.Goals as goal

pub returns-in_err-text : goal.returns-in_err-text
returns-in_err-text c = let p = err_from_is_err_and c.from_residual.result c.from_residual.ensures.1 in rw (p.1, p.2) (text_refused _ _ _ c.in_err-text.ensures.refused)

pub check_filter-requires : goal.check_filter-requires
check_filter-requires c = top_within _ _ (c.top.ensures ∙ ap top_spot (sym c.in_ok-text.ensures.accepted.0))

pub returns-in_default : goal.returns-in_default
returns-in_default c = search (text_nothing, c.in_ok-text.ensures.accepted, rules)

pub read_whole-requires : goal.read_whole-requires
read_whole-requires c = (filter_ahead walked walked_cases (reading _ _) _ _ _ _ _ _ _ c.check_filter.ensures c.in-Some.is).1

pub returns-in_err-read_whole : goal.returns-in_err-read_whole
returns-in_err-read_whole c =
    let p = err_from_is_err_and c.from_residual-in_err-read_whole.result c.from_residual-in_err-read_whole.ensures.1 in
    rw (p.1, p.2) (text_unread _ _ _ c.in_ok-text.ensures.accepted _ (c.top.ensures ∙ ap top_spot (sym c.in_ok-text.ensures.accepted.0)) _ c.check_filter.ensures _ c.in-Some.is _ c.read_whole.ensures _ c.in_err-read_whole.was)

pub returns : goal.returns
returns c = text_answered _ _ _ c.in_ok-text.ensures.accepted _ (c.top.ensures ∙ ap top_spot (sym c.in_ok-text.ensures.accepted.0)) _ c.check_filter.ensures _ c.in-Some.is _ c.read_whole.ensures c.in_ok-read_whole.was _ c.outcome.ensures
