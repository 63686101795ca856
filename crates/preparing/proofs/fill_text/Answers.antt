-- `preparing::fill_text` meets its contract. Assumes nothing.
use borrow.Author.Rules.{rules}
use mathlib.Core.Path.{◌∙◌, ap, sym}
use Rattle.filter.specs.Walks.{top_spot}
use Rattle.std.proofs.lemmas.Result.{err_from_is_err_and}
use Rattle.preparing.proofs.Filled.{fill_size, text_room, fill_nothing, fill_within, fill_unread, fill_answered}
use Rattle.sheet.specs.Sheet.{parameters_of}
use Rattle.preparing.proofs.fill_text.Goals as goal

pub returns-in_err-text : goal.returns-in_err-text
returns-in_err-text c = let p = err_from_is_err_and c.from_residual.result c.from_residual.ensures.1 in rw (p.1, p.2) (search (fill_size, c.in_err-text.ensures.refused, rules))

pub write_filter-requires : goal.write_filter-requires
write_filter-requires c = record { room = text_room (parameters_of c.args.sheet.now) _ _ c.in_ok-text.ensures.accepted _ _ (c.top.ensures ∙ ap top_spot (sym c.in_ok-text.ensures.accepted.0)) c.requires.buffer_len }

pub returns-in_default : goal.returns-in_default
returns-in_default c = search (fill_nothing, c.in_ok-text.ensures.accepted, rules)

pub read_whole-requires : goal.read_whole-requires
read_whole-requires c = search (fill_within, c.in_ok-text.ensures.accepted, rules)

pub returns-in_err-read_whole : goal.returns-in_err-read_whole
returns-in_err-read_whole c =
    let p = err_from_is_err_and c.from_residual-in_err-read_whole.result c.from_residual-in_err-read_whole.ensures.1 in
    rw (p.1, p.2) (fill_unread _ _ _ c.in_ok-text.ensures.accepted _ (c.top.ensures ∙ ap top_spot (sym c.in_ok-text.ensures.accepted.0)) _ _ _ c.write_filter.ensures _ c.in-Some.is _ c.read_whole.ensures _ c.in_err-read_whole.was)

pub returns : goal.returns
returns c =
    rw c.and.ensures (fill_answered _ _ _ c.in_ok-text.ensures.accepted _ (c.top.ensures ∙ ap top_spot (sym c.in_ok-text.ensures.accepted.0)) _ _ _ c.write_filter.ensures _ c.in-Some.is _ c.read_whole.ensures c.in_ok-read_whole.was _ c.outcome.ensures c.requires.buffer_len)
