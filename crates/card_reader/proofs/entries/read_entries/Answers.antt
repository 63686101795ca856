-- `card_reader::entries::read_entries` meets its contract: the entries so far are kept, and those to come decide. Assumes nothing.
use borrow.Author.Rules.{rules}
use Rattle.card_reader.proofs.Reading.{progress_start, progress_room, progress_within, progress_misfit, progress_next, progress_end}
use Rattle.card_reader.proofs.entries.read_entries.Goals as goal

pub loop-e-init : goal.loop-e-init
loop-e-init c =
    rw (c.into_iter-e-iterator.ensures.into_iter_gives, c.enumerate-e-items.ensures.source, c.enumerate-e-items.ensures.count)
    (progress_start _ _ _ _ c.entries.result c.entries.ensures.well_formed c.entries.ensures.block c.entries.ensures.entries (search rules) c.begin.ensures)

pub take_entry-requires-clause-end_bound : goal.take_entry-requires-clause-end_bound
take_entry-requires-clause-end_bound c = progress_within _ _ _ _ _ _ c.loop-e.invariant _ _ c.in-Some.ensures.steps.0 _ c.in-Some.ensures.steps.1

pub returns-then-not-take_entry : goal.returns-then-not-take_entry
returns-then-not-take_entry c =
    progress_misfit _ _ _ _ _ _ c.loop-e.invariant _ _ c.in-Some.ensures.steps.0 _ c.in-Some.ensures.steps.1 _ _ c.take_entry.ensures _ c.begin.ensures c.if-not-take_entry.true

pub loop-e-preserved : goal.loop-e-preserved
loop-e-preserved c =
    progress_next _ _ _ _ _ _ c.loop-e.invariant _ _ c.in-Some.ensures.steps.0 _ c.in-Some.ensures.steps.1 _ _ c.take_entry.ensures c.if-not-take_entry.false _ c.in-Some.ensures.steps.2

pub returns : goal.returns
returns c = progress_end _ _ _ _ _ _ c.loop-e.invariant c.entries.ensures.well_formed c.in-None.ensures.steps.0.0 _ c.begin.ensures
