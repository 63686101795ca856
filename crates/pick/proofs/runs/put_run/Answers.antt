-- `pick::runs::put_run` meets its contract: select counts no more than the list holds and refuses a card at its index, and what it lists
-- stands line by line. Assumes nothing.
use Rattle.std.proofs.Common.{arith, rules}
use Rattle.listing.proofs.Putting.{refusal_room}
use Rattle.pick.proofs.Selecting.{selected_count, selected_place, selected_run, refused_run}
use Rattle.pick.proofs.runs.put_run.Goals as goal

pub add_run-more-requires-clause-count_bound : goal.add_run-more-requires-clause-count_bound
add_run-more-requires-clause-count_bound c = omega (arith, selected_count _ _ _ _ c.select-selected.ensures _ c.in-Ok.is)

pub slice_bounds-put_listed-end : goal.slice_bounds-put_listed-end
slice_bounds-put_listed-end c = omega (arith, selected_count _ _ _ _ c.select-selected.ensures _ c.in-Ok.is)

pub place_in_file-place-requires-clause-place_bound :
    goal.place_in_file-place-requires-clause-place_bound
place_in_file-place-requires-clause-place_bound c = rw c.from-number.ensures (selected_place _ _ _ _ c.select-selected.ensures _ c.in-Err.is)

pub put_refusal-size-requires : goal.put_refusal-size-requires
put_refusal-size-requires c = search (refusal_room, rules)

pub returns-in-Ok : goal.returns-in-Ok
returns-in-Ok c = selected_run _ _ _ _ c.select-selected.ensures (search rules) _ c.in-Ok.is _ c.add_run-more.ensures _ c.put_listed.ensures

pub returns-in-Err : goal.returns-in-Err
returns-in-Err c = refused_run _ _ _ _ c.select-selected.ensures (search rules) _ _ c.in-Err.is c.from-number.ensures c.from.ensures c.place_in_file-place.ensures c.put_refusal-size.ensures
