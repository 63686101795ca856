-- `query::query::keep_pair` meets its contract. The loop's invariant: the rows keep the alternatives so far, and those that are left make the pair. Assumes nothing.
use borrow.Author.Rules.{rules}
use mathlib.Core.Path.{refl}
use Rattle.query.proofs.Holding.{holding_starts, holding_part, holding_room, holding_end, holding_few, holding_less, holding_again, holding_ends}
use Rattle.query.proofs.query.keep_pair.Goals as goal

pub loop-next-init : goal.loop-next-init
loop-next-init c = (search (holding_starts, rules), refl)

pub slice_bounds-next_alternative-count : goal.slice_bounds-next_alternative-count
slice_bounds-next_alternative-count c = search (holding_part, rules)

pub next_alternative-piece-requires : goal.next_alternative-piece-requires
next_alternative-piece-requires c = search (holding_room, rules)

pub overflow_add-end : goal.overflow_add-end
overflow_add-end c = search (holding_end, rules)

pub push-rows-requires : goal.push-rows-requires
push-rows-requires c = search (holding_few, rules)

pub loop-next-smaller : goal.loop-next-smaller
loop-next-smaller c = search (holding_less, rules)

pub loop-next-preserved : goal.loop-next-preserved
loop-next-preserved c = (search (holding_again, rules), search rules)

pub returns : goal.returns
returns c = search (holding_ends, rules)
