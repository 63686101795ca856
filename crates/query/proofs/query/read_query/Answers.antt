-- `query::query::read_query` meets its contract. The loop's invariant: the rows keep the pairs so far, and those that are left make the query. Assumes nothing.
use borrow.Author.Rules.{rules}
use mathlib.Core.Path.{refl}
use Rattle.query.proofs.Passing.{pass-starts, pass-within, pass-less, pair_in_value, pass_used, pair_in_bytes, pass_bad, pass_until, pass-value, pass_count, pass_room, pass_few, pass-next, pass-ends}
use Rattle.query.proofs.query.read_query.Goals as goal

pub loop-lengths-init : goal.loop-lengths-init
loop-lengths-init c = (search (pass-starts, rules), (refl, search rules))

pub first_from-end-requires : goal.first_from-end-requires
first_from-end-requires c = search (pass-within, rules)

pub slice_bounds-read_pair-count-in-loop-lengths : goal.slice_bounds-read_pair-count-in-loop-lengths
slice_bounds-read_pair-count-in-loop-lengths c = search (pass_used, rules)

pub read_pair-read-requires : goal.read_pair-read-requires
read_pair-read-requires c = search (pair_in_value, pair_in_bytes, rules)

pub returns-in_default : goal.returns-in_default
returns-in_default c = search (pass_bad, rules)

pub overflow_add-until : goal.overflow_add-until
overflow_add-until c = record { fits = search (pass_until, rules) }

pub slice_bounds-value-end : goal.slice_bounds-value-end
slice_bounds-value-end c = search (pass-value, rules)

pub slice_bounds-keep_pair-end : goal.slice_bounds-keep_pair-end
slice_bounds-keep_pair-end c = search (pass_count, rules)

pub keep_pair-held-requires-clause-start_in_bounds : goal.keep_pair-held-requires-clause-start_in_bounds
keep_pair-held-requires-clause-start_in_bounds c = search (pass_room, rules)

pub keep_pair-held-requires-clause-value_bound : goal.keep_pair-held-requires-clause-value_bound
keep_pair-held-requires-clause-value_bound c = search (pass_few, rules)

pub loop-lengths-smaller : goal.loop-lengths-smaller
loop-lengths-smaller c = search (pass-less, rules)

pub loop-lengths-preserved : goal.loop-lengths-preserved
loop-lengths-preserved c = (search (pass-next, rules), (search rules, search rules))

pub returns-then-end-text : goal.returns-then-end-text
returns-then-end-text c =
    pass-ends c.loop-lengths.invariant.0 _ c.first_from-end.ensures c.loop-lengths.invariant.1.0 _ _ _ _ c.read_pair-read.ensures c.in-Some.is (search rules) _ _ c.keep_pair-held.ensures c.if-end-text.true (search rules)
