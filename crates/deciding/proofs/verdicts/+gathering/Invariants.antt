-- `deciding::verdicts::gather_from` and `gather_rest` meet their contracts. The loop keeps `Gathering`: the tests of the expression in hand before the row
-- are marked, and the rows state an expression. A second part is whole again and has fewer rows, which is the measure. Below the measures, each
-- has its callees, its invariant and the answers to its needs in the order of its code, each with the need's name. Assumes nothing.
use Prim.Native.Nat.{◌+◌, ◌*◌, ◌-◌}
use lib.ListN.{length}
use Rattle.card.specs.Card.{entries_of}
use Rattle.deciding.specs.Rows.{Gathering}
use Rattle.deciding.proofs.verdicts.+gathering.Given as goal

abbrev pub decreases-gather_from : goal.decreases-gather_from
decreases-gather_from l = 2 * length l.rows.now + 1

abbrev pub decreases-gather_rest : goal.decreases-gather_rest
decreases-gather_rest l = 2 * length l.rows.now

abbrev pub invariant-gather_rest-loop-at : goal.invariant-gather_rest-loop-at
invariant-gather_rest-loop-at l = Gathering l.fitting.kinds.now l.fitting.filter.now (entries_of l.fitting.card.now) l.rows l.first l.at l.next l.initial.marks l.marks

abbrev pub decreases-gather_rest-loop-at : goal.decreases-gather_rest-loop-at
decreases-gather_rest-loop-at l = length l.rows - l.at
