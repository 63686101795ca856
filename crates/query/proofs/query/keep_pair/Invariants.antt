-- `query::query::keep_pair` meets its contract. The loop's invariant: the rows keep the alternatives so far, and those that are left make the pair. Assumes nothing.
use mathlib.Core.Path.{◌≡◌}
use lib.ListN.{length}
use Rattle.query.proofs.Holding.{Holding, room_left}
use Rattle.query.proofs.query.keep_pair.Given as goal

abbrev pub invariant-loop-next : goal.invariant-loop-next
invariant-loop-next l = Holding l.value l.at l.name l.until l.start l.initial.bytes l.initial.rows l.bytes l.rows l.used l.next × (length l.bytes ≡ length l.initial.bytes)

abbrev pub decreases-loop-next : goal.decreases-loop-next
decreases-loop-next l = room_left (length l.value) l.next
