-- `query::query::read_query` meets its contract. The loop's invariant: the rows keep the pairs so far, and those that are left make the query. Assumes nothing.
use Prim.Native.Nat.{◌-◌}
use mathlib.Core.Path.{◌≡◌}
use lib.ListN.{length}
use Rattle.query.proofs.Passing.{Pass}
use Rattle.query.proofs.query.read_query.Given as goal

abbrev pub invariant-loop-lengths : goal.invariant-loop-lengths
invariant-loop-lengths l = Pass l.text l.initial.bytes l.bytes l.rows l.used l.at × ((length l.bytes ≡ length l.initial.bytes) × (length l.value ≡ 1024))

abbrev pub decreases-loop-lengths : goal.decreases-loop-lengths
decreases-loop-lengths l = length l.text - l.at
