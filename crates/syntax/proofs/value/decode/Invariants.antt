-- `syntax::value::decode` meets its contract. The loop's invariant: what was written and what is left make the whole value. Assumes nothing.
use mathlib.Core.Path.{◌≡◌}
use lib.ListN.{length}
use Rattle.syntax.proofs.Decoding.{Decoding}
use Rattle.syntax.proofs.value.decode.Given as goal

abbrev pub invariant-loop-b : goal.invariant-loop-b
invariant-loop-b l = Decoding l.raw l.out l.b-index l.n l.pending × (length l.out ≡ length l.initial.out)
