-- `plain::value::write_escaped` meets its contract: what stands and what is left make the whole. Assumes nothing.
use Rattle.plain.proofs.Bytes.{Escaping}
use Rattle.plain.proofs.value.write_escaped.Given as goal

abbrev pub invariant-loop-b : goal.invariant-loop-b
invariant-loop-b l = Escaping l.value l.initial.out l.out l.b-index l.n
