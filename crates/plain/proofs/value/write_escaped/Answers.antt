-- `plain::value::write_escaped` meets its contract: what stands and what is left make the whole. Assumes nothing.
use native.Mathlib.Omega.{arith}
use Rattle.plain.proofs.Bytes.{escaping_start, escaping_room, escaping_fits, escaping_next, escaping_end}
use borrow.Author.Rules.{rules}
use Rattle.plain.proofs.value.write_escaped.Goals as goal

pub write_escaped_byte-n-requires : goal.write_escaped_byte-n-requires
write_escaped_byte-n-requires c = search (escaping_room, rules)

pub loop-b-preserved : goal.loop-b-preserved
loop-b-preserved c = search (escaping_next, rules)

pub returns : goal.returns
returns c = search (escaping_end, rules)
